pub mod Cases
pub mod Tests
pub mod Finite
pub mod Below
