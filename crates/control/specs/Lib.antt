pub mod StateTests
pub mod Within
pub mod Questions
pub mod FieldChanged
