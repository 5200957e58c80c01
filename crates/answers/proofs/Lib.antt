pub mod Rows
pub mod TwoRows
pub mod Naming
pub mod Outcomes
