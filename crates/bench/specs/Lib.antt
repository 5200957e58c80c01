pub mod CallMade
pub mod Step
