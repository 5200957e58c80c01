pub mod Agree
pub mod FiniteControl
pub mod DataFits
pub mod States
pub mod Within
