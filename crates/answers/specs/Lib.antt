pub mod FirstNo
pub mod Answers
pub mod Refusals
