pub mod OpeningQuestions
pub mod Opening
pub mod BindOpening
pub mod BindClaims
