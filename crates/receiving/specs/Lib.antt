pub mod Receiving
pub mod UnitQuestions
pub mod BytesRead
