pub mod OtherWords
pub mod Conversation
pub mod Deferral
pub mod Denial
pub mod Signal
