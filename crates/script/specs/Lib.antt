pub mod TextParts
pub mod FirstLine
pub mod Closing
pub mod WordsAsked
pub mod CallLine
pub mod ScriptExamples
pub mod LineEnds
