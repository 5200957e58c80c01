pub mod AnswerLine
pub mod Ascii
pub mod ReportExamples
pub mod OtherLines
pub mod AnswerWords
pub mod Prints
