pub mod DecimalRead
pub mod HexadecimalRead
pub mod Printed
pub mod PutAt
pub mod ReadBack
pub mod DigitExamples
