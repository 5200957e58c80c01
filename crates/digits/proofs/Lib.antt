mod DecimalDigits
mod HexadecimalBytes
pub mod Pairs
mod PrintedDigits
pub mod Puts
mod PrintedIsRead
