pub mod Handing
pub mod Exported
pub mod Untouched
