pub mod Codes
pub mod ImageParts
pub mod Image
