pub mod Characters
pub mod Fields
pub mod Read
pub mod Places
pub mod Written
pub mod AttachClaims
