mod Normalized
mod Search
mod SizeBytes
mod SizeAsked
pub mod BindClaims
