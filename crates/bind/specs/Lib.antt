pub mod SessionBytes
pub mod BindClaims
