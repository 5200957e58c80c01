pub mod Chains
pub mod KeptWithin
