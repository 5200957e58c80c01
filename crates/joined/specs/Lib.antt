pub mod Lanes
pub mod Joined
pub mod Ends
pub mod Histories
pub mod Claim
pub mod Denials
pub mod Signals
