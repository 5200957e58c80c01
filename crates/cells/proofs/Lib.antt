pub mod Moves
pub mod Fronts
pub mod PartLent
pub mod Copies
pub mod Equal
pub mod Finds
