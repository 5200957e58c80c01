pub mod Maximum
pub mod Sequence
pub mod Ru
pub mod Unit
pub mod ExpeditedUnit
pub mod UnitClaims
