pub mod Calls
pub mod UnitCounts
pub mod Laws
pub mod DeferLaws
pub mod ErrorLaws
pub mod ExpeditedLaws
