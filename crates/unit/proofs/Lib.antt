mod FixedRu
pub mod ReadByHeader
mod Writing
pub mod WrittenIsRead
pub mod UnitLaws
pub mod ExpeditedUnits
pub mod DataRu
pub mod MaximumFacts
