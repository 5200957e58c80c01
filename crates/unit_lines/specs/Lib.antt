pub mod UnitLine
