mod BytesLeft
mod BytesAhead
mod Groups
mod CanEnd
pub mod Walks
pub mod RecordEnds
pub mod Rests
pub mod WholeRecords
pub mod WholeTables
