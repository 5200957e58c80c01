pub mod FiniteHeader
mod Candidates
mod EveryByte
mod LaterBits
mod SameAnswers
pub mod RoundTrip
pub mod OnlyH1
mod LowestNamed
pub mod HeadersCounted
pub mod FiftyOne
pub mod ExpeditedHeaders
