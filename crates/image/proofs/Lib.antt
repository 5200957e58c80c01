mod Writes
mod OneByOne
mod BackAndForth
mod WhatIsRefused
pub mod WhatIsRead
pub mod ImageRoundTrip
