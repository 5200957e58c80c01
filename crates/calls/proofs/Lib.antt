mod CallWords
pub mod ByteLists
pub mod UnitsByHeader
pub mod ControlMoved
pub mod CallCases
pub mod CallBytes
pub mod Refusals
pub mod RecordStaysGood
pub mod CellsStayBytes
pub mod Credit
pub mod WindowSizes
pub mod UnitSizes
pub mod Prepared
pub mod AsInSend
pub mod DeferLaws
pub mod ErrorLaws
pub mod ExpeditedLaws
