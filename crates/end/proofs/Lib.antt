pub mod RecordGood
mod RoomToWrite
mod DecisionCells
mod UnitsMade
mod SendDataCells
mod ReceiveCells
mod RoomToReceive
mod UnitFacts
mod ReceiveUnitRows
mod ReceiveUnitCells
mod ExpeditedCells
