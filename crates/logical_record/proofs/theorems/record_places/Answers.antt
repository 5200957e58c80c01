-- `theorems::record_places` meets its contract: the two claims of specs/RecordClaims.antt on record places.
-- Assumes nothing.
use Rattle.logical_record.proofs.WholeRecords.{bit_remembered}
use Rattle.logical_record.proofs.CanEnd.{every_place_can_end}
use Rattle.logical_record.proofs.theorems.record_places.Goals as goal

pub returns : goal.returns
returns c = record {
  bit_remembered = bit_remembered;
  can_end = every_place_can_end;
}
