-- `theorems::whole_records` meets its contract: the three claims of specs/RecordClaims.antt on records.
-- Assumes nothing.
use Rattle.logical_record.proofs.WholeRecords.{whole_records_are, whole_records_joined, whole_records_bytes}
use Rattle.logical_record.proofs.theorems.whole_records.Goals as goal

pub returns : goal.returns
returns c = record {
  are = whole_records_are;
  found = whole_records_joined;
  no_byte_lost = whole_records_bytes;
}
