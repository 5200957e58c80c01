-- `theorems::whole_tables` meets its contract: the three claims of specs/RecordClaims.antt on tables.
-- Assumes nothing.
use Rattle.logical_record.proofs.WholeTables.{whole_tables_are, whole_tables_joined, whole_tables_parts}
use Rattle.logical_record.proofs.theorems.whole_tables.Goals as goal

pub returns : goal.returns
returns c = record {
  are = whole_tables_are;
  found = whole_tables_joined;
  no_record_lost = whole_tables_parts;
}
