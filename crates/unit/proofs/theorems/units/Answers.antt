-- `theorems::units` meets its contract: the claims of specs/UnitClaims.antt.
-- Assumes nothing.
use Rattle.unit.proofs.WrittenIsRead.{written_is_read, expedited_written_is_read}
use Rattle.unit.proofs.theorems.units.Goals as goal

pub returns : goal.returns
returns c = record {
  written = written_is_read;
  expedited = expedited_written_is_read;
}
