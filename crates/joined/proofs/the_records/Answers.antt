-- `joined::the_records` meets its contract.
-- Assumes nothing.
use Rattle.joined.proofs.ClaimProved.{the_records}
use Rattle.joined.proofs.the_records.Goals as goal

pub returns : goal.returns
returns c = the_records
