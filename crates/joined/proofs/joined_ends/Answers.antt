-- `joined::joined_ends` meets its contract: demand 3.
-- Assumes nothing.
use Rattle.joined.proofs.ClaimProved.{proved}
use Rattle.joined.proofs.joined_ends.Goals as goal

pub returns : goal.returns
returns c = proved
