-- `joined::denials` meets its contract.
-- Assumes nothing.
use Rattle.joined.proofs.DenialsProved as laws
use Rattle.joined.proofs.denials.Goals as goal

pub returns : goal.returns
returns c = laws.the_denials
