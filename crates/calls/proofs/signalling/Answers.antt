-- `calls::signalling` meets its contract.
-- Assumes nothing.
use Rattle.calls.proofs.ExpeditedLaws as laws
use Rattle.calls.proofs.signalling.Goals as goal

pub returns : goal.returns
returns c = laws.signalling
