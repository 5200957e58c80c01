-- `calls::deferring` meets its contract.
-- Assumes nothing.
use Rattle.calls.proofs.DeferLaws as laws
use Rattle.calls.proofs.deferring.Goals as goal

pub returns : goal.returns
returns c = laws.deferring
