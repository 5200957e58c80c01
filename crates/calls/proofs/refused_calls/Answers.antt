-- `calls::refused_calls` meets its contract.
-- Assumes nothing.
use Rattle.calls.proofs.Refusals as laws
use Rattle.calls.proofs.refused_calls.Goals as goal

pub returns : goal.returns
returns c = laws.refusals
