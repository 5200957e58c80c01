-- `calls::denying` meets its contract.
-- Assumes nothing.
use Rattle.calls.proofs.ErrorLaws as laws
use Rattle.calls.proofs.denying.Goals as goal

pub returns : goal.returns
returns c = laws.denying
