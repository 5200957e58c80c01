-- `calls::credit_exact` meets its contract.
-- Assumes nothing.
use Rattle.calls.proofs.Credit as laws
use Rattle.calls.proofs.credit_exact.Goals as goal

pub returns : goal.returns
returns c = laws.credit_exact
