-- `calls::units_fit` meets its contract.
-- Assumes nothing.
use Rattle.calls.proofs.UnitSizes as laws
use Rattle.calls.proofs.units_fit.Goals as goal

pub returns : goal.returns
returns c = laws.units_fit
