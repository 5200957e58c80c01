-- `calls::stays_good` meets its contract.
-- Assumes nothing.
use Rattle.calls.proofs.RecordStaysGood as laws
use Rattle.calls.proofs.stays_good.Goals as goal

pub returns : goal.returns
returns c = laws.stays_good
