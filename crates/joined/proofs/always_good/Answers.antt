-- `joined::always_good` meets its contract.
-- Assumes nothing.
use Rattle.joined.proofs.AlwaysGood as laws
use Rattle.joined.proofs.always_good.Goals as goal

pub returns : goal.returns
returns c = laws.always_good
