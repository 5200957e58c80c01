-- `joined::signals` meets its contract.
-- Assumes nothing.
use Rattle.joined.proofs.SignalsProved as laws
use Rattle.joined.proofs.signals.Goals as goal

pub returns : goal.returns
returns c = laws.the_signals
