-- `claim_in_use::one_signal` meets its contract: by the contracts of the four functions that it calls.
-- Assumes nothing.
use Rattle.claim_in_use.proofs.Signal as laws
use Rattle.claim_in_use.proofs.one_signal.Goals as goal

pub returns : goal.returns
returns c =
    laws.one_signal
    c.joined_ends.ensures c.signals.ensures c.signalling.ensures c.deferring.ensures
