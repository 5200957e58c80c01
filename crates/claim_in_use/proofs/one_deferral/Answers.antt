-- `claim_in_use::one_deferral` meets its contract: by the contracts of the three functions that it calls.
-- Assumes nothing.
use Rattle.claim_in_use.proofs.Deferral as laws
use Rattle.claim_in_use.proofs.one_deferral.Goals as goal

pub returns : goal.returns
returns c = laws.one_deferral c.joined_ends.ensures c.the_records.ensures c.deferring.ensures
