-- `claim_in_use::one_denial` meets its contract: by the contracts of the four functions that it calls.
-- Assumes nothing.
use Rattle.claim_in_use.proofs.Denial as laws
use Rattle.claim_in_use.proofs.one_denial.Goals as goal

pub returns : goal.returns
returns c =
    laws.one_denial
    c.joined_ends.ensures c.the_records.ensures c.denials.ensures c.denying.ensures
