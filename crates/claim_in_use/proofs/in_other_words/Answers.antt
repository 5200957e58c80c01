-- `claim_in_use::in_other_words` meets its contract: by the contracts of the six functions that it calls.
-- Assumes nothing.
use Rattle.claim_in_use.proofs.OtherWords as laws
use Rattle.claim_in_use.proofs.in_other_words.Goals as goal

pub returns : goal.returns
returns c =
    laws.in_other_words
    c.joined_ends.ensures c.the_records.ensures
    c.always_good.ensures c.denials.ensures c.signals.ensures c.record_places.ensures.can_end
