-- `claim_in_use::one_conversation` meets its contract: by the contracts of the five functions that it calls.
-- Assumes nothing.
use Rattle.claim_in_use.proofs.Conversation as laws
use Rattle.claim_in_use.proofs.one_conversation.Goals as goal

pub returns : goal.returns
returns c =
    laws.one_conversation
    c.joined_ends.ensures c.the_records.ensures
    c.always_good.ensures c.signals.ensures c.record_places.ensures.can_end
