-- `worked_examples::whole_conversations` meets its contract, by computation.
-- Assumes nothing.
use Rattle.worked_examples.proofs.Conversations.{held}
use Rattle.worked_examples.proofs.whole_conversations.Goals as goal

pub returns : goal.returns
returns c = held
