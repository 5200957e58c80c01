-- `answers::mark_read` meets its contract. It is an accepted answer with the mark of the record, and no byte.
-- Assumes nothing.
use Rattle.answers.proofs.mark_read.Goals as goal

pub returns : goal.returns
returns c = rw c.accept.ensures
