-- `answers::bytes_read` meets its contract. It is an accepted answer with the count and the flags given, and no mark.
-- Assumes nothing.
use Rattle.answers.proofs.bytes_read.Goals as goal

pub returns : goal.returns
returns c = rw c.accept.ensures
