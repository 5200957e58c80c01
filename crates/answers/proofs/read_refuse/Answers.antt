-- `answers::read_refuse` meets its contract. The refusal is that of `refuse`, and nothing is copied.
-- Assumes nothing.
use Rattle.answers.proofs.read_refuse.Goals as goal

pub returns : goal.returns
returns c = rw c.refuse.ensures
