-- `bind::no_byte` meets its contract. The answer is the refusal's.
-- Assumes nothing.
use Rattle.bind.proofs.no_byte.Goals as goal

pub returns : goal.returns
returns c = rw c.refuse.ensures
