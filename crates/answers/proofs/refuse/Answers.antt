-- `answers::refuse` meets its contract. Its sense is what `sense_of` finds in the table.
-- Assumes nothing.
use Rattle.answers.proofs.refuse.Goals as goal

pub returns : goal.returns
returns c = rw c.sense_of.ensures
