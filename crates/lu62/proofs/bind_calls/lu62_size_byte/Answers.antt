-- `lu62::bind_calls::lu62_size_byte` meets its contract. Number and byte are those of the answer.
-- Assumes nothing.
use Rattle.lu62.proofs.bind_calls.lu62_size_byte.Goals as goal

pub returns : goal.returns
returns c = rw c.size_byte-found.ensures
