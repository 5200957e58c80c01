-- `sending::bytes_given::keep` meets its contract. It is a copy to the part that starts behind the bytes held.
-- Assumes nothing.
use Rattle.cells.proofs.Copies.{copy_part}
use Rattle.sending.proofs.bytes_given.keep.Goals as goal

pub returns : goal.returns
returns c =
    let a = c.args in
    copy_part a.held a.bytes.now a.send.now c.copy.new.to c.copy.ensures.cells
