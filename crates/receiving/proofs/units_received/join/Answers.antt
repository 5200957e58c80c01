-- `receiving::units_received::join` meets its contract. Where more are held it is a copy behind the bytes held.
-- Assumes nothing.
use lib.ListN.{drop}
use borrow.Author.Tests.{ne_eqb}
use Rattle.cells.proofs.PartLent.{part_is}
use Rattle.cells.proofs.Copies.{copy_part}
use Rattle.receiving.proofs.units_received.join.Goals as goal

pub returns : goal.returns
returns c =
    let a = c.args in
    rw (ne_eqb _ _ c.if-after-before.false)
    (copy_part a.before (drop 5 a.taken.now) a.inbox.now c.copy.new.to
    (rw (part_is 5 a.taken.now) at c.copy.ensures.cells))
