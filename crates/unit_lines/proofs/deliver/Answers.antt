-- `unit_lines::deliver` meets its contract. At n 0 the line stays; n past the buffer is ruled out; else it is `put` of n bytes.
-- Assumes nothing.
use mathlib.Core.Path.{sym}
use native.Mathlib.Omega.{arith}
use borrow.Author.Tests.{ne_eqb}
use lib.Seq.{length-take-le}
use Rattle.unit_lines.proofs.deliver.Goals as goal

pub slice_bounds-put-end : goal.slice_bounds-put-end
slice_bounds-put-end c = let a = c.args in sym (length-take-le a.n a.unit.now (omega arith))

pub returns : goal.returns
returns c =
    let a = c.args in
    λ vs h m s t.
    rw (ne_eqb a.n 0 c.if-n-eq0.false)
    (c.put.ensures.held vs h m (rw (length-take-le a.n a.unit.now t) s))
