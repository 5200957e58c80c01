-- `expedited::takes::take_unit` meets its contract: where the code stops, the row of questions stops, and only 21 names a rule.
-- Assumes nothing.
use native.Mathlib.Omega.{arith}
use lib.ListN.{length}
use borrow.Author.Tests.{leb-true}
use Rattle.cells.proofs.PartLent.{part_is}
use Rattle.expedited.proofs.TakeRows.{long, short_taken, broken_taken, headed_taken_lem}
use Rattle.expedited.proofs.takes.take_unit.Goals as goal

-- a heading was read, so byte 5 is within the unit
pub slice_bounds-headed_take-count : goal.slice_bounds-headed_take-count
slice_bounds-headed_take-count c = let taken = c.args.taken.now in leb-true 5 (length taken) (long taken _ c.in-Ok.ensures)

pub slice_bounds-headed_take-start : goal.slice_bounds-headed_take-start
slice_bounds-headed_take-start c =
    let taken = c.args.taken.now in
    let h = leb-true 5 (length taken) (long taken _ c.in-Ok.ensures) in
    omega arith

pub returns-in-Ok : goal.returns-in-Ok
returns-in-Ok c =
    let a = c.args in
    rw (c.headed_take.ensures, part_is) (headed_taken_lem a.x a.taken.now _ c.in-Ok.ensures)

pub returns-in-Err-TooShort : goal.returns-in-Err-TooShort
returns-in-Err-TooShort c =
    let a = c.args in
    rw (c.refused_take.ensures, c.refuse.ensures)
    (short_taken a.x a.taken.now (rw c.in-Err-TooShort.field-0-is at c.in-Err-TooShort.ensures))

pub returns-in-Err-Breaks : goal.returns-in-Err-Breaks
returns-in-Err-Breaks c =
    let a = c.args in
    rw (c.refused_take-in-Err-Breaks.ensures, c.refuse_naming.ensures, c.rule_number.ensures)
    (broken_taken a.x a.taken.now _ (rw c.in-Err-Breaks.field-0-is at c.in-Err-Breaks.ensures))
