-- `unit_lines::remove_oldest` meets its contract. Where no unit stands nothing changes; else the others move to the front.
-- Assumes nothing.
use mathlib.Core.Path.{sym}
use lib.Seq.{length-take-le}
use Rattle.unit_lines.proofs.PutAndRemoved.{end_within, removed}
use Rattle.unit_lines.proofs.remove_oldest.Goals as goal

pub slice_bounds-move_to_front-end : goal.slice_bounds-move_to_front-end
slice_bounds-move_to_front-end c = (end_within c.args.line c.args.cells.now c.in-Some.past (sym c.in-Some.ensures.is)).1

pub slice_bounds-move_to_front-end-2 : goal.slice_bounds-move_to_front-end-2
slice_bounds-move_to_front-end-2 c =
    sym (length-take-le c.args.line.used c.args.cells.now (end_within c.args.line c.args.cells.now c.in-Some.past (sym c.in-Some.ensures.is)).1)

pub overflow_sub-result : goal.overflow_sub-result
overflow_sub-result c = (end_within c.args.line c.args.cells.now c.in-Some.past (sym c.in-Some.ensures.is)).0

pub overflow_sub-result-2 : goal.overflow_sub-result-2
overflow_sub-result-2 c = (end_within c.args.line c.args.cells.now c.in-Some.past (sym c.in-Some.ensures.is)).2

pub returns-clause-removed : goal.returns-clause-removed
returns-clause-removed c = λ u us h.
    removed c.args.line c.args.cells.now u us h c.in-Some.past c.move_to_front.new.a (sym c.in-Some.ensures.is) c.move_to_front.ensures
