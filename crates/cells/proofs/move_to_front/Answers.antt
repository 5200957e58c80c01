-- `cells::move_to_front` meets its contract. From a place past the end there is nothing to move.
-- Assumes nothing.
use Rattle.std.proofs.Common.{sym, ap, ◌∙◌, drop, length-drop, drop_of_length-le}
use lib.Seq.{paste}
use Rattle.cells.proofs.Fronts.{front_none}
use Rattle.cells.proofs.Moves.{moved_all}
use Rattle.cells.proofs.move_to_front.Goals as goal

pub returns-then-from-a : goal.returns-then-from-a
returns-then-from-a c =
    let a = c.args in
    let s = drop a.from a.a.now in
    c.copy_within.ensures.after ∙ ap (paste a.a.now 0 s) (sym (length-drop a.from a.a.now)) ∙ moved_all a.a.now s

pub returns-else-from-a : goal.returns-else-from-a
returns-else-from-a c = sym (rw (drop_of_length-le c.args.a.now {i = c.args.from} c.if-from-a.false) (front_none c.args.a.now))
