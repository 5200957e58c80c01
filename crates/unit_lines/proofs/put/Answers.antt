-- `unit_lines::put` meets its contract. With room the frame stands behind the cells used; without it nothing changes.
-- Assumes nothing.
use mathlib.Core.Path.{refl, sym, ◌∙◌}
use native.Mathlib.Omega.{arith}
use lib.ListN.{length}
use Rattle.cells.specs.Cells.{written}
use Rattle.cells.proofs.PartLent.{part_is, part_back}
use Rattle.unit_lines.proofs.PutAndRemoved.{has_room_lem, room_for, joined, apart}
use Rattle.unit_lines.proofs.put.Goals as goal

pub overflow_add-result-then-has_room : goal.overflow_add-result-then-has_room
overflow_add-result-then-has_room c =
    let a = c.args in
    let r = room_for a.line (length a.cells.now) (length a.unit.now) (sym c.has_room.ensures ∙ c.if-has_room.true) in
    omega (arith, r, c.well_formed)

pub overflow_add-result-then-has_room-2 : goal.overflow_add-result-then-has_room-2
overflow_add-result-then-has_room-2 c =
    let a = c.args in
    let r = room_for a.line (length a.cells.now) (length a.unit.now) (sym c.has_room.ensures ∙ c.if-has_room.true) in
    omega (arith, r, c.well_formed)

pub returns-then-has_room : goal.returns-then-has_room
unfolding written
returns-then-has_room c =
    let a = c.args in
    let e = part_back a.line.used a.cells.now c.put_frame.new.cells in record {
      held = λ us h m s. rw (e, c.put_frame.ensures, part_is) (joined a.line a.cells.now us a.unit.now h m s);
      kept = λ f. absurd (apart (sym c.has_room.ensures ∙ c.if-has_room.true) f);
    }

pub returns-else-has_room : goal.returns-else-has_room
returns-else-has_room c =
    let a = c.args in record {
      held = λ us h m s. absurd (apart (has_room_lem a.line a.cells.now us (length a.unit.now) h m s) (sym c.has_room.ensures ∙ c.if-has_room.false));
      kept = λ f. (refl, refl);
    }
