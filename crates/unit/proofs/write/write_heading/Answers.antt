-- `unit::write::write_heading` meets its contract. Five stores are the five bytes in front of what was there.
-- Assumes nothing.
use mathlib.Core.Path.{◌≡◌}
use Rattle.std.proofs.Common.{◌/◌, ◌%◌, [], ◌∷◌, arith, length-set}
use lib.Seq.{sets-eq}
use Rattle.cells.specs.Cells.{front}
use Rattle.unit.specs.Unit.{unit_bytes}
use Rattle.unit.proofs.write.write_heading.Goals as goal

pub bounds-unit-1 : goal.bounds-unit-1
bounds-unit-1 c = simp length-set (omega arith)

pub bounds-unit-2 : goal.bounds-unit-2
bounds-unit-2 c = simp length-set (omega arith)

pub bounds-unit-3 : goal.bounds-unit-3
bounds-unit-3 c = simp length-set (omega arith)

pub returns : goal.returns
unfolding unit_bytes front
returns c = let a = c.args in
    let high : a.number / 256 % 256 ≡ a.number / 256 = omega arith in
    rw (c.to_be_bytes.ensures, high)
    (sets-eq (a.number / 256 ∷ a.number % 256 ∷ a.h.b0 ∷ a.h.b1 ∷ a.h.b2 ∷ []) a.unit.now 0 (omega arith))
