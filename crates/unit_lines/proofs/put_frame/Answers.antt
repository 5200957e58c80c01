-- `unit_lines::put_frame` meets its contract. Two stores of the length and a copy behind them are the frame.
-- Assumes nothing.
use Prim.Native.Nat.{◌/◌, ◌%◌}
use mathlib.Core.Path.{ap, ◌∙◌}
use native.Mathlib.Omega.{arith}
use lib.ListN.{length}
use Rattle.cells.proofs.Fronts.{front_length}
use Rattle.unit_lines.specs.UnitLine.{framed}
use Rattle.unit_lines.proofs.Frames.{frame_put}
use Rattle.unit_lines.proofs.put_frame.Goals as goal

pub shape_of-cells : goal.shape_of-cells
shape_of-cells c = let a = c.args in
    let n = length a.unit.now in
    ap length (frame_put (n / 256) (n % 256) a.unit.now a.cells.now c.copy.new.to (omega arith) c.copy.ensures.cells) ∙ front_length (framed a.unit.now) a.cells.now (omega arith)

pub returns : goal.returns
returns c = let a = c.args in
    let n = length a.unit.now in
    frame_put (n / 256) (n % 256) a.unit.now a.cells.now c.copy.new.to (omega arith) c.copy.ensures.cells
