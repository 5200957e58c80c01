-- `sending::bytes_given::send_full` meets its contract. The unit is written of the two parts, and the rest is copied to the front.
-- Assumes nothing.
use mathlib.Core.Path.{◌∙◌}
use mathlib.Core.List.{◌++◌}
use Prim.Native.Nat.{◌+◌, ◌≤◌}
use native.Mathlib.Omega.{arith}
use lib.ListN.{length, length-append, take}
use lib.Seq.{length-take-le}
use Rattle.unit.proofs.UnitLaws.{cells_made_lem}
use Rattle.cells.proofs.Copies.{copy_rest}
use Rattle.sending.proofs.bytes_given.send_full.Goals as goal

pub returns-clause-cells : goal.returns-clause-cells
returns-clause-cells c =
    let a = c.args in
    let x = take a.held a.send.now in
    let y = take a.gone a.bytes.now in
    let h : 5 + length (x ++ y) ≤ length a.unit.now =
    omega (arith, length-append x y, length-take-le a.held a.send.now (omega arith), length-take-le a.gone a.bytes.now (omega arith)) in
    c.write_unit.ensures.cells ∙ cells_made_lem a.number a.header (x ++ y) a.unit.now h

pub returns-clause-kept : goal.returns-clause-kept
returns-clause-kept c =
    let a = c.args in
    copy_rest a.gone a.bytes.now a.send.now c.copy.new.to c.copy.ensures.cells
