-- `sending::bytes_given::send_held` meets its contract. The unit is written of the bytes held, for which it has room.
-- Assumes nothing.
use mathlib.Core.List.{append-nil}
use Prim.Native.Nat.{◌+◌, ◌≤◌}
use native.Mathlib.Omega.{arith}
use lib.ListN.{length, take}
use lib.Seq.{length-take-le}
use Rattle.unit.proofs.UnitLaws.{cells_made_lem}
use Rattle.sending.proofs.bytes_given.send_held.Goals as goal

pub returns : goal.returns
returns c =
    let a = c.args in
    let ru = take a.held a.send.now in
    let h : 5 + length ru ≤ length a.unit.now = omega (arith, length-take-le a.held a.send.now (omega arith)) in
    rw (c.write_unit.ensures.cells, append-nil ru) (cells_made_lem a.number a.header ru a.unit.now h)
