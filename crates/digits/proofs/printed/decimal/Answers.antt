-- `digits::printed::decimal` meets its contract. The invariant: the digits of what is left, and those stored behind them, are those of the number; i + 1 cells are enough for what is left.
-- Assumes nothing.
use mathlib.Core.Path.{◌≡◌}
use Prim.Native.Nat.{◌+◌, ◌-◌}
use native.Mathlib.Omega.{arith}
use lib.ListN.{length, set, length-set}
use Rattle.digits.proofs.PrintedDigits.{more_left, digit_stored, first_stored, rest_is_lem}
use Rattle.digits.proofs.printed.decimal.Goals as goal

pub loop-rest-preserved : goal.loop-rest-preserved
loop-rest-preserved c =
    let l = c.loop-rest in
    let f = more_left l.rest l.i l.invariant.1 c.loop-rest-test.true in
    let e : l.i - 1 + 1 ≡ l.i = omega arith in (
      omega arith,
      rw e f.1,
      simp length-set l.invariant.2,
      rw e (digit_stored c.args.n l.rest l.i l.digits l.invariant.4 (omega arith) (omega arith) l.invariant.3),
      omega arith,
    )

pub returns : goal.returns
returns c =
    let a = c.args in
    let l = c.loop-rest in
    let e = first_stored a.n l.rest l.i l.digits (omega arith) (omega arith) l.invariant.3 in
    let w : length (set l.digits l.i (48 + l.rest)) ≡ 20 = simp length-set l.invariant.2 in
    rw (← e, ← rest_is_lem l.i (set l.digits l.i (48 + l.rest)) w) c.put.ensures
