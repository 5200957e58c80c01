-- `digits::printed::decimal` meets its contract. The invariant: the digits of what is left, and those stored behind them, are those of the number; i + 1 cells are enough for what is left.
-- Assumes nothing.
use mathlib.Core.Path.{◌≡◌}
use mathlib.Core.List.{◌++◌}
use Prim.Native.Nat.{◌+◌, ◌^◌, ◌<◌}
use lib.ListN.{length, drop}
use Rattle.digits.specs.Printed.{decimal_of}
use Rattle.digits.proofs.printed.decimal.Given as goal

abbrev pub invariant-loop-rest : goal.invariant-loop-rest
invariant-loop-rest l = (l.i < 20) × (l.rest < 10 ^ (l.i + 1)) × (length l.digits ≡ 20) × (decimal_of l.n ≡ decimal_of l.rest ++ drop (l.i + 1) l.digits) × (l.rest < 10 ^ 20)

abbrev pub decreases-loop-rest : goal.decreases-loop-rest
decreases-loop-rest l = l.rest
