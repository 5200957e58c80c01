-- `digits::decimal_read::read_digits` meets its contract. The loop's invariant: the digits left, read on from the value, lead where all lead.
-- Assumes nothing.
use mathlib.Core.Path.{◌≡◌}
use Prim.Native.Nat.{◌≤◌}
use lib.ListN.{drop}
use Rattle.digits.specs.DecimalRead.{read_on}
use Rattle.digits.proofs.decimal_read.read_digits.Given as goal

abbrev pub invariant-loop-b : goal.invariant-loop-b
invariant-loop-b l = (l.value ≤ 65535) × (read_on l.value (drop l.b-index l.text) ≡ read_on 0 l.text)
