-- `attach_header::subfields::subfields_good` meets its contract. The loop's invariant: what is left is good exactly where all is.
-- Assumes nothing.
use mathlib.Core.Path.{◌≡◌}
use Prim.Native.Nat.{◌-◌, ◌≤◌}
use lib.ListN.{length, drop}
use Rattle.attach_header.specs.Read.{subfields_good}
use Rattle.attach_header.proofs.subfields.subfields_good.Given as goal

abbrev pub invariant-loop : goal.invariant-loop
invariant-loop l = (l.at ≤ length l.s) × (subfields_good (3 - l.counter) (drop l.at l.s) ≡ subfields_good 3 l.s)
