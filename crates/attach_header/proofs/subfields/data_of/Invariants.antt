-- `attach_header::subfields::data_of` meets its contract. The loop's invariant: what is left is good, and has the subfield that is looked for
-- exactly where all have it.
-- Assumes nothing.
use mathlib.Core.Path.{◌≡◌}
use mathlib.Core.Bool.{true}
use Prim.Native.Nat.{◌-◌, ◌≤◌}
use lib.ListN.{length, drop}
use Rattle.attach_header.specs.Read.{subfields_good, subfields, of_type}
use Rattle.attach_header.proofs.subfields.data_of.Given as goal

abbrev pub invariant-loop : goal.invariant-loop
invariant-loop l = (l.at ≤ length l.s) × (subfields_good (3 - l.counter) (drop l.at l.s) ≡ true) × (of_type l.kind (subfields (3 - l.counter) (drop l.at l.s)) ≡ of_type l.kind (subfields 3 l.s))
