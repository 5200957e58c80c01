-- `attach_header::subfields::count` meets its contract. The loop's invariant: those counted and those that are left are all.
-- Assumes nothing.
use mathlib.Core.Path.{◌≡◌}
use Prim.Native.Nat.{◌+◌, ◌-◌, ◌≤◌}
use lib.ListN.{length, drop}
use Rattle.attach_header.specs.Read.{count_of, subfields}
use Rattle.attach_header.proofs.subfields.count.Given as goal

abbrev pub invariant-loop : goal.invariant-loop
invariant-loop l = (l.at ≤ length l.s) × (l.n ≤ l.counter) × (l.n + count_of l.kind (subfields (3 - l.counter) (drop l.at l.s)) ≡ count_of l.kind (subfields 3 l.s))
