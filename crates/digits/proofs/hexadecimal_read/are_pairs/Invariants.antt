-- `digits::hexadecimal_read::are_pairs` meets its contract. The loop's invariant: the digits left are pairs exactly where all are.
-- The measure is the number of digits left.
-- Assumes nothing.
use mathlib.Core.Path.{◌≡◌}
use lib.ListN.{length}
use Rattle.digits.specs.HexadecimalRead.{are_pairs}
use Rattle.digits.proofs.hexadecimal_read.are_pairs.Given as goal

abbrev pub invariant-loop-left : goal.invariant-loop-left
invariant-loop-left l = are_pairs l.left ≡ are_pairs l.text

abbrev pub decreases-loop-left : goal.decreases-loop-left
decreases-loop-left l = length l.left
