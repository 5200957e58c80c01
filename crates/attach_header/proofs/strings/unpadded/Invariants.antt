-- `attach_header::strings::unpadded` meets its contract. What is left has the padding off where all has. The measure is the number of bytes left.
-- Assumes nothing.
use mathlib.Core.Path.{◌≡◌}
use lib.ListN.{length}
use Rattle.attach_header.specs.Characters.{unpadded}
use Rattle.attach_header.proofs.strings.unpadded.Given as goal

abbrev pub invariant-loop-s : goal.invariant-loop-s
invariant-loop-s l = unpadded l.s ≡ unpadded l.fn.s

abbrev pub decreases-loop-s : goal.decreases-loop-s
decreases-loop-s l = length l.s
