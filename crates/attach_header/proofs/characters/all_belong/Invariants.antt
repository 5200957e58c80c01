-- `attach_header::characters::all_belong` meets its contract. The loop's invariant: the bytes left belong exactly where all do.
-- Assumes nothing.
use mathlib.Core.Path.{◌≡◌}
use lib.ListN.{drop}
use Rattle.attach_header.specs.Characters.{belongs, every}
use Rattle.attach_header.proofs.characters.all_belong.Given as goal

abbrev pub invariant-loop-b : goal.invariant-loop-b
invariant-loop-b l = every (belongs l.graphic) (drop l.b-index l.s) ≡ every (belongs l.graphic) l.s
