-- What a text begins with, as `strip_prefix` finds it.
-- Assumes nothing.
use Rattle.std.proofs.Common.{◌≡◌, sym, ◌∙◌, ℕ, Bool, List, length, take, eqb}
use lib.Pointwise.{pointwise}
use Rattle.cells.proofs.Equal.{pair_by_pair}
use Rattle.script.specs.TextParts.{begins}

pub begins_by : (text word : List ℕ) (t : Bool) → pointwise eqb (take (length word) text) word ≡ t → begins text word ≡ t
unfolding begins
begins_by text word t e = sym (pair_by_pair (take (length word) text) word) ∙ e
