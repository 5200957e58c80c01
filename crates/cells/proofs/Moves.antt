-- Cells moved to the front.
-- Assumes nothing.
use mathlib.Core.Path.{◌≡◌, ap, ◌∙◌}
use mathlib.Core.List.{List, ◌++◌}
use Prim.Native.Nat.{ℕ, ◌+◌}
use native.Mathlib.Nat.{zero-add}
use lib.ListN.{length, drop}
use lib.Seq.{paste, take-length}
use Rattle.cells.specs.Cells.{front}

-- all have arrived
pub moved_all : (a₀ s : List ℕ) → paste a₀ 0 s (length s) ≡ front s a₀
unfolding front
moved_all a₀ s =
    ap (λ (l : List ℕ). l ++ drop (0 + length s) a₀) (take-length s) ∙ ap (λ (k : ℕ). s ++ drop k a₀) (zero-add (length s))
