-- The rows of the rule of a line that asks for a call.
-- Assumes nothing.
use mathlib.Core.Path.{◌≡◌, sym, ap, ◌∙◌}
use mathlib.Core.Bool.{true, false}
use mathlib.Core.List.{List}
use Prim.Native.Nat.{ℕ}
use lib.ListN.{length, drop}
use Rattle.cells.specs.Cells.{front}
use Rattle.script.specs.TextParts.{begins}
use Rattle.script.specs.WordsAsked.{Reading, no_bytes, handed_back}
use Rattle.script.specs.CallLine.{first_end, second_end, request_of, call_of, parsed_of, cells_of}
use Rattle.std.specs.Prelude.{Option, None}
use Rattle.script.specs.declared.Asked.{Asked}

module _ (line : List ℕ) (cells : ℕ) where
  pub first_end_lem : begins line first_end ≡ true → call_of line cells ≡ request_of false (drop 2 line) cells
  unfolding call_of
  first_end_lem e = rw e

  pub second_end_lem : begins line first_end ≡ false → begins line second_end ≡ true → call_of line cells ≡ request_of true (drop 2 line) cells
  unfolding call_of
  second_end_lem d e = rw (d, e)

  pub no_end : begins line first_end ≡ false → begins line second_end ≡ false → call_of line cells ≡ no_bytes None
  unfolding call_of
  no_end d e = rw (d, e)

-- what the answer and the cells are, from what the line asks
pub handed : (line cells : List ℕ) (x : Reading) (r : Option Asked) (after : List ℕ) → call_of line (length cells) ≡ x
    → ◌≡◌ {A = Option Asked × List ℕ} (r, after) (handed_back x cells)
    → (r ≡ parsed_of line (length cells)) × (after ≡ cells_of line cells)
handed line cells x r after e h = (
  ap (λ (p : Option Asked × List ℕ). p.0) h ∙ ap (λ (y : Reading). y.parsed) (sym e),
  ap (λ (p : Option Asked × List ℕ). p.1) h ∙ ap (λ (y : Reading). front y.given cells) (sym e),
)
