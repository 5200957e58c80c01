-- Parts of a text.
-- Assumes nothing.
use mathlib.Core.Path.{◌≡◌, sym, ap, ◌∙◌}
use mathlib.Core.List.{List, []}
use mathlib.Core.Logic.{◌⊎◌, inl, inr}
use Prim.Native.Nat.{ℕ, ◌+◌, ◌-◌, ◌<◌, ◌≤◌}
use native.Mathlib.Nat.{zero-add}
use native.Mathlib.Omega.{arith}
use lib.ListN.{length, drop, drop_of_length-le}
use lib.Seq.{take-length}
use denote.Bor.{Bor}
use Rattle.std.specs.Prelude.{slice_range, Option, Some, None, unwrap_or, MatchOption}
use Rattle.cells.specs.Found.{index_of}
use Rattle.cells.proofs.PartLent.{part_is}

-- a place that was found in the whole of a text
pub found_in_all : (b : ℕ) (text : List ℕ) → 0 + index_of b (slice_range text 0 (length text)) ≡ index_of b text
found_in_all b text =
    let e : length text - 0 ≡ length text = omega arith in
    rw (zero-add, e, take-length)

-- what stands behind a place, as `get` gives it; nothing stands behind the end
got : (r : Option (Bor (List ℕ))) (none : Bor (List ℕ)) (n : ℕ) (text : List ℕ)
    → MatchOption r ((length text < n) ⊎ (length text < length text))
    (λ x. (n ≤ length text) × (length text ≤ length text) × (x.now ≡ slice_range text n (length text)) × (length x.now + n ≡ length text))
    → none.now ≡ [] → (unwrap_or r none).now ≡ drop n text
got None none n text (inl h) e = e ∙ sym (drop_of_length-le text {i = n} (omega arith))
got None none n text (inr h) e = absurd (omega arith)
got (Some x) none n text h e = h.2 ∙ part_is n text

pub behind_place : {out : Bor (List ℕ)} (r : Option (Bor (List ℕ))) (none : Bor (List ℕ)) → out ≡ unwrap_or r none → (n : ℕ) (text : List ℕ)
    → MatchOption r ((length text < n) ⊎ (length text < length text))
    (λ x. (n ≤ length text) × (length text ≤ length text) × (x.now ≡ slice_range text n (length text)) × (length x.now + n ≡ length text))
    → none.now ≡ [] → out.now ≡ drop n text
behind_place r none h n text l e = ap (λ (b : Bor (List ℕ)). b.now) h ∙ got r none n text l e
