-- Printing one text right behind another.
-- Assumes nothing.
use mathlib.Core.Path.{◌≡◌, refl, sym, ap, ◌∙◌}
use mathlib.Core.Bool.{Bool, true, false}
use mathlib.Core.List.{List, [], ◌++◌}
use Prim.Native.Nat.{ℕ, ◌+◌, ◌≤◌}
use native.Mathlib.Omega.{arith}
use lib.Dec.{leb}
use lib.ListN.{length, length-append}
use borrow.Author.Tests.{leb-true, leb-false}
use Rattle.cells.specs.Cells.{written}
use Rattle.cells.proofs.Fronts.{written_length, written_none}
use Rattle.digits.specs.PutAt.{put_at}
use Rattle.report.specs.Prints.{PrintsAt, Prints}
use Rattle.digits.proofs.Puts.{not_put, put_place, put_cells, written_then}

put_within : (b : Bool) (text : List ℕ) (at : ℕ) (cells : List ℕ) (r : ℕ) (after : List ℕ) → leb (at + length text) (length cells) ≡ b
    → ◌≡◌ {A = ℕ × List ℕ} (r, after) (put_at text at cells) → at ≤ length cells → r ≤ length after
put_within true text at cells r after t e g =
    let h : at + length text ≤ length cells = leb-true (at + length text) (length cells) t in
    let er : r ≡ at + length text = put_place text at cells r after e h in
    let ea : length after ≡ length cells = ap length (put_cells text at cells r after e h) ∙ written_length at text cells h in
    omega arith
put_within false text at cells r after t e g =
    let n : put_at text at cells ≡ (at, cells) = not_put text at cells (leb-false (at + length text) (length cells) t) in
    let er : r ≡ at = ap (λ (p : ℕ × List ℕ). p.0) (e ∙ n) in
    let ea : length after ≡ length cells = ap (λ (p : ℕ × List ℕ). length p.1) (e ∙ n) in
    omega arith

pub put_prints : {text : List ℕ} {at : ℕ} {cells : List ℕ} {r : ℕ} {after : List ℕ}
    → ◌≡◌ {A = ℕ × List ℕ} (r, after) (put_at text at cells) → PrintsAt text at cells r after
put_prints {text} {at} {cells} {r} {after} e =
    record {
      within = put_within (leb (at + length text) (length cells)) text at cells r after refl e;
      fits = λ h. (put_place text at cells r after e h, put_cells text at cells r after e h);
    }

pub prints_none : {at : ℕ} {cells : List ℕ} → PrintsAt [] at cells at cells
prints_none {at} {cells} = record { within = λ h. h; fits = λ h. (omega arith, sym (written_none at cells)) }

module _ (a b : List ℕ) (at r₁ r₂ : ℕ) (cells cells₁ cells₂ : List ℕ) (p : PrintsAt a at cells r₁ cells₁)
    (q : PrintsAt b r₁ cells₁ r₂ cells₂) where
  then_fits : at + length (a ++ b) ≤ length cells → (r₂ ≡ at + length (a ++ b)) × (cells₂ ≡ written at (a ++ b) cells)
  then_fits h =
      let n : length (a ++ b) ≡ length a + length b = length-append a b in
      let g : at + length a ≤ length cells = omega arith in
      let er : r₁ ≡ at + length a = (p.fits g).0 in
      let ec : cells₁ ≡ written at a cells = (p.fits g).1 in
      let el : length cells₁ ≡ length cells = ap length ec ∙ written_length at a cells g in
      let k : r₁ + length b ≤ length cells₁ = omega arith in
      let s : r₂ ≡ r₁ + length b = (q.fits k).0 in
      (omega arith, (q.fits k).1 ∙ rw (er, ec) (written_then a b at cells (omega arith)))

infixl 60 ◌then◌
pub ◌then◌ : {a b : List ℕ} {at r₁ r₂ : ℕ} {cells cells₁ cells₂ : List ℕ} → PrintsAt a at cells r₁ cells₁
    → PrintsAt b r₁ cells₁ r₂ cells₂ → PrintsAt (a ++ b) at cells r₂ cells₂
◌then◌ {a} {b} {at} {r₁} {r₂} {cells} {cells₁} {cells₂} p q =
    record { within = λ h. q.within (p.within h); fits = then_fits a b at r₁ r₂ cells cells₁ cells₂ p q }

-- from the front on
pub prints_line : {text : List ℕ} {cells : List ℕ} {r : ℕ} {after : List ℕ} → PrintsAt text 0 cells r after → Prints text cells r after
unfolding written
prints_line {text} {cells} {r} {after} p =
    record { within = p.within (omega arith); fits = λ h. let f = p.fits (omega arith) in (omega arith, f.1) }
