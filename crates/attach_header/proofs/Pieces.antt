-- A text put piece by piece: the last piece, and that the next fits. What the pieces of a subfield and of an identifier are.
-- Assumes nothing.
use mathlib.Core.Path.{◌≡◌, sym, subst, ◌∙◌}
use mathlib.Core.List.{List, [], ◌∷◌, ◌++◌, append-nil}
use Prim.Native.Nat.{ℕ, suc, ◌+◌, ◌≤◌}
use native.Mathlib.Nat.{zero-add}
use native.Mathlib.Omega.{arith}
use lib.ListN.{length, length-append}
use borrow.Author.Tests.{eq-eqb, ne_eqb}
use Rattle.digits.specs.PutAt.{put_at}
use Rattle.digits.proofs.Puts.{Left, left_all, left_none, left_less, put_place, put_cells}
use Rattle.cells.specs.Cells.{front, written}
use Rattle.attach_header.specs.Written.{subfield, identifier}

module _ {text : List ℕ} {at : ℕ} {cells : List ℕ} {next : ℕ} {now : List ℕ} where
  pub last : (a : List ℕ) {r : ℕ} {after : List ℕ} → Left text at cells a next now → ◌≡◌ {A = ℕ × List ℕ} (r, after) (put_at a next now)
      → ◌≡◌ {A = ℕ × List ℕ} (r, after) (put_at text at cells)
  last a l e = left_none (left_less a (subst (λ (x : List ℕ). Left text at cells x next now) (sym (append-nil a)) l) e)

  pub next_fits : (a rest : List ℕ) → Left text at cells (a ++ rest) next now → next + length a ≤ length now
  next_fits a rest l =
      let n = length-append a rest in
      omega (arith, n, l.place, l.same, l.fits)

  pub last_fits : (a : List ℕ) → Left text at cells a next now → next + length a ≤ length now
  last_fits a l = omega (arith, l.place, l.same, l.fits)

-- a text of no byte
pub put_none : (text : List ℕ) (at : ℕ) (cells : List ℕ) → text ≡ [] → at + length text ≤ length cells
    → ◌≡◌ {A = ℕ × List ℕ} (at, cells) (put_at text at cells)
put_none text at cells e h = left_none (subst (λ (x : List ℕ). Left text at cells x at cells) e (left_all h))

-- a text in pieces
pub in_pieces : (text pieces : List ℕ) (at : ℕ) (cells : List ℕ) → text ≡ pieces → at + length text ≤ length cells → Left text at cells pieces at cells
in_pieces text pieces at cells e h = subst (λ (x : List ℕ). Left text at cells x at cells) e (left_all h)

pub subfield_none : (t : ℕ) (x : List ℕ) → length x ≡ 0 → subfield t x ≡ []
unfolding subfield
subfield_none t x e = rw (eq-eqb (length x) 0 e)

pub subfield_some : (t : ℕ) (x : List ℕ) (n : ℕ) → length x ≡ n → (n ≡ 0 → ⊥) → subfield t x ≡ ((n + 1) ∷ t ∷ []) ++ x
unfolding subfield
subfield_some t x n e h =
    let s : suc (length x) ≡ n + 1 = omega (arith, e) in
    rw (ne_eqb (length x) 0 (λ z. h (sym e ∙ z)), s)

pub identifier_none : (lu i s : List ℕ) → length lu ≡ 0 → identifier lu i s ≡ []
unfolding identifier
identifier_none lu i s e = rw (eq-eqb (length lu) 0 e)

pub identifier_some : (lu i s : List ℕ) (n : ℕ) → length lu ≡ n → (n ≡ 0 → ⊥) → identifier lu i s ≡ (n ∷ []) ++ (lu ++ (i ++ s))
unfolding identifier
identifier_some lu i s n e h = rw (ne_eqb (length lu) 0 (λ z. h (sym e ∙ z)), e)

-- a text put at the front
pub put_front : (text cells : List ℕ) {r : ℕ} {now : List ℕ} → length text ≤ length cells
    → ◌≡◌ {A = ℕ × List ℕ} (r, now) (put_at text 0 cells) → (r ≡ length text) × (now ≡ front text cells)
unfolding written
put_front text cells {r} {now} h e =
    let f : 0 + length text ≤ length cells = omega (arith, h) in
    (put_place text 0 cells r now e f ∙ zero-add (length text), put_cells text 0 cells r now e f)
