-- Laws of strings: bytes of one type, and padding.
-- Assumes nothing.
use mathlib.Core.Path.{◌≡◌, refl, sym, ap, ◌∙◌}
use mathlib.Core.Bool.{Bool, true, false, ◌&&◌}
use mathlib.Core.List.{List, [], ◌∷◌, ◌++◌}
use Prim.Native.Nat.{ℕ, suc, ◌+◌, ◌-◌, ◌≤◌, ◌<◌, zero-le}
use native.Mathlib.Numerals.{add-one}
use native.Mathlib.Omega.{arith}
use lib.Dec.{eqb}
use lib.ListN.{length, get_or, take, drop, replicate, drop_of_length-le, length-append}
use lib.Seq.{drop-cons, take-suc, take-length}
use borrow.Author.Tests.{ne_eqb}
use Rattle.bools.proofs.Cases.{cases}
use Rattle.cells.proofs.Copies.{copy_front}
use Rattle.attach_header.specs.declared.SymbolString.{SymbolString}
use Rattle.attach_header.specs.Fields.{string_of}
use Rattle.attach_header.specs.Characters.{every, SPACE, is_empty, unpadded}

-- ---- every byte

module _ (p : ℕ → Bool) (s : List ℕ) (i : ℕ) where
  pub every_more : i < length s → p (get_or s i 0) ≡ true → every p (drop (i + 1) s) ≡ every p (drop i s)
  unfolding every
  every_more h t = rw (add-one, drop-cons s i 0 h, t)

  pub every_other : i < length s → p (get_or s i 0) ≡ false → every p (drop i s) ≡ false
  unfolding every
  every_other h t = rw (drop-cons s i 0 h, t)

  pub every_end : length s ≤ i → every p (drop i s) ≡ true
  unfolding every
  every_end h = rw (drop_of_length-le s {i = i} h)

-- ---- padding

-- without padding a string is no longer
pub no_longer : (x : List ℕ) → length (unpadded x) ≤ length x
unfolding unpadded
no_longer [] = zero-le
no_longer (b ∷ bs) =
    let h = no_longer bs in
    cases (λ (l : List ℕ). length l ≤ suc (length bs)) (is_empty (unpadded bs) && eqb b SPACE) (λ t. zero-le) (λ t. omega (arith, h))

-- and it stands at the front
pub stands_first : (x : List ℕ) → take (length (unpadded x)) x ≡ unpadded x
unfolding unpadded
stands_first [] = refl
stands_first (b ∷ bs) =
    cases (λ (l : List ℕ). take (length l) (b ∷ bs) ≡ l) (is_empty (unpadded bs) && eqb b SPACE) (λ t. refl)
    (λ t. ap (λ (l : List ℕ). b ∷ l) (stands_first bs))

-- lent as the part of that length
pub lent : (x : List ℕ) {m : ℕ} → m ≡ length (unpadded x) → take m x ≡ unpadded x
lent x e = rw e (stands_first x)

pub lent_length : (x : List ℕ) {m : ℕ} → m ≡ length (unpadded x) → m ≡ length (take m x)
lent_length x e = e ∙ ap length (sym (lent x e))

-- one more byte: a space adds nothing, any other ends the padding before it
pub space_more : (x : List ℕ) → unpadded (x ++ (SPACE ∷ [])) ≡ unpadded x
unfolding unpadded
space_more [] = refl
space_more (a ∷ x) = rw (space_more x)

not_empty : (x : List ℕ) (b : ℕ) → is_empty (x ++ (b ∷ [])) ≡ false
not_empty x b = ne_eqb (length (x ++ (b ∷ []))) 0 (λ e. let l = length-append x (b ∷ []) in omega (arith, e, l))

pub byte_more : (x : List ℕ) (b : ℕ) → eqb b SPACE ≡ false → unpadded (x ++ (b ∷ [])) ≡ x ++ (b ∷ [])
unfolding unpadded
byte_more [] b t = rw t
byte_more (a ∷ x) b t = rw (byte_more x b t, not_empty x b)

-- the last byte
last_of : (s : List ℕ) → 1 ≤ length s → s ≡ take (length s - 1) s ++ (get_or s (length s - 1) 0 ∷ [])
last_of s h =
    let n : ℕ = length s - 1 in
    let e : suc n ≡ length s = omega arith in
    sym (take-length s) ∙ (ap (λ (k : ℕ). take k s) (sym e) ∙ take-suc s n 0 (omega arith))

pub space_off : (s : List ℕ) → 1 ≤ length s → get_or s (length s - 1) 0 ≡ SPACE → unpadded (take (length s - 1) s) ≡ unpadded s
space_off s h e =
    let x : List ℕ = take (length s - 1) s in
    sym (space_more x) ∙ ap unpadded (ap (λ (b : ℕ). x ++ (b ∷ [])) (sym e) ∙ sym (last_of s h))

pub none_off : (s : List ℕ) → 1 ≤ length s → (get_or s (length s - 1) 0 ≡ SPACE → ⊥) → s ≡ unpadded s
none_off s h d =
    let x : List ℕ = take (length s - 1) s in
    let b : ℕ = get_or s (length s - 1) 0 in
    last_of s h ∙ (sym (byte_more x b (ne_eqb b SPACE d)) ∙ ap unpadded (sym (last_of s h)))

pub nothing_left : (s : List ℕ) → length s < 1 → s ≡ unpadded s
unfolding unpadded
nothing_left [] h = refl
nothing_left (b ∷ s) h = absurd (omega arith)

-- ---- a string kept

pub kept : (x text after : List ℕ) → text ≡ unpadded x
    → after ≡ take (length text) text ++ drop (length text) (replicate 64 0)
    → ◌≡◌ {A = SymbolString} (record { length = length text; bytes = after }) (string_of (unpadded x))
unfolding string_of
kept x text after e h = rw (copy_front text (replicate 64 0) after h, e)
