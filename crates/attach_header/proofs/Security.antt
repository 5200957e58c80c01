-- Subfields taken one by one from the front of what is left.
-- Assumes nothing.
use mathlib.Core.Path.{◌≡◌, refl, sym, ap, ◌∙◌}
use mathlib.Core.Bool.{Bool, true, false, cond, ◌&&◌}
use mathlib.Core.List.{List, [], ◌∷◌}
use Prim.Native.Nat.{ℕ, zero, suc, ◌+◌, ◌-◌, ◌≤◌, ◌<◌}
use native.Mathlib.Omega.{arith}
use lib.Dec.{leb, eqb}
use lib.ListN.{length, take, drop, length-drop, drop_of_length-le}
use borrow.Author.Tests.{ne_eqb, leb-true, leb-false}
use Rattle.std.specs.Int.{from_bool}
use Rattle.bools.proofs.Tests.{both, left, right}
use Rattle.attach_header.specs.declared.parts.Part.{Part}
use Rattle.attach_header.proofs.FoundParts.{Found}
use Rattle.attach_header.specs.Characters.{is_empty, data_good}
use Rattle.attach_header.specs.Read.{opened, type_in, data_in, PROFILE, PASSWORD, USER, once, security_good, subfield_good, subfields_good, subfields, is_type, count_of, of_type}

pub some_left : (s : List ℕ) (at : ℕ) → at < length s → is_empty (drop at s) ≡ false
some_left s at h = ne_eqb (length (drop at s)) 0 (λ e. let l = length-drop at s in omega (arith, e, l))

pub none_left : (s : List ℕ) (at : ℕ) → length s ≤ at → is_empty (drop at s) ≡ true
none_left s at h = ap is_empty (drop_of_length-le s {i = at} h)

-- ---- are they good

pub good_step : (k : ℕ) (x : List ℕ) → (k ≡ 0 → ⊥) → is_empty x ≡ false
    → subfields_good k x ≡ ((opened x).whole && subfield_good (opened x).field) && subfields_good (k - 1) (opened x).rest
unfolding subfields_good
good_step zero x z e = absurd (z refl)
good_step (suc k) x z e =
    let p : suc k - 1 ≡ k = omega arith in
    rw (p, e)

pub good_end : (k : ℕ) (x : List ℕ) → is_empty x ≡ true → subfields_good k x ≡ true
unfolding subfields_good
good_end zero x e = e
good_end (suc k) x e = rw e

left_over : (t : Bool) (s : List ℕ) (at : ℕ) → leb (length s) at ≡ t → t ≡ is_empty (drop at s)
left_over true s at e = sym (none_left s at (leb-true (length s) at e))
left_over false s at e = sym (some_left s at (leb-false (length s) at e))

-- no more may come
pub all_read : (s : List ℕ) (at k : ℕ) → k ≡ 0 → leb (length s) at ≡ subfields_good k (drop at s)
unfolding subfields_good
all_read s at k e = rw e (left_over (leb (length s) at) s at refl)

-- ---- the subfields

pub one_step : (k : ℕ) (x : List ℕ) → (k ≡ 0 → ⊥) → is_empty x ≡ false → subfields k x ≡ (opened x).field ∷ subfields (k - 1) (opened x).rest
unfolding subfields
one_step zero x z e = absurd (z refl)
one_step (suc k) x z e =
    let p : suc k - 1 ≡ k = omega arith in
    rw (p, e)

pub none_end : (k : ℕ) (x : List ℕ) → is_empty x ≡ true → subfields k x ≡ []
unfolding subfields
none_end zero x e = refl
none_end (suc k) x e = rw e

pub none_more : (k : ℕ) (x : List ℕ) → k ≡ 0 → subfields k x ≡ []
unfolding subfields
none_more k x e = rw e

-- none is counted or found in none
pub count_end : (t k : ℕ) (x : List ℕ) → subfields k x ≡ [] → count_of t (subfields k x) ≡ 0
unfolding count_of
count_end t k x e = rw e

-- a test counts as one where it is true
pub one_if : (b : Bool) → from_bool b ≡ cond b 1 0
one_if true = refl
one_if false = refl

pub at_most_one : (b : Bool) → from_bool b ≤ 1
at_most_one true = omega arith
at_most_one false = omega arith

pub type_end : (t k : ℕ) (x : List ℕ) → subfields k x ≡ [] → of_type t (subfields k x) ≡ []
unfolding of_type
type_end t k x e = rw e

pub has_type : (t : ℕ) (x : List ℕ) → is_type t x ≡ true → 1 ≤ length x
unfolding is_type
has_type t x e = leb-true 1 (length x) (left (leb 1 (length x)) (eqb (type_in x) t) e)

pub subfield_length : (x : List ℕ) → subfield_good x ≡ true → (1 ≤ length x) × (length x ≤ 11)
unfolding subfield_good
subfield_length x e =
    let short = leb (length x) 11 && leb (type_in x) USER in
    let b = both (leb 1 (length x)) short (left (leb 1 (length x) && short) (data_good (data_in x)) e) in
    (leb-true 1 (length x) b.0, leb-true (length x) 11 (left (leb (length x) 11) (leb (type_in x) USER) b.1))

-- ---- where the code finds one

module _ {at : ℕ} {s : List ℕ} {p : Part} (f : Found at s p) (h : at < length s) (k : ℕ) (z : k ≡ 0 → ⊥) where
  abbrev here : List ℕ
  here = take (p.end - p.start) (drop p.start s)

  pub good_at : subfields_good k (drop at s) ≡ (p.whole && subfield_good here) && subfields_good (k - 1) (drop p.end s)
  good_at = rw (f.whole, f.field, f.rest) (good_step k (drop at s) z (some_left s at h))

  pub subfield_at : subfields k (drop at s) ≡ here ∷ subfields (k - 1) (drop p.end s)
  subfield_at = rw (f.field, f.rest) (one_step k (drop at s) z (some_left s at h))

  pub count_at : (t n : ℕ) → n + count_of t (subfields k (drop at s)) ≡ n + cond (is_type t here) 1 0 + count_of t (subfields (k - 1) (drop p.end s))
  unfolding count_of
  count_at t n = rw subfield_at (omega arith)

  pub type_at : (t : ℕ) → is_type t here ≡ true → of_type t (subfields k (drop at s)) ≡ here
  unfolding of_type
  type_at t e = rw (subfield_at, e)

  pub other_at : (t : ℕ) → is_type t here ≡ false → of_type t (subfields k (drop at s)) ≡ of_type t (subfields (k - 1) (drop p.end s))
  unfolding of_type
  other_at t e = rw (subfield_at, e)

  pub good_here : subfields_good k (drop at s) ≡ true → (subfield_good here ≡ true) × (subfields_good (k - 1) (drop p.end s) ≡ true)
  good_here e =
      let b = both (p.whole && subfield_good here) (subfields_good (k - 1) (drop p.end s)) (sym good_at ∙ e) in
      (right p.whole (subfield_good here) b.0, b.1)

-- ---- the field as a whole

pub each_good : (s : List ℕ) → security_good s ≡ true → subfields_good 3 s ≡ true
unfolding security_good
each_good s e =
    let a = left (subfields_good 3 s && once PROFILE s && once PASSWORD s) (once USER s) e in
    left (subfields_good 3 s) (once PROFILE s) (left (subfields_good 3 s && once PROFILE s) (once PASSWORD s) a)
