-- The written form of good fields is read back as those fields.
-- Assumes nothing.
use mathlib.Core.Path.{◌≡◌, refl, ap, subst, ◌∙◌}
use mathlib.Core.Bool.{Bool, true, false, cond, ◌&&◌}
use mathlib.Core.List.{List, [], ◌∷◌, ◌++◌, append-nil}
use Prim.Native.Nat.{ℕ, zero, suc, ◌+◌, ◌≤◌}
use native.Mathlib.Omega.{arith}
use lib.Dec.{leb, eqb}
use lib.ListN.{length, length-append}
use lib.Seq.{take-append_seam, drop-append_seam}
use borrow.Author.Tests.{le-leb, eq-eqb, ne_eqb}
use Rattle.bools.proofs.Tests.{both, join}
use Rattle.bools.proofs.Cases.{split}
use Rattle.attach_header.specs.Characters.{is_empty, unpadded, data_good}
use Rattle.attach_header.specs.Read.{opened, data_in, PROFILE, PASSWORD, USER, subfield_good, subfields_good, subfields, is_type, count_of, of_type, once, security_good, data_of}
use Rattle.attach_header.specs.Written.{counted, subfield, three_subfields, trailing}
use Rattle.attach_header.proofs.GoodStrings.{data_unpadded}
use Rattle.attach_header.proofs.WrittenLengths.{data_short}

-- ---- a field behind its length byte

pub open_counted : (x r : List ℕ) → opened (counted x ++ r) ≡ record { whole = true; field = x; rest = r }
unfolding opened
open_counted x r =
    let l = length-append x r in
    rw (le-leb (length x) (length (x ++ r)) (omega (arith, l)), take-append_seam x r, drop-append_seam x r)

-- ---- trailing fields

pub record Trails (s w t : List ℕ) : Type 0 where
  pub first : (opened t).whole ≡ true
  pub one : (opened t).field ≡ s
  pub second : (opened (opened t).rest).whole ≡ true
  pub two : (opened (opened t).rest).field ≡ w
  pub none : (opened (opened t).rest).rest ≡ []

open_none : opened [] ≡ record { whole = true; field = []; rest = [] }
unfolding opened
open_none = refl

pub some : (b : ℕ) (bs : List ℕ) → is_empty (b ∷ bs) ≡ false
some b bs = ne_eqb (length (b ∷ bs)) 0 (λ e. absurd (omega (arith, e)))

nothing : Trails [] [] []
nothing =
    record { first = rw open_none; one = rw open_none; second = rw (open_none, open_none); two = rw (open_none, open_none); none = rw (open_none, open_none) }

alone : (s : List ℕ) → Trails s [] (counted s ++ [])
alone s =
    let o = open_counted s [] in
    record { first = rw o; one = rw o; second = rw (o, open_none); two = rw (o, open_none); none = rw (o, open_none) }

both_trail : (s w : List ℕ) → Trails s w (counted s ++ (counted w ++ []))
both_trail s w =
    let o = open_counted s (counted w ++ []) in
    let p = open_counted w [] in
    record { first = rw o; one = rw o; second = rw (o, p); two = rw (o, p); none = rw (o, p) }

and_false : (a : Bool) → a && false ≡ false
and_false true = refl
and_false false = refl

pub trails : (s w : List ℕ) → Trails s w (trailing s w)
unfolding trailing
trails [] [] = nothing
trails (a ∷ s) [] = rw (some a s) (alone (a ∷ s))
trails s (b ∷ w) =
    rw (some b w, and_false (is_empty s))
    (subst (λ (x : List ℕ). Trails s (b ∷ w) (counted s ++ x)) (append-nil (counted (b ∷ w))) (both_trail s (b ∷ w)))

-- ---- security subfields

-- a subfield before others; none where there is no data
abbrev front : ℕ → List ℕ → List (List ℕ) → List (List ℕ)
front t x l = cond (is_empty x) l ((t ∷ x) ∷ l)

-- more may still come
more : (k : ℕ) (s : List ℕ) → subfields_good k s ≡ true → (subfields_good (suc k) s ≡ true) × (subfields (suc k) s ≡ subfields k s)
unfolding subfields_good subfields
more zero s e = (rw e, rw e)
more (suc k) s e =
    split (is_empty s) (λ z. (rw z, rw z))
    (λ z.
    let g = (opened s).whole && subfield_good (opened s).field in
    let b = both g (subfields_good k (opened s).rest) (rw z at e) in
    let m = more k (opened s).rest b.1 in
    (rw z (join g (subfields_good (suc k) (opened s).rest) b.0 m.0), rw (z, m.1)))

whole_good : (t : ℕ) (x : List ℕ) → t ≤ USER → data_good x ≡ true → subfield_good (t ∷ x) ≡ true
unfolding subfield_good
whole_good t x h g =
    let l = data_short x g in
    rw (le-leb 1 (length (t ∷ x)) (omega arith), le-leb (length (t ∷ x)) 11 (omega (arith, l)), le-leb t USER h, data_unpadded x g, g)

counted_good : (k : ℕ) (y r : List ℕ) → subfields_good (suc k) (counted y ++ r) ≡ subfield_good y && subfields_good k r
unfolding subfields_good
counted_good k y r = rw (some (length y) (y ++ r), open_counted y r)

counted_first : (k : ℕ) (y r : List ℕ) → subfields (suc k) (counted y ++ r) ≡ y ∷ subfields k r
unfolding subfields
counted_first k y r = rw (some (length y) (y ++ r), open_counted y r)

put_before : (t k : ℕ) (x r : List ℕ) → t ≤ USER → data_good x ≡ true → subfields_good k r ≡ true
    → (subfields_good (suc k) (subfield t x ++ r) ≡ true) × (subfields (suc k) (subfield t x ++ r) ≡ front t x (subfields k r))
unfolding subfield
put_before t k [] r h g e = more k r e
put_before t k (b ∷ x) r h g e = (
  rw (some b x) (counted_good k (t ∷ b ∷ x) r ∙ join (subfield_good (t ∷ b ∷ x)) (subfields_good k r) (whole_good t (b ∷ x) h g) e),
  rw (some b x) (counted_first k (t ∷ b ∷ x) r),
)

-- a type comes once more at most
count_front : (t u : ℕ) (x : List ℕ) (l : List (List ℕ)) → count_of t (front u x l) ≤ cond (eqb u t) 1 0 + count_of t l
unfolding count_of is_type
count_front t u [] l = omega arith
count_front t u (b ∷ x) l = rw (some b x, le-leb 1 (length (u ∷ b ∷ x)) (omega arith)) (omega arith)

-- data of another type, and of this one
skip : (t u : ℕ) (x : List ℕ) (l : List (List ℕ)) → eqb u t ≡ false → of_type t (front u x l) ≡ of_type t l
unfolding of_type is_type
skip t u [] l e = refl
skip t u (b ∷ x) l e = rw (some b x, e, and_false (leb 1 (length (u ∷ b ∷ x))))

found : (t b : ℕ) (x : List ℕ) (l : List (List ℕ)) → of_type t (front t (b ∷ x) l) ≡ t ∷ b ∷ x
unfolding of_type is_type
found t b x l = rw (some b x, le-leb 1 (length (t ∷ b ∷ x)) (omega arith), eq-eqb t t refl)

none_is : data_in [] ≡ []
unfolding unpadded
none_is = refl

here : (t : ℕ) (x : List ℕ) (l : List (List ℕ)) → data_good x ≡ true → of_type t l ≡ [] → data_in (of_type t (front t x l)) ≡ x
here t [] l g e = rw e none_is
here t (b ∷ x) l g e = ap data_in (found t b x l) ∙ data_unpadded (b ∷ x) g

-- ---- the three together

pub record Secured (a b c s : List ℕ) : Type 0 where
  pub good : security_good s ≡ true
  pub profile : data_of PROFILE s ≡ a
  pub password : data_of PASSWORD s ≡ b
  pub user : data_of USER s ≡ c

module _ (a b c : List ℕ) (f : data_good a ≡ true) (g : data_good b ≡ true) (h : data_good c ≡ true) where
  abbrev second : List ℕ
  second = subfield PASSWORD b ++ subfield USER c

  abbrev list : List (List ℕ)
  list = front PROFILE a (front PASSWORD b (front USER c []))

  last : (subfields_good 1 (subfield USER c) ≡ true) × (subfields 1 (subfield USER c) ≡ front USER c [])
  unfolding subfields_good subfields
  last =
      subst (λ (x : List ℕ). (subfields_good 1 x ≡ true) × (subfields 1 x ≡ front USER c [])) (append-nil (subfield USER c))
      (put_before USER 0 c [] (omega arith) h refl)

  two : (subfields_good 2 second ≡ true) × (subfields 2 second ≡ front PASSWORD b (front USER c []))
  two =
      let p = put_before PASSWORD 1 b (subfield USER c) (omega arith) g last.0 in
      (p.0, p.1 ∙ ap (front PASSWORD b) last.1)

  three : (subfields_good 3 (three_subfields a b c) ≡ true) × (subfields 3 (three_subfields a b c) ≡ list)
  unfolding three_subfields
  three =
      let p = put_before PROFILE 2 a second (omega arith) f two.0 in
      (p.0, p.1 ∙ ap (front PROFILE a) two.1)

  at_most : (t : ℕ) → cond (eqb PROFILE t) 1 0 + (cond (eqb PASSWORD t) 1 0 + cond (eqb USER t) 1 0) ≤ 1 → once t (three_subfields a b c) ≡ true
  unfolding count_of
  at_most t l =
      let p = count_front t PROFILE a (front PASSWORD b (front USER c [])) in
      let q = count_front t PASSWORD b (front USER c []) in
      let r = count_front t USER c [] in
      le-leb (count_of t (subfields 3 (three_subfields a b c))) 1 (rw three.1 (omega (arith, p, q, r, l)))

  pub secured : Secured a b c (three_subfields a b c)
  unfolding security_good of_type
  secured =
      record {
        good = rw (three.0, at_most PROFILE (omega arith), at_most PASSWORD (omega arith), at_most USER (omega arith));
        profile = rw three.1 (here PROFILE a (front PASSWORD b (front USER c [])) f (skip PROFILE PASSWORD b (front USER c []) refl ∙ skip PROFILE USER c [] refl));
        password = rw (three.1, skip PASSWORD PROFILE a (front PASSWORD b (front USER c [])) refl) (here PASSWORD b (front USER c []) g (skip PASSWORD USER c [] refl));
        user = rw (three.1, skip USER PROFILE a (front PASSWORD b (front USER c [])) refl, skip USER PASSWORD b (front USER c []) refl) (here USER c [] h refl);
      }
