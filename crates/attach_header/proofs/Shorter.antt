-- What is written of the fields of a good header is no longer than the header.
-- Assumes nothing.
use mathlib.Core.Path.{◌≡◌, refl, ◌∙◌}
use mathlib.Core.Bool.{Bool, true, false, cond, ◌&&◌}
use mathlib.Core.List.{List, [], ◌∷◌}
use Prim.Native.Nat.{ℕ, zero, suc, ◌+◌, ◌-◌, ◌≤◌, zero-le}
use native.Mathlib.Omega.{arith}
use lib.Dec.{leb, eqb}
use lib.ListN.{length, drop, length-drop, length-append}
use lib.Seq.{length-take-le}
use borrow.Author.Tests.{leb-true, eqb-true, eqb-false}
use Rattle.bools.proofs.Tests.{both, left, right}
use Rattle.bools.proofs.Cases.{split}
use Rattle.attach_header.specs.Characters.{is_empty, unpadded, lu_name_good}
use Rattle.attach_header.specs.Fields.{Fields, work_good}
use Rattle.attach_header.specs.Read.{
  byte,
  opened,
  type_in,
  data_in,
  PROFILE,
  PASSWORD,
  USER,
  subfield_good,
  subfields_good,
  subfields,
  is_type,
  of_type,
  data_of,
  identifier_good,
  header_good,
  lengths_good,
  variable_at,
  program_in,
  security_in,
  work_in,
  fields_from,
  fields_in,
}
use Rattle.attach_header.specs.Written.{subfield_needs, work_needs, trailing_needs, security_needs, security, work, trailing, identifier, header_in, header_of}
use Rattle.attach_header.proofs.FixedPart.{fixed}
use Rattle.attach_header.proofs.HeaderTests.{good, name_good_lem}
use Rattle.attach_header.proofs.Security.{each_good, subfield_length}
use Rattle.attach_header.proofs.Padding.{no_longer}
use Rattle.attach_header.proofs.Identifier as tested
use Rattle.attach_header.proofs.FieldsRead.{work_good_lem}
use Rattle.attach_header.proofs.GoodStrings.{program_length}
use Rattle.attach_header.proofs.Needed.{with_work, security_alone, neither}
use Rattle.attach_header.proofs.WrittenLengths.{security_length, work_length, trailing_length}

-- ---- a field behind its length byte: it and the rest are what there was, but for that byte

pub opened_length : (x : List ℕ) → (opened x).whole ≡ true → is_empty x ≡ false → length (opened x).field + length (opened x).rest + 1 ≡ length x
unfolding opened
opened_length [] w e = absurd (eqb-false 0 0 e refl)
opened_length (n ∷ bs) w e =
    let h = leb-true n (length bs) w in
    let t = length-take-le n bs h in
    let d = length-drop n bs in
    omega (arith, h, t, d)

pub opened_empty : (x : List ℕ) → is_empty x ≡ true → (length (opened x).field ≡ 0) × (length (opened x).rest ≡ 0)
unfolding opened
opened_empty [] e = (refl, refl)
opened_empty (n ∷ bs) e = absurd (let z = eqb-true (length (n ∷ bs)) 0 e in omega (arith, z))

-- ---- security subfields

-- what a type needs of the subfields that are left
abbrev needs : ℕ → List (List ℕ) → ℕ
needs t l = subfield_needs (length (data_in (of_type t l)))

needs_most : (n : ℕ) → subfield_needs n ≤ n + 2
needs_most n = split (eqb n 0) (λ e. rw e zero-le) (λ e. rw e (omega arith))

data_length : (x : List ℕ) → 1 ≤ length x → subfield_needs (length (data_in x)) ≤ length x + 1
data_length x h =
    let a = needs_most (length (data_in x)) in
    let b = no_longer (drop 1 x) in
    let d = length-drop 1 x in
    omega (arith, a, b, d, h)

one_more : (t : ℕ) (x : List ℕ) (l : List (List ℕ)) → 1 ≤ length x → needs t (x ∷ l) ≤ cond (is_type t x) (length x + 1) 0 + needs t l
unfolding of_type
one_more t x l h =
    let d = data_length x h in
    split (is_type t x) (λ e. rw e (omega (arith, d))) (λ e. rw e (omega arith))

-- a subfield is of one type at most
one_number : (b : Bool) (y m : ℕ) → cond (b && eqb y 0) m 0 + cond (b && eqb y 1) m 0 + cond (b && eqb y 2) m 0 ≤ m
one_number false y m = zero-le
one_number true y m =
    split (eqb y 0) (λ e. rw (eqb-true y 0 e) (omega arith))
    (λ e. split (eqb y 1) (λ f. rw (eqb-true y 1 f) (omega arith)) (λ f. rw (e, f) (last (eqb y 2))))
  where
    last : (c : Bool) → 0 + 0 + cond c m 0 ≤ m
    last true = omega arith
    last false = zero-le

one_type : (x : List ℕ) (m : ℕ) → cond (is_type PROFILE x) m 0 + cond (is_type PASSWORD x) m 0 + cond (is_type USER x) m 0 ≤ m
unfolding is_type
one_type x m = one_number (leb 1 (length x)) (type_in x) m

all_needs : (k : ℕ) (s : List ℕ) → subfields_good k s ≡ true → needs PROFILE (subfields k s) + needs PASSWORD (subfields k s) + needs USER (subfields k s) ≤ length s
unfolding subfields_good subfields of_type unpadded
all_needs zero s e = zero-le
all_needs (suc k) s e =
    split (is_empty s) (λ z. rw z zero-le)
    (λ z.
    let x = (opened s).field in
    let l = subfields k (opened s).rest in
    let b = both ((opened s).whole && subfield_good x) (subfields_good k (opened s).rest) (rw z at e) in
    let c = both (opened s).whole (subfield_good x) b.0 in
    let h = (subfield_length x c.1).0 in
    let n = opened_length s c.0 z in
    let i = all_needs k (opened s).rest b.1 in
    let p = one_more PROFILE x l h in
    let q = one_more PASSWORD x l h in
    let r = one_more USER x l h in
    let o = one_type x (length x + 1) in
    rw z (omega (arith, n, i, p, q, r, o)))

pub security_shorter : (s : List ℕ) → subfields_good 3 s ≡ true
    → security_needs (length (data_of PROFILE s)) (length (data_of PASSWORD s)) (length (data_of USER s)) ≤ length s
security_shorter s e = all_needs 3 s e

-- ---- the identifier

work_most : (n : ℕ) → work_needs n ≤ n + 9
work_most n = split (eqb n 0) (λ e. rw e zero-le) (λ e. rw e (omega arith))

pub work_shorter : (w : List ℕ) → identifier_good w ≡ true → work_needs (length (unpadded (opened w).field)) ≤ length w
work_shorter w g =
    let n = no_longer (opened w).field in
    split (is_empty w) (λ z. let e = (opened_empty w z).0 in none (omega (arith, n, e)))
    (λ z.
    let i = tested.identifier w g z in
    let l = opened_length w i.whole z in
    let r = i.numbers in
    let m = work_most (length (unpadded (opened w).field)) in
    omega (arith, n, l, r, m))
  where
    none : length (unpadded (opened w).field) ≡ 0 → work_needs (length (unpadded (opened w).field)) ≤ length w
    none e = rw e zero-le

not_empty : (x : List ℕ) → 1 ≤ length (opened x).field + length (opened x).rest → is_empty x ≡ false
not_empty x h = split (is_empty x) (λ e. let z = opened_empty x e in absurd (omega (arith, h, z.0, z.1))) (λ e. e)

lengths : (h : List ℕ) → lengths_good h ≡ true → ((program_in h).whole ≡ true) × ((security_in h).whole ≡ true) × ((work_in h).whole ≡ true)
unfolding lengths_good
lengths h e =
    let a = left ((program_in h).whole && (security_in h).whole && (work_in h).whole) (leb (length (work_in h).rest) 1) e in
    let b = both ((program_in h).whole && (security_in h).whole) (work_in h).whole a in
    let c = both (program_in h).whole (security_in h).whole b.0 in
    (c.0, c.1, b.1)

-- ---- trailing fields

-- s and w are what is written, in the place of fields that are as long or longer
trailing_shorter : (x : List ℕ) (s w : ℕ) → (opened x).whole ≡ true → (opened (opened x).rest).whole ≡ true
    → s ≤ length (opened x).field → w ≤ length (opened (opened x).rest).field → trailing_needs s w ≤ length x
trailing_shorter x s w a b p q =
    split (eqb w 0) (λ e. without (eqb-true w 0 e))
    (λ e.
    let z = eqb-false w 0 e in
    let y = (opened x).rest in
    let m = opened_length y b (not_empty y (omega (arith, q, z))) in
    let n = opened_length x a (not_empty x (omega (arith, m))) in
    let t = with_work s w z in
    omega (arith, m, n, p, q, t))
  where
    without : w ≡ 0 → trailing_needs s w ≤ length x
    without z =
        split (eqb s 0) (λ f. let t = neither s w z (eqb-true s 0 f) in omega (arith, t))
        (λ f.
        let y = eqb-false s 0 f in
        let n = opened_length x a (not_empty x (omega (arith, p, y))) in
        let t = security_alone s w z y in
        omega (arith, n, p, t))

-- ---- the header

pub fields_length : (n : ℕ) (f : Fields) → length (header_in n f) ≡ 10 + length f.program + trailing_needs (length (security f)) (length (work f))
unfolding header_in
fields_length n f =
    let p = length-append f.program (trailing (security f) (work f)) in
    let t = trailing_length (security f) (work f) in
    omega (arith, p, t)

pub good_work_length : (f : Fields) → work_good f ≡ true → length (work f) ≡ work_needs (length f.lu)
unfolding work_good identifier
good_work_length f e =
    split (is_empty f.lu) (λ z. rw z)
    (λ z.
    let a = both (lu_name_good f.lu && eqb (length f.instance) 6) (eqb (length f.sequence) 2) (rw z at e) in
    let six = eqb-true (length f.instance) 6 (right (lu_name_good f.lu) (eqb (length f.instance) 6) a.0) in
    let two = eqb-true (length f.sequence) 2 a.1 in
    work_length f.lu f.instance f.sequence six two)

from_shorter : (h name s w : List ℕ) → subfields_good 3 s ≡ true → identifier_good w ≡ true
    → (length (security (fields_from h name s w)) ≤ length s) × (length (work (fields_from h name s w)) ≤ length w)
unfolding fields_from
from_shorter h name s w g i =
    let e = security_length (data_of PROFILE s) (data_of PASSWORD s) (data_of USER s) in
    let a = security_shorter s g in
    let m = good_work_length (fields_from h name s w) (work_good_lem h name s w i) in
    let b = work_shorter w i in
    (omega (arith, e, a), omega (arith, m, b))

-- the lengths put together
add_up : (total least fixed whole program name rest trailing : ℕ) → total ≡ 10 + name + trailing → 3 ≤ least → fixed ≡ 6 + least
    → program + rest + 1 ≡ whole - fixed → name ≤ program → trailing ≤ rest → total ≤ whole
add_up total least fixed whole program name rest trailing a b c d e f = omega arith

whole_from : (h name s w : List ℕ) → (n : ℕ)
    → length (header_in n (fields_from h name s w))
    ≡ 10 + length (unpadded name) + trailing_needs (length (security (fields_from h name s w))) (length (work (fields_from h name s w)))
unfolding fields_from
whole_from h name s w n = fields_length n (fields_from h name s w)

pub no_shorter : (h : List ℕ) → header_good h ≡ true → length (header_of (fields_in h)) ≤ length h
unfolding header_of fields_in
no_shorter h e =
    let name = (program_in h).field in
    let s = (security_in h).field in
    let w = (work_in h).field in
    let g = good h e in
    let f = fixed h g.fixed in
    let l = lengths h g.lengths in
    let p = (program_length (unpadded name) (name_good_lem name g.name).1).0 in
    let q = no_longer name in
    let o = opened_length (drop (variable_at h) h) l.0 (not_empty (drop (variable_at h) h) (omega (arith, p, q))) in
    let b = from_shorter h name s w (each_good s g.security) g.identifier in
    let t = trailing_shorter (program_in h).rest (length (security (fields_from h name s w))) (length (work (fields_from h name s w))) l.1 l.2 b.0 b.1 in
    add_up (length (header_in (length (header_in 0 (fields_from h name s w))) (fields_from h name s w))) (byte 5 h) (variable_at h) (length h) (length name)
    (length (unpadded name)) (length (program_in h).rest)
    (trailing_needs (length (security (fields_from h name s w))) (length (work (fields_from h name s w))))
    (whole_from h name s w (length (header_in 0 (fields_from h name s w)))) f.least refl (o ∙ length-drop (variable_at h) h) q t
