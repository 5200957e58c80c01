-- The fields of a good header are such as may be written.
-- Assumes nothing.
use mathlib.Core.Path.{◌≡◌, refl}
use mathlib.Core.Bool.{true, ◌&&◌}
use mathlib.Core.List.{List, [], ◌∷◌}
use Prim.Native.Nat.{ℕ, zero, suc, ◌/◌, ◌%◌}
use native.Mathlib.Omega.{arith}
use lib.Dec.{leb}
use lib.ListN.{length, take, drop, length-drop}
use lib.Seq.{length-take-le}
use borrow.Author.Tests.{le-leb, eq-eqb, ne_eqb, eqb-true}
use Rattle.bools.proofs.Tests.{both, right}
use Rattle.bools.proofs.Cases.{cases, split}
use Rattle.attach_header.specs.Characters.{is_empty, unpadded, data_good, every, program_good}
use Rattle.attach_header.specs.Fields.{resource_good, sync_good, work_good, fields_good}
use Rattle.attach_header.specs.Read.{byte, opened, type_in, data_in, PROFILE, PASSWORD, USER, sync_of, subfield_good, subfields_good, subfields, is_type, of_type, identifier_good, header_good, program_in, security_in, work_in, fields_from, fields_in}
use Rattle.attach_header.proofs.FixedPart.{fixed}
use Rattle.attach_header.proofs.HeaderTests.{good, name_good_lem}
use Rattle.attach_header.proofs.Security.{each_good}
use Rattle.attach_header.proofs.Identifier.{Identifier, identifier}
use Rattle.attach_header.proofs.GoodStrings.{lu_length}

-- ---- security subfields

subfield_data : (x : List ℕ) → subfield_good x ≡ true → data_good (data_in x) ≡ true
unfolding subfield_good
subfield_data x e = right (leb 1 (length x) && (leb (length x) 11 && leb (type_in x) USER)) (data_good (data_in x)) e

-- where there is none of a type, its data are none, which is good
none_good : data_good (data_in []) ≡ true
unfolding data_good unpadded every
none_good = refl

pub found_good : (t k : ℕ) (s : List ℕ) → subfields_good k s ≡ true → data_good (data_in (of_type t (subfields k s))) ≡ true
unfolding subfields subfields_good of_type
found_good t zero s e = none_good
found_good t (suc k) s e =
    split (is_empty s) (λ z. rw z none_good)
    (λ z.
    let b = both ((opened s).whole && subfield_good (opened s).field) (subfields_good k (opened s).rest) (rw z at e) in
    rw z (cases (λ (x : List ℕ). data_good (data_in x) ≡ true) (is_type t (opened s).field)
    (λ y. subfield_data (opened s).field (right (opened s).whole (subfield_good (opened s).field) b.0)) (λ y. found_good t k (opened s).rest b.1)))

-- ---- the logical-unit-of-work identifier

empty_is : (w : List ℕ) → is_empty w ≡ true → w ≡ []
empty_is [] e = refl
empty_is (x ∷ w) e = absurd (let z = eqb-true (length (x ∷ w)) 0 e in omega (arith, z))

no_work_good : (h name s : List ℕ) → work_good (fields_from h name s []) ≡ true
unfolding work_good fields_from opened unpadded
no_work_good h name s = refl

some_work_good : (h name s w : List ℕ) → Identifier w → work_good (fields_from h name s w) ≡ true
unfolding work_good fields_from
some_work_good h name s w i =
    let x = unpadded (opened w).field in
    let l = (lu_length x i.name).0 in
    let r = i.numbers in
    let six = length-take-le 6 (opened w).rest (omega (arith, r)) in
    let two = length-drop 6 (opened w).rest in
    rw (
      ne_eqb (length x) 0 (λ t. absurd (omega (arith, t, l))),
      i.name,
      eq-eqb (length (take 6 (opened w).rest)) 6 six,
      eq-eqb (length (drop 6 (opened w).rest)) 2 (omega (arith, r, two)),
    )

pub work_good_lem : (h name s w : List ℕ) → identifier_good w ≡ true → work_good (fields_from h name s w) ≡ true
work_good_lem h name s w e =
    split (is_empty w) (λ z. rw (empty_is w z) (no_work_good h name s)) (λ z. some_work_good h name s w (identifier w e z))

-- ---- the fields

bit : (n : ℕ) → leb (n % 2) 1 ≡ true
bit n = le-leb (n % 2) 1 (omega arith)

from_good : (h name s w : List ℕ) → resource_good (byte 6 h) ≡ true → sync_good (sync_of h) ≡ true → program_good (unpadded name) ≡ true
    → subfields_good 3 s ≡ true → identifier_good w ≡ true → fields_good (fields_from h name s w) ≡ true
unfolding fields_good fields_from
from_good h name s w r y p g i =
    rw (bit (byte 4 h / 8), r, y, p, found_good PROFILE 3 s g, found_good PASSWORD 3 s g, found_good USER 3 s g) (work_good_lem h name s w i)

pub fields_good_lem : (h : List ℕ) → header_good h ≡ true → fields_good (fields_in h) ≡ true
unfolding fields_in
fields_good_lem h e =
    let g = good h e in
    let f = fixed h g.fixed in
    from_good h (program_in h).field (security_in h).field (work_in h).field f.resource f.sync (name_good_lem (program_in h).field g.name).1
    (each_good (security_in h).field g.security) g.identifier
