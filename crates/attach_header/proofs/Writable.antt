-- What the tests of fields that are to be written tell, where all hold; and the lengths of the parts.
-- Assumes nothing.
use mathlib.Core.Path.{◌≡◌, refl, sym, ap, ◌∙◌}
use mathlib.Core.Bool.{Bool, true, false, cond, ◌&&◌}
use mathlib.Core.List.{List, [], ◌∷◌, ◌++◌}
use Prim.Native.Nat.{ℕ, ◌+◌, ◌*◌, ◌≤◌}
use native.Mathlib.Omega.{arith}
use lib.Dec.{leb, eqb}
use lib.ListN.{length, length-append}
use borrow.Author.Tests.{eqb-true, eq-eqb, ne_eqb}
use Rattle.bools.proofs.Tests.{both, right}
use Rattle.bools.proofs.Cases.{split}
use Rattle.attach_header.specs.Characters.{is_empty}
use Rattle.attach_header.specs.Fields.{text_of, fields_of, resource_good, sync_good}
use Rattle.attach_header.specs.Written.{counted, security, work, identifier, trailing, program_fits, data_fits, lu_fits, numbers_whole, writable, header_in, header_of, security_needs, work_needs, needed}
use Rattle.attach_header.specs.declared.Attach.{Attach}
use Rattle.attach_header.proofs.Needed.{parts_within}
use Rattle.attach_header.proofs.WrittenLengths.{text_length, data_fits_lem, program_fits_lem, trailing_length, lu_within, security_length, work_length}

pub record Fits (a : Attach) : Type 0 where
  pub pip : leb a.pip 1 ≡ true
  pub resource : resource_good a.resource ≡ true
  pub sync : sync_good a.sync ≡ true
  pub program : program_fits a.program ≡ true
  pub profile : data_fits a.profile ≡ true
  pub password : data_fits a.password ≡ true
  pub user : data_fits a.user ≡ true
  pub lu : lu_fits a.lu ≡ true
  pub instance : length a.instance ≡ 6
  pub sequence : length a.sequence ≡ 2

pub fits : (a : Attach) → writable a ≡ true → Fits a
unfolding writable
fits a e =
    let first = leb a.pip 1 && resource_good a.resource in
    let one = program_fits a.program && data_fits a.profile in
    let two = one && data_fits a.password in
    let three = two && data_fits a.user in
    let strings = three && lu_fits a.lu in
    let x = both ((first && sync_good a.sync) && strings) (numbers_whole a.instance a.sequence) e in
    let y = both (first && sync_good a.sync) strings x.0 in
    let n = both (eqb (length a.instance) 6) (eqb (length a.sequence) 2) x.1 in
    let p = both first (sync_good a.sync) y.0 in
    let q = both (leb a.pip 1) (resource_good a.resource) p.0 in
    let t = both three (lu_fits a.lu) y.1 in
    let u = both two (data_fits a.user) t.0 in
    let v = both one (data_fits a.password) u.0 in
    let w = both (program_fits a.program) (data_fits a.profile) v.0 in
    record {
      pip = q.0;
      resource = q.1;
      sync = p.1;
      program = w.0;
      profile = w.1;
      password = v.1;
      user = u.1;
      lu = t.1;
      instance = eqb-true (length a.instance) 6 n.0;
      sequence = eqb-true (length a.sequence) 2 n.1;
    }

-- without a name the numbers are not looked at
pub work_of_lem : (a : Attach) → work (fields_of a) ≡ identifier (text_of a.lu) a.instance a.sequence
unfolding fields_of identifier
work_of_lem a = split (is_empty (text_of a.lu)) (λ e. rw e) (λ e. rw e)

pub security_of_lem : (a : Attach) → Fits a → length (security (fields_of a)) ≡ security_needs a.profile.length a.password.length a.user.length
unfolding fields_of
security_of_lem a f =
    security_length (text_of a.profile) (text_of a.password) (text_of a.user)
    ∙ rw (
      text_length a.profile (data_fits_lem a.profile f.profile).0,
      text_length a.password (data_fits_lem a.password f.password).0,
      text_length a.user (data_fits_lem a.user f.user).0,
    ) refl

pub work_needs_lem : (a : Attach) → Fits a → length (work (fields_of a)) ≡ work_needs a.lu.length
work_needs_lem a f =
    ap length (work_of_lem a) ∙ work_length (text_of a.lu) a.instance a.sequence f.instance f.sequence
    ∙ ap work_needs (text_length a.lu (lu_within a.lu f.lu))

-- ---- trailing fields, by what is present

-- the identifier behind its length byte
abbrev pub work_behind : Attach → List ℕ
work_behind a = cond (is_empty (work (fields_of a))) [] (counted (work (fields_of a)))

module _ (a : Attach) (f : Fits a) {s w : ℕ} (es : s ≡ security_needs a.profile.length a.password.length a.user.length)
    (ew : w ≡ work_needs a.lu.length) where
  abbrev S : List ℕ
  S = security (fields_of a)

  abbrev W : List ℕ
  W = work (fields_of a)

  first : length S ≡ s
  first = security_of_lem a f ∙ sym es

  second : length W ≡ w
  second = work_needs_lem a f ∙ sym ew

  flags : {outcome : Bool} → eqb s 0 && eqb w 0 ≡ outcome → is_empty S && is_empty W ≡ outcome
  flags e = rw (first, second) e

  pub nothing_trails : eqb s 0 && eqb w 0 ≡ true → trailing S W ≡ []
  unfolding trailing
  nothing_trails e = rw (flags {outcome = true} e, right (is_empty S) (is_empty W) (flags {outcome = true} e))

  pub something_trails : eqb s 0 && eqb w 0 ≡ false → trailing S W ≡ (s ∷ []) ++ (S ++ work_behind a)
  unfolding trailing
  something_trails e = rw (flags {outcome = false} e, first)

  pub no_work_behind : w ≡ 0 → work_behind a ≡ []
  no_work_behind z = rw (eq-eqb (length W) 0 (second ∙ z))

  pub work_behind_lem : (w ≡ 0 → ⊥) → work_behind a ≡ (w ∷ []) ++ identifier (text_of a.lu) a.instance a.sequence
  work_behind_lem z = rw (ne_eqb (length W) 0 (λ e. z (sym second ∙ e)), second, work_of_lem a)

pub program_length : (a : Attach) → Fits a → length (fields_of a).program ≡ a.program.length
unfolding fields_of
program_length a f = text_length a.program (program_fits_lem a.program f.program).0

-- the two lengths each fit in a byte
pub short_parts : (a : Attach) → needed a ≤ 255
    → security_needs a.profile.length a.password.length a.user.length + work_needs a.lu.length ≤ 255
unfolding needed
short_parts a h =
    let s = security_needs a.profile.length a.password.length a.user.length in
    let t = parts_within s (work_needs a.lu.length) in
    omega (arith, h, t)

-- ---- the whole

-- its length, whatever its first byte
pub header_length : (a : Attach) (total : ℕ) → Fits a → length (header_in total (fields_of a)) ≡ needed a
unfolding header_in needed
header_length a total f =
    let p = length-append (fields_of a).program (trailing (security (fields_of a)) (work (fields_of a))) in
    let n = program_length a f in
    let t = rw (security_of_lem a f, work_needs_lem a f) at (trailing_length (security (fields_of a)) (work (fields_of a))) in
    omega (arith, p, n, t)

-- ten bytes, the program name, and what trails
abbrev pub head_with : ℕ → Attach → List ℕ
head_with n a = n ∷ 0x05 ∷ 0x02 ∷ 0xFF ∷ 8 * a.pip ∷ 3 ∷ a.resource ∷ 0 ∷ 64 * a.sync ∷ a.program.length ∷ []

abbrev pub trailing_of : Attach → List ℕ
trailing_of a = trailing (security (fields_of a)) (work (fields_of a))

pieces : (n : ℕ) (a : Attach) → Fits a → header_in n (fields_of a) ≡ head_with n a ++ (text_of a.program ++ trailing_of a)
unfolding header_in fields_of
pieces n a f = rw (program_length a f)

pub header_pieces : (n : ℕ) (a : Attach) → Fits a → n ≡ needed a → header_of (fields_of a) ≡ head_with n a ++ (text_of a.program ++ trailing_of a)
unfolding header_of
header_pieces n a f e = ap (λ (m : ℕ). header_in m (fields_of a)) (header_length a 0 f ∙ sym e) ∙ pieces n a f

pub whole_length : (a : Attach) → Fits a → length (header_of (fields_of a)) ≡ needed a
unfolding header_of
whole_length a f = header_length a (length (header_in 0 (fields_of a))) f
