-- The lengths of what is written.
-- Assumes nothing.
use mathlib.Core.Path.{◌≡◌, refl}
use mathlib.Core.Bool.{Bool, true, false, cond, ◌&&◌, ◌||◌}
use mathlib.Core.List.{List, [], ◌++◌}
use Prim.Native.Nat.{ℕ, ◌+◌, ◌≤◌}
use native.Mathlib.Omega.{arith}
use lib.Dec.{leb, eqb}
use lib.ListN.{length, length-append}
use lib.Seq.{length-take-le}
use borrow.Author.Tests.{leb-true}
use Rattle.bools.proofs.Tests.{both}
use Rattle.bools.proofs.Cases.{split}
use Rattle.attach_header.specs.Characters.{is_empty, data_good, program_good, lu_name_good, belongs, every}
use Rattle.attach_header.specs.Fields.{text_of}
use Rattle.attach_header.specs.Written.{
  subfield,
  three_subfields,
  identifier,
  trailing,
  counted,
  data_fits,
  lu_fits,
  program_fits,
  within,
  subfield_needs,
  work_needs,
  trailing_needs,
  security_needs,
}
use Rattle.attach_header.specs.Read.{PROFILE, PASSWORD, USER}
use Rattle.attach_header.specs.declared.SymbolString.{SymbolString}

-- a string that has its cells
pub text_length : (s : SymbolString) → within s ≡ true → length (text_of s) ≡ s.length
text_length s e = length-take-le s.length s.bytes (leb-true s.length (length s.bytes) e)

pub data_fits_lem : (s : SymbolString) → data_fits s ≡ true → (within s ≡ true) × (data_good (text_of s) ≡ true)
unfolding data_fits
data_fits_lem s e = both (within s) (data_good (text_of s)) e

pub data_short : (x : List ℕ) → data_good x ≡ true → length x ≤ 10
unfolding data_good
data_short x e = leb-true (length x) 10 (both (leb (length x) 10) (every (belongs true) x) e).0

pub lu_within : (s : SymbolString) → lu_fits s ≡ true → within s ≡ true
unfolding lu_fits
lu_within s e = (both (within s) (is_empty (text_of s) || lu_name_good (text_of s)) e).0

pub program_fits_lem : (s : SymbolString) → program_fits s ≡ true → (within s ≡ true) × (program_good (text_of s) ≡ true)
unfolding program_fits
program_fits_lem s e = both (within s) (program_good (text_of s)) e

-- ---- of parts

counted_length : (b : Bool) (x : List ℕ) → length (cond b [] (counted x)) ≡ cond b 0 (length x + 1)
counted_length true x = refl
counted_length false x = omega arith

pub subfield_length : (t : ℕ) (x : List ℕ) → length (subfield t x) ≡ subfield_needs (length x)
unfolding subfield
subfield_length t x = split (eqb (length x) 0) (λ e. rw e) (λ e. rw e (omega arith))

pub security_length : (a b c : List ℕ) → length (three_subfields a b c) ≡ security_needs (length a) (length b) (length c)
unfolding three_subfields
security_length a b c =
    rw (
      length-append (subfield PROFILE a) (subfield PASSWORD b ++ subfield USER c),
      length-append (subfield PASSWORD b) (subfield USER c),
      subfield_length PROFILE a,
      subfield_length PASSWORD b,
      subfield_length USER c,
    ) (omega arith)

pub work_length : (lu instance sequence : List ℕ) → length instance ≡ 6 → length sequence ≡ 2
    → length (identifier lu instance sequence) ≡ work_needs (length lu)
unfolding identifier
work_length lu i s six two =
    split (eqb (length lu) 0) (λ e. rw e)
    (λ e. rw (e, length-append lu (i ++ s), length-append i s, six, two) (omega arith))

pub trailing_length : (s w : List ℕ) → length (trailing s w) ≡ trailing_needs (length s) (length w)
unfolding trailing
trailing_length s w =
    rw (length-append (cond (is_empty s && is_empty w) [] (counted s)) (cond (is_empty w) [] (counted w)))
    (omega (arith, counted_length (is_empty s && is_empty w) s, counted_length (is_empty w) w))
