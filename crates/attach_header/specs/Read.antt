-- Reading an attach header (document 000, appendix H). Reserved bits are ignored, and a field of length 0 is absent.
-- Assumes nothing.
use Rattle.std.specs.Prelude.{ℕ, zero, suc, ◌+◌, ◌/◌, ◌%◌, Bool, true, cond, ◌&&◌, ◌||◌, List, [], ◌∷◌, eqb, leb, length, get_or, take, drop}
use Rattle.answers.specs.FirstNo.{first_no}
use Rattle.answers.specs.Answers.{BAD_ATTACH, LONG_ATTACH, accepted, refused}
use Rattle.attach_header.specs.Characters.{is_empty, unpadded, program_good, data_good, lu_name_good}
use Rattle.attach_header.specs.Fields.{Fields, attach_of, resource_good, sync_good}
use Rattle.attach_header.specs.declared.reading.AttachRead.{AttachRead}

abbrev pub byte : ℕ → List ℕ → ℕ
byte i h = get_or h i 0

-- ---- a field behind its length byte

pub record Counted : Type 0 where
  pub whole : Bool
  pub field : List ℕ
  pub rest : List ℕ

-- the bytes that the length byte counts, and those behind them. Where the header has ended, a length byte of 0 was left out
unfoldable pub opened : List ℕ → Counted
opened [] = record { whole = true; field = []; rest = [] }
opened (n ∷ bs) = record { whole = leb n (length bs); field = take n bs; rest = drop n bs }

-- ---- bytes 0 to j

abbrev pub LEAST_FIXED : ℕ
LEAST_FIXED = 3

-- where byte j + 1 stands: past the fixed part, which begins with byte 6 and whose length is byte 5
abbrev pub variable_at : List ℕ → ℕ
variable_at h = 6 + byte 5 h

abbrev pub pip_of : List ℕ → ℕ
pip_of h = byte 4 h / 8 % 2

abbrev pub sync_of : List ℕ → ℕ
sync_of h = byte 8 h / 64

unfoldable pub fixed_good : List ℕ → Bool
fixed_good h =
    (((eqb (byte 0 h) (length h) && eqb (byte 1 h % 128) 0x05) && eqb (byte 2 h) 0x02) && eqb (byte 3 h) 0xFF)
    && (((leb LEAST_FIXED (byte 5 h) && leb (variable_at h) (length h)) && resource_good (byte 6 h)) && sync_good (sync_of h))

-- ---- bytes j + 1 to n

abbrev pub program_in : List ℕ → Counted
program_in h = opened (drop (variable_at h) h)

abbrev pub security_in : List ℕ → Counted
security_in h = opened (program_in h).rest

abbrev pub work_in : List ℕ → Counted
work_in h = opened (security_in h).rest

-- behind them stands at most byte n + 1, reserved
unfoldable pub lengths_good : List ℕ → Bool
lengths_good h = (((program_in h).whole && (security_in h).whole) && (work_in h).whole) && leb (length (work_in h).rest) 1

-- the length byte of a program name counts its padding, and is at most 64 with it
unfoldable pub name_good : List ℕ → Bool
name_good x = leb (length x) 64 && program_good (unpadded x)

-- ---- access security information subfields, in any order. There are three types and none may come twice, so there are at most three

abbrev pub PROFILE : ℕ
PROFILE = 0

abbrev pub PASSWORD : ℕ
PASSWORD = 1

abbrev pub USER : ℕ
USER = 2

abbrev pub type_in : List ℕ → ℕ
type_in x = get_or x 0 0

abbrev pub data_in : List ℕ → List ℕ
data_in x = unpadded (drop 1 x)

-- the length of a subfield is 1 to 11: a type and 0 to 10 bytes of data, padding among them
unfoldable pub subfield_good : List ℕ → Bool
subfield_good x = leb 1 (length x) && (leb (length x) 11 && leb (type_in x) USER) && data_good (data_in x)

-- the lengths of the subfields add up to that of the field
unfoldable pub subfields_good : ℕ → List ℕ → Bool
subfields_good zero s = is_empty s
subfields_good (suc k) s =
    cond (is_empty s) true (((opened s).whole && subfield_good (opened s).field) && subfields_good k (opened s).rest)

unfoldable pub subfields : ℕ → List ℕ → List (List ℕ)
subfields zero s = []
subfields (suc k) s = cond (is_empty s) [] ((opened s).field ∷ subfields k (opened s).rest)

unfoldable pub is_type : ℕ → List ℕ → Bool
is_type t x = leb 1 (length x) && eqb (type_in x) t

unfoldable pub count_of : ℕ → List (List ℕ) → ℕ
count_of t [] = 0
count_of t (x ∷ xs) = cond (is_type t x) 1 0 + count_of t xs

-- the subfield of a type, none if there is none
unfoldable pub of_type : ℕ → List (List ℕ) → List ℕ
of_type t [] = []
of_type t (x ∷ xs) = cond (is_type t x) x (of_type t xs)

abbrev pub once : ℕ → List ℕ → Bool
once t s = leb (count_of t (subfields 3 s)) 1

unfoldable pub security_good : List ℕ → Bool
security_good s = ((subfields_good 3 s && once PROFILE s) && once PASSWORD s) && once USER s

abbrev pub data_of : ℕ → List ℕ → List ℕ
data_of t s = data_in (of_type t (subfields 3 s))

-- ---- the logical-unit-of-work identifier: an LU network name behind its length of 1 to 17, and two numbers of 6 and 2 bytes

unfoldable pub identifier_good : List ℕ → Bool
identifier_good w =
    is_empty w
    || ((((opened w).whole && leb (length (opened w).field) 17) && eqb (length (opened w).rest) 8) && lu_name_good (unpadded (opened w).field))

-- ---- the header

unfoldable pub header_good : List ℕ → Bool
header_good h =
    fixed_good h && lengths_good h && name_good (program_in h).field && security_good (security_in h).field && identifier_good (work_in h).field

-- the fields of bytes 0 to j, of the program name, of the security subfields and of the identifier
unfoldable pub fields_from : List ℕ → List ℕ → List ℕ → List ℕ → Fields
fields_from h name s w =
    record {
      pip = pip_of h;
      resource = byte 6 h;
      sync = sync_of h;
      program = unpadded name;
      profile = data_of PROFILE s;
      password = data_of PASSWORD s;
      user = data_of USER s;
      lu = unpadded (opened w).field;
      instance = take 6 (opened w).rest;
      sequence = drop 6 (opened w).rest;
    }

unfoldable pub fields_in : List ℕ → Fields
fields_in h = fields_from h (program_in h).field (security_in h).field (work_in h).field

-- ---- reading

abbrev pub read_questions : List ℕ → List (Bool × ℕ)
read_questions h = (leb (length h) 255, LONG_ATTACH) ∷ (header_good h, BAD_ATTACH) ∷ []

-- refused: every field 0 or absent
abbrev pub no_fields : Fields
no_fields = record { pip = 0; resource = 0; sync = 0; program = []; profile = []; password = []; user = []; lu = []; instance = []; sequence = [] }

abbrev pub read_as : Fields → AttachRead
read_as f = record { answer = accepted 0; attach = attach_of f }

abbrev pub not_read : ℕ → AttachRead
not_read q = record { answer = refused q; attach = attach_of no_fields }

unfoldable pub read_attach : List ℕ → AttachRead
read_attach h = let q : ℕ = first_no (read_questions h) in cond (eqb q 0) (read_as (fields_in h)) (not_read q)
