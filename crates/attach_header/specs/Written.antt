-- The single written form of an attach header (document 000, appendix H): the shortest legal lengths, subfields by rising type, reserved
-- bits 0, trailing absent fields dropped.
-- Assumes nothing.
use Rattle.std.specs.Prelude.{ℕ, ◌+◌, ◌*◌, Bool, cond, ◌&&◌, ◌||◌, List, [], ◌∷◌, ◌++◌, eqb, leb, length}
use Rattle.cells.specs.Cells.{front}
use Rattle.answers.specs.FirstNo.{first_no}
use Rattle.answers.specs.Answers.{BAD_BUFFER, BAD_ATTACH, LONG_ATTACH, accepted, refused}
use Rattle.attach_header.specs.Characters.{is_empty, program_good, data_good, lu_name_good}
use Rattle.attach_header.specs.Fields.{Fields, text_of, fields_of, resource_good, sync_good}
use Rattle.attach_header.specs.Read.{PROFILE, PASSWORD, USER}
use Rattle.attach_header.specs.declared.SymbolString.{SymbolString}
use Rattle.attach_header.specs.declared.Attach.{Attach}
use Rattle.attach_header.specs.declared.writing.Written.{Written}

-- a field behind its length byte, which does not count itself
abbrev pub counted : List ℕ → List ℕ
counted x = length x ∷ x

-- ---- access security information subfields: a length, which counts the type and the data, the type, and the data

unfoldable pub subfield : ℕ → List ℕ → List ℕ
subfield type x = cond (is_empty x) [] (counted (type ∷ x))

unfoldable pub three_subfields : List ℕ → List ℕ → List ℕ → List ℕ
three_subfields profile password user = subfield PROFILE profile ++ (subfield PASSWORD password ++ subfield USER user)

abbrev pub security : Fields → List ℕ
security f = three_subfields f.profile f.password f.user

-- ---- the logical-unit-of-work identifier

unfoldable pub identifier : List ℕ → List ℕ → List ℕ → List ℕ
identifier lu instance sequence = cond (is_empty lu) [] (counted lu ++ (instance ++ sequence))

abbrev pub work : Fields → List ℕ
work f = identifier f.lu f.instance f.sequence

-- ---- the header

-- trailing length bytes of 0 are left out: that of the security subfields where nothing follows it, that of the identifier always
unfoldable pub trailing : List ℕ → List ℕ → List ℕ
trailing s w = cond (is_empty s && is_empty w) [] (counted s) ++ cond (is_empty w) [] (counted w)

-- the length of the fixed part is 3: resource type, a reserved byte, sync level
abbrev pub fixed : ℕ → Fields → List ℕ
fixed total f = total ∷ 0x05 ∷ 0x02 ∷ 0xFF ∷ 8 * f.pip ∷ 3 ∷ f.resource ∷ 0 ∷ 64 * f.sync ∷ []

unfoldable pub header_in : ℕ → Fields → List ℕ
header_in total f = fixed total f ++ (counted f.program ++ trailing (security f) (work f))

-- the first byte is the length of the whole
unfoldable pub header_of : Fields → List ℕ
header_of f = header_in (length (header_in 0 f)) f

-- ---- writing

-- the length that strings of these lengths need
abbrev pub subfield_needs : ℕ → ℕ
subfield_needs n = cond (eqb n 0) 0 (n + 2)

abbrev pub work_needs : ℕ → ℕ
work_needs n = cond (eqb n 0) 0 (n + 9)

abbrev pub trailing_needs : ℕ → ℕ → ℕ
trailing_needs s w = cond (eqb s 0 && eqb w 0) 0 (s + 1) + cond (eqb w 0) 0 (w + 1)

abbrev pub security_needs : ℕ → ℕ → ℕ → ℕ
security_needs profile password user = subfield_needs profile + subfield_needs password + subfield_needs user

unfoldable pub needed : Attach → ℕ
needed a =
    10 + a.program.length + trailing_needs (security_needs a.profile.length a.password.length a.user.length) (work_needs a.lu.length)

-- no string says that it is longer than the cells that it has
abbrev pub within : SymbolString → Bool
within s = leb s.length (length s.bytes)

unfoldable pub program_fits : SymbolString → Bool
program_fits s = within s && program_good (text_of s)

unfoldable pub data_fits : SymbolString → Bool
data_fits s = within s && data_good (text_of s)

unfoldable pub lu_fits : SymbolString → Bool
lu_fits s = within s && (is_empty (text_of s) || lu_name_good (text_of s))

-- as the type of the two arrays says
abbrev pub numbers_whole : List ℕ → List ℕ → Bool
numbers_whole instance sequence = eqb (length instance) 6 && eqb (length sequence) 2

-- the fields are such as appendix H allows
unfoldable pub writable : Attach → Bool
writable a =
    (leb a.pip 1 && resource_good a.resource && sync_good a.sync)
    && (program_fits a.program && data_fits a.profile && data_fits a.password && data_fits a.user && lu_fits a.lu)
    && numbers_whole a.instance a.sequence

unfoldable pub write_questions : Attach → ℕ → List (Bool × ℕ)
write_questions a room = (leb 255 room, BAD_BUFFER) ∷ (leb (needed a) 255, LONG_ATTACH) ∷ (writable a, BAD_ATTACH) ∷ []

abbrev pub written_as : List ℕ → Written
written_as bytes = record { answer = accepted 0; length = length bytes }

abbrev pub not_written : ℕ → Written
not_written q = record { answer = refused q; length = 0 }

-- the answer, and the cells of the buffer
unfoldable pub write_attach : Attach → List ℕ → Written × List ℕ
write_attach a cells =
    let q : ℕ = first_no (write_questions a (length cells)) in
    let bytes : List ℕ = header_of (fields_of a) in
    cond (eqb q 0) (written_as bytes, front bytes cells) (not_written q, cells)
