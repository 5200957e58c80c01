-- The bytes of symbol strings, in EBCDIC (document 000, appendix E, note 5), and the strings that an attach header may hold (appendix H,
-- figures H-1 and H-2, at the widest receive support).
-- Assumes nothing.
use Rattle.std.specs.Prelude.{ℕ, ◌+◌, Bool, true, false, cond, ◌&&◌, ◌||◌, List, [], ◌∷◌, eqb, leb, length, get_or, take, drop}
use Rattle.cells.specs.Found.{index_of}

abbrev pub between : ℕ → ℕ → ℕ → Bool
between low high b = leb low b && leb b high

-- A to I, J to R, S to Z, and $, #, @
abbrev pub is_letter : ℕ → Bool
is_letter b = (((((between 0xC1 0xC9 b || between 0xD1 0xD9 b) || between 0xE2 0xE9 b)) || eqb b 0x5B) || eqb b 0x7B) || eqb b 0x7C

abbrev pub is_digit : ℕ → Bool
is_digit b = between 0xF0 0xF9 b

-- EBCDIC graphics
abbrev pub is_graphic : ℕ → Bool
is_graphic b = between 0x41 0xFE b

-- type GR, or type A
abbrev pub belongs : Bool → ℕ → Bool
belongs graphic b = cond graphic (is_graphic b) (is_letter b || is_digit b)

unfoldable pub every : (ℕ → Bool) → List ℕ → Bool
every p [] = true
every p (b ∷ bs) = p b && every p bs

-- ---- padding: spaces that fill a string out to the right are no part of it

abbrev pub SPACE : ℕ
SPACE = 0x40

abbrev pub is_empty : List ℕ → Bool
is_empty xs = eqb (length xs) 0

unfoldable pub unpadded : List ℕ → List ℕ
unpadded [] = []
unpadded (b ∷ bs) = cond (is_empty (unpadded bs) && eqb b SPACE) [] (b ∷ unpadded bs)

-- ---- the strings of the header, without padding

-- a transaction program name: type GR; that of a service program begins with 00 to 3F. There is no program of no name
abbrev pub first_good : ℕ → Bool
first_good b = leb b 0x3F || is_graphic b

unfoldable pub program_good : List ℕ → Bool
program_good x = leb 1 (length x) && (leb (length x) 64 && first_good (get_or x 0 0)) && every (belongs true) (drop 1 x)

-- a profile, password or user ID: type GR, absent if there is no byte
unfoldable pub data_good : List ℕ → Bool
data_good x = leb (length x) 10 && every (belongs true) x

-- a network ID or LU name: type A, which does not begin with a digit
unfoldable pub part_good : List ℕ → Bool
part_good x = leb 1 (length x) && (leb (length x) 8 && is_letter (get_or x 0 0)) && every (belongs false) x

abbrev pub PERIOD : ℕ
PERIOD = 0x4B

-- a fully qualified LU network name: an LU name, or a network ID, a period and an LU name
unfoldable pub lu_name_good : List ℕ → Bool
lu_name_good x =
    let p : ℕ = index_of PERIOD x in
    cond (eqb p (length x)) (part_good x) (part_good (take p x) && part_good (drop (p + 1) x))
