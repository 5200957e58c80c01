-- The bytes with which a session starts: what a window byte and a size byte mean, and the way back, from a size to its byte.
-- Assumes nothing.
use Rattle.std.specs.Prelude.{ℕ, zero, suc, ◌*◌, ◌/◌, ◌%◌, ◌^◌, Bool, cond, not, ◌&&◌, List, [], ◌∷◌, eqb, leb, Option, Some, None}
use Rattle.unit.specs.Maximum.{max_good}
use Rattle.answers.specs.FirstNo.{first_no}
use Rattle.answers.specs.Answers.{BAD_MAXIMUM, NO_SIZE_BYTE, accepted, refused}
use Rattle.bind.specs.declared.SizeByte.{SizeByte}

-- a window is the low six bits of its byte
abbrev pub window_of : ℕ → ℕ
window_of byte = byte % 64

-- ---- a size byte: mantissa a, the high four bits, and exponent b, the low four, mean a × 2^b

abbrev pub mantissa : ℕ → ℕ
mantissa byte = byte / 16

abbrev pub exponent : ℕ → ℕ
exponent byte = byte % 16

abbrev pub times : ℕ → ℕ → ℕ
times a b = a * 2 ^ b

-- of four bits, 8 to 15
abbrev pub mantissa_good : ℕ → Bool
mantissa_good a = leb 8 a

abbrev pub means : ℕ → ℕ → Bool
means byte size = mantissa_good (mantissa byte) && eqb (times (mantissa byte) (exponent byte)) size

-- what a and b mean is a maximum RU
abbrev pub maximum_good : ℕ → ℕ → Bool
maximum_good a b = mantissa_good a && max_good (times a b)

-- the maximum RU that a byte means; none, where it means none, is written 0
unfoldable pub size_of : ℕ → ℕ
size_of byte = cond (maximum_good (mantissa byte) (exponent byte)) (times (mantissa byte) (exponent byte)) 0

-- ---- the way back

-- the byte that means a size, among the bytes below n; if there is none, 0, which means no size
abbrev pub byte_below : ℕ → ℕ → ℕ
byte_below zero size = 0
byte_below (suc n) size = cond (means n size) n (byte_below n size)

unfoldable pub byte_of : ℕ → ℕ
byte_of size = byte_below 256 size

-- the byte, where one means the size
abbrev pub byte_found : ℕ → Option ℕ
byte_found size = cond (eqb (byte_of size) 0) None (Some (byte_of size))

abbrev pub size_questions : ℕ → List (Bool × ℕ)
size_questions size = (max_good size, BAD_MAXIMUM) ∷ (not (eqb (byte_of size) 0), NO_SIZE_BYTE) ∷ []

-- refused: byte 0
abbrev pub no_byte : ℕ → SizeByte
no_byte q = record { answer = refused q; byte = 0 }

abbrev pub one_byte : ℕ → SizeByte
one_byte byte = record { answer = accepted 0; byte = byte }

unfoldable pub size_byte : ℕ → SizeByte
size_byte size = let q : ℕ = first_no (size_questions size) in cond (eqb q 0) (one_byte (byte_of size)) (no_byte q)
