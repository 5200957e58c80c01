-- Bytes in a line: pairs of capital hexadecimal digits.
-- Assumes nothing.
use Rattle.std.specs.Prelude.{ℕ, ◌+◌, ◌-◌, ◌*◌, Bool, true, false, cond, ◌&&◌, ◌||◌, List, [], ◌∷◌, leb, length, Option, Some, None}
use Rattle.digits.specs.DecimalRead.{is_decimal}

-- A to F
abbrev pub is_letter : ℕ → Bool
is_letter b = leb 0x41 b && leb b 0x46

-- the value of a digit
abbrev pub digit_of : ℕ → ℕ
digit_of b = cond (is_decimal b) (b - 0x30) (cond (is_letter b) (b - 0x37) 0)

abbrev pub is_pair : ℕ → ℕ → Bool
is_pair high low = (is_decimal high || is_letter high) && (is_decimal low || is_letter low)

abbrev pub byte_of : ℕ → ℕ → ℕ
byte_of high low = 16 * digit_of high + digit_of low

-- digits, two by two to the end
unfoldable pub are_pairs : List ℕ → Bool
are_pairs [] = true
are_pairs (high ∷ []) = false
are_pairs (high ∷ low ∷ rest) = is_pair high low && are_pairs rest

-- the byte of each pair
unfoldable pub bytes_of : List ℕ → List ℕ
bytes_of [] = []
bytes_of (high ∷ []) = []
bytes_of (high ∷ low ∷ rest) = byte_of high low ∷ bytes_of rest

-- the bytes of a text of pairs, at least one and at most `most`
unfoldable pub bytes_read : List ℕ → ℕ → Option (List ℕ)
bytes_read text most =
    cond (are_pairs text && leb 1 (length (bytes_of text)) && leb (length (bytes_of text)) most) (Some (bytes_of text)) None

-- how a reader answers: how many they are
abbrev pub hex_answer : Option (List ℕ) → Option ℕ
hex_answer None = None
hex_answer (Some bs) = Some (length bs)

-- the bytes that it writes
abbrev pub hex_bytes : Option (List ℕ) → List ℕ
hex_bytes None = []
hex_bytes (Some bs) = bs
