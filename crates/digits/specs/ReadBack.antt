-- What is printed is read back: as decimal digits a number, as hexadecimal digits bytes. Promised by the function
-- `read_back::printed_is_read_back`.
-- Assumes nothing.
use Rattle.std.specs.Prelude.{ℕ, ◌≤◌, ◌≡◌, Bool, true, ◌&&◌, List, [], ◌∷◌, ltb, length, Some}
use Rattle.digits.specs.DecimalRead.{number_of}
use Rattle.digits.specs.HexadecimalRead.{are_pairs, bytes_of, bytes_read}
use Rattle.digits.specs.Printed.{decimal_of, hex_of}

-- every number that a line may hold
abbrev pub NumberReadBack : Type 0
NumberReadBack = (n : ℕ) → n ≤ 65535 → number_of (decimal_of n) ≡ Some n

-- each is a byte
unfoldable pub are_bytes : List ℕ → Bool
are_bytes [] = true
are_bytes (b ∷ bs) = ltb b 256 && are_bytes bs

-- every list of bytes: they are pairs of digits, and those of the bytes; a reader with cells enough takes one byte and more
pub record ReadBackAs (bs : List ℕ) : Type 0 where
  pub pairs : are_pairs (hex_of bs) ≡ true
  pub same : bytes_of (hex_of bs) ≡ bs
  pub given : (most : ℕ) → 1 ≤ length bs → length bs ≤ most → bytes_read (hex_of bs) most ≡ Some bs

abbrev pub BytesReadBack : Type 0
BytesReadBack = (bs : List ℕ) → are_bytes bs ≡ true → ReadBackAs bs
