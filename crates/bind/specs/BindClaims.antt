-- What is claimed of the bytes of a session, for a reader to find. Proved in proofs/, and promised by the function `theorems::size_bytes`.
-- Assumes nothing.
use Rattle.std.specs.Prelude.{◌≡◌, Bool, true, false, cond, ℕ, ◌+◌, ◌*◌, ◌<◌, eqb}
use Rattle.header.specs.HeaderClaims.{sum_below}
use Rattle.unit.specs.Maximum.{greatest_max}
use Rattle.answers.specs.Answers.{NO_SIZE_BYTE}
use Rattle.bind.specs.SessionBytes.{times, means, maximum_good, size_of, one_byte, size_byte}

-- each mantissa and exponent, by one fact over both. Forward, a mantissa of 8 or more and a product of 8 to 1,024 give the product, and all
-- others none; back, the product gives the byte
pub record Ways (a b : ℕ) : Type 0 where
  pub forward : size_of (a * 16 + b) ≡ cond (maximum_good a b) (times a b) 0
  pub back : maximum_good a b ≡ true → size_byte (times a b) ≡ one_byte (a * 16 + b)

abbrev pub BothWays : Type 0
BothWays = (a b : ℕ) → a < 16 → b < 16 → Ways a b

-- every byte that means a maximum is given back from it
abbrev pub ByteGivenBack : Type 0
ByteGivenBack = (byte : ℕ) → byte < 256 → eqb (size_of byte) 0 ≡ false → size_byte (size_of byte) ≡ one_byte byte

-- and the byte that is given for a size means that size
abbrev pub SizeGivenBack : Type 0
SizeGivenBack = (size byte : ℕ) → size_byte size ≡ one_byte byte → size_of byte ≡ size

-- a size refused with 31 is one that no byte means
abbrev pub NoneMeans : Type 0
NoneMeans = (size : ℕ) → (size_byte size).answer.refusal ≡ NO_SIZE_BYTE → (byte : ℕ) → byte < 256 → means byte size ≡ false

-- exactly 57 sizes have a byte: as many below 1,025, and none from there on
abbrev pub has_byte : ℕ → Bool
has_byte size = eqb (size_byte size).answer.refusal 0

pub record FiftySeven : Type 0 where
  pub count : sum_below (λ size. cond (has_byte size) 1 0) (greatest_max + 1) ≡ 57
  pub within : (size : ℕ) → has_byte size ≡ true → size < greatest_max + 1
