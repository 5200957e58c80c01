-- Numbers at their bounds, each computed.
-- Assumes nothing.
use Rattle.std.specs.Prelude.{◌≡◌, refl, [], ◌∷◌, Some, None}
use Rattle.digits.specs.DecimalRead.{read_on, number_of}

-- 0
zero_alone : number_of (0x30 ∷ []) ≡ Some 0
unfolding number_of read_on
zero_alone = refl

-- 65535
greatest : number_of (0x36 ∷ 0x35 ∷ 0x35 ∷ 0x33 ∷ 0x35 ∷ []) ≡ Some 65535
unfolding number_of read_on
greatest = refl

-- 65536
past_greatest : number_of (0x36 ∷ 0x35 ∷ 0x35 ∷ 0x33 ∷ 0x36 ∷ []) ≡ None
unfolding number_of read_on
past_greatest = refl

-- 07
leading_zero : number_of (0x30 ∷ 0x37 ∷ []) ≡ None
unfolding number_of read_on
leading_zero = refl

-- 00
two_zeros : number_of (0x30 ∷ 0x30 ∷ []) ≡ None
unfolding number_of read_on
two_zeros = refl

-- no digit
no_digit : number_of [] ≡ None
unfolding number_of read_on
no_digit = refl

-- 1A
letter : number_of (0x31 ∷ 0x41 ∷ []) ≡ None
unfolding number_of read_on
letter = refl
