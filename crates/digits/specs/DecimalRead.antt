-- A number in a line: decimal digits without leading zeros, 0 to 65,535.
-- Assumes nothing.
use Rattle.std.specs.Prelude.{ℕ, ◌+◌, ◌-◌, ◌*◌, Bool, cond, ◌&&◌, List, [], ◌∷◌, eqb, leb, Option, Some, None}

-- 0 to 9
abbrev pub is_decimal : ℕ → Bool
is_decimal b = leb 0x30 b && leb b 0x39

-- one more digit behind those of value
abbrev pub with_digit : ℕ → ℕ → ℕ
with_digit value b = 10 * value + (b - 0x30)

-- the digits behind those of value; no number grows past 65,535
unfoldable pub read_on : ℕ → List ℕ → Option ℕ
read_on value [] = Some value
read_on value (b ∷ bs) = cond (is_decimal b && leb (with_digit value b) 65535) (read_on (with_digit value b) bs) None

-- one digit may be 0, the first of several may not
unfoldable pub number_of : List ℕ → Option ℕ
number_of [] = None
number_of (b ∷ []) = read_on 0 (b ∷ [])
number_of (b ∷ c ∷ rest) = cond (eqb b 0x30) None (read_on 0 (b ∷ c ∷ rest))
