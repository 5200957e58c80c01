-- The bounds of the maximum RU.
-- Assumes nothing.
use Rattle.std.specs.Prelude.{ℕ, Bool, ◌&&◌, nat_le}

-- the maximum RU M, 8 to 1,024
abbrev pub least_max : ℕ
least_max = 8

abbrev pub greatest_max : ℕ
greatest_max = 1024

abbrev pub max_good : ℕ → Bool
max_good m = nat_le least_max m && nat_le m greatest_max
