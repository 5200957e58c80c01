-- The sequence number of a request.
-- Assumes nothing.
use Rattle.std.specs.Prelude.{ℕ, ◌+◌, ◌%◌, ◌^◌}

-- the number after 65,535 is 0
abbrev pub next_number : ℕ → ℕ
next_number n = (n + 1) % 2 ^ 16
