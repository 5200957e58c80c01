-- What a size is answered, by the range and by the byte that is found.
-- Assumes nothing.
use mathlib.Core.Path.{◌≡◌}
use mathlib.Core.Bool.{true, false}
use Prim.Native.Nat.{ℕ}
use lib.Dec.{eqb}
use Rattle.unit.specs.Maximum.{max_good}
use Rattle.answers.specs.Answers.{BAD_MAXIMUM, NO_SIZE_BYTE}
use Rattle.bind.specs.SessionBytes.{byte_of, no_byte, one_byte, size_byte}

pub out_of_range : (size : ℕ) → max_good size ≡ false → size_byte size ≡ no_byte BAD_MAXIMUM
unfolding size_byte
out_of_range size g = rw g

pub byteless : (size : ℕ) → max_good size ≡ true → eqb (byte_of size) 0 ≡ true → size_byte size ≡ no_byte NO_SIZE_BYTE
unfolding size_byte
byteless size g z = rw (g, z)

pub given : (size : ℕ) → max_good size ≡ true → eqb (byte_of size) 0 ≡ false → size_byte size ≡ one_byte (byte_of size)
unfolding size_byte
given size g z = rw (g, z)
