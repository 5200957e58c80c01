-- `image::image_parts::write_number` meets its contract: two stores are two bytes written.
-- Assumes nothing.
use mathlib.Core.Path.{◌≡◌}
use Prim.Native.Nat.{◌/◌, ◌%◌}
use native.Mathlib.Omega.{arith}
use Rattle.image.proofs.Writes.{two_stored}
use Rattle.image.proofs.image_parts.write_number.Goals as goal

pub returns : goal.returns
returns c = let a = c.args in
    let high : a.n / 256 % 256 ≡ a.n / 256 = omega arith in
    rw (c.to_le_bytes.ensures, high) (two_stored (a.n % 256) (a.n / 256) a.image.now a.at (omega arith))
