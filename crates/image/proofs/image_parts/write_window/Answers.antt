-- `image::image_parts::write_window` meets its contract: three stores are three bytes written.
-- Assumes nothing.
use native.Mathlib.Omega.{arith}
use Rattle.image.specs.ImageParts.{flag_byte}
use Rattle.image.proofs.Writes.{three_stored}
use Rattle.image.proofs.image_parts.write_window.Goals as goal

pub returns : goal.returns
returns c = let a = c.args in
    rw c.flag_code.ensures (three_stored a.w.size a.w.position (flag_byte a.w.pending) a.image.now a.at (omega arith))
