-- `image::image_parts::write_flag` meets its contract: one store is one byte written.
-- Assumes nothing.
use mathlib.Core.List.{[], ◌∷◌}
use native.Mathlib.Omega.{arith}
use Rattle.image.specs.ImageParts.{flag_byte}
use Rattle.image.proofs.Writes.{stored}
use Rattle.image.proofs.image_parts.write_flag.Goals as goal

pub returns : goal.returns
returns c = let a = c.args in rw c.flag_code.ensures (stored (flag_byte a.on ∷ []) a.image.now a.at (omega arith))
