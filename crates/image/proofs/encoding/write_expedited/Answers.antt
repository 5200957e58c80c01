-- `image::encoding::write_expedited` meets its contract: its parts stand one right behind the other.
-- Assumes nothing.
use mathlib.Core.List.{[], ◌∷◌}
use native.Mathlib.Omega.{arith}
use Rattle.image.specs.ImageParts.{flag_byte, number_bytes}
use Rattle.image.proofs.Writes.{runs}
use Rattle.image.proofs.encoding.write_expedited.Goals as goal

pub returns : goal.returns
returns c = let a = c.args in
    cc (runs ((flag_byte a.x.unanswered ∷ []) ∷ number_bytes a.x.sent ∷ number_bytes a.x.taken ∷ []) 43 a.image.now (omega arith))
