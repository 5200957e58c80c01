-- `image::encoding::write_sending` meets its contract: its parts stand one right behind the other.
-- Assumes nothing.
use mathlib.Core.List.{[], ◌∷◌}
use native.Mathlib.Omega.{arith}
use Rattle.image.specs.ImageParts.{number_bytes, window_bytes, place_bytes}
use Rattle.image.proofs.Writes.{runs}
use Rattle.image.proofs.encoding.write_sending.Goals as goal

pub returns : goal.returns
returns c = let a = c.args in
    cc (runs
    (window_bytes a.s.window ∷ number_bytes a.s.max ∷ number_bytes a.s.held ∷ number_bytes a.s.number ∷ place_bytes a.s.given ∷ [])
    9 a.image.now (omega arith))
