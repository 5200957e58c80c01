-- `image::encoding::write_receiving` meets its contract: its parts stand one right behind the other.
-- Assumes nothing.
use mathlib.Core.List.{[], ◌∷◌}
use native.Mathlib.Omega.{arith}
use Rattle.image.specs.ImageParts.{number_bytes, window_bytes, place_bytes}
use Rattle.image.proofs.Writes.{runs}
use Rattle.image.proofs.encoding.write_receiving.Goals as goal

pub returns : goal.returns
returns c = let a = c.args in
    cc (runs
    (window_bytes a.r.window ∷ number_bytes a.r.max ∷ number_bytes a.r.inbox ∷ number_bytes a.r.held ∷ number_bytes a.r.number
    ∷ place_bytes a.r.taken ∷ place_bytes a.r.read ∷ [])
    21 a.image.now (omega arith))
