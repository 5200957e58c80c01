-- `image::image_parts::write_place` meets its contract: the kind, and the number right behind it.
-- Assumes nothing.
use native.Mathlib.Omega.{arith}
use Rattle.image.specs.ImageParts.{place_kind, place_value, number_bytes}
use Rattle.image.proofs.Writes.{one_stored}
use Rattle.image.proofs.image_parts.write_place.Goals as goal

pub returns : goal.returns
returns c = let a = c.args in
    rw (c.write_number.ensures, c.place_value.ensures, c.place_kind.ensures)
    (one_stored (place_kind a.p) (number_bytes (place_value a.p)) a.image.now a.at (omega arith))
