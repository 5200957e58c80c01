-- `image::encoding::write_image` meets its contract: the parts, one right behind the other, fill the image.
-- Assumes nothing.
use mathlib.Core.List.{[], ◌∷◌}
use native.Mathlib.Omega.{arith}
use mathlib.Core.Path.{◌≡◌, ◌∙◌, sym}
use borrow.Author.Tests.{eq-eqb, ne_eqb}
use Rattle.image.specs.ImageParts.{flag_byte, number_bytes}
use lib.ListN.{length}
use Rattle.image.specs.Image.{IMAGE, FORMAT, control_bytes, sending_bytes, receiving_bytes, expedited_bytes, image_of, image_written}
use Rattle.image.proofs.Writes.{runs, written_all}
use Rattle.image.proofs.encoding.write_image.Goals as goal

pub returns-in_default : goal.returns-in_default
unfolding image_written
returns-in_default c = rw (ne_eqb _ _ c.in_default.ensures.cases)

pub returns : goal.returns
unfolding image_written image_of
returns c = let a = c.args in
    let h = c.in-Some.ensures.cases in
    let k : length c.in-Some.image.now ≡ IMAGE = cc (h.same, h.long) in
    rw (
      eq-eqb _ _ h.long,
      c.write_expedited.ensures,
      c.write_flag.ensures,
      c.write_number-2.ensures,
      c.write_number.ensures,
      c.write_receiving.ensures,
      c.write_sending.ensures,
      c.write_control.ensures,
    )
    (runs
    ((FORMAT ∷ control_bytes a.end.control) ∷ sending_bytes a.end.sending ∷ receiving_bytes a.end.receiving ∷ number_bytes a.end.bidding
    ∷ number_bytes a.end.owed ∷ (flag_byte a.end.control.error ∷ []) ∷ expedited_bytes a.end.expedited ∷ [])
    0 c.in-Some.image.now (omega arith)
    ∙ written_all (image_of a.end) c.in-Some.image.now (sym k))
