-- `lu62::handing::hand_opened` meets its contract: the image's length is asked first.
-- Assumes nothing.
use borrow.Author.Tests.{eq-eqb, ne_eqb}
use Rattle.lu62.specs.Exported.{opening_out}
use Rattle.lu62.proofs.handing.hand_opened.Goals as goal

pub returns-then-image-ne-IMAGE : goal.returns-then-image-ne-IMAGE
unfolding opening_out
returns-then-image-ne-IMAGE c = rw (ne_eqb _ _ c.if-image-ne-IMAGE.true, c.refuse_image.ensures.0, c.refuse_image.ensures.1)

pub hand_out-requires : goal.hand_out-requires
hand_out-requires c = record { fits = c.requires; whole = c.if-image-ne-IMAGE.false }

pub returns : goal.returns
unfolding opening_out
returns c = rw (eq-eqb _ _ c.if-image-ne-IMAGE.false, c.hand_out.ensures)
