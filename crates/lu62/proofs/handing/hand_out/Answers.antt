-- `lu62::handing::hand_out` meets its contract: the image is written, and the answer.
-- Assumes nothing.
use borrow.Author.Tests.{eq-eqb}
use Rattle.image.specs.Image.{image_written}
use Rattle.lu62.proofs.handing.hand_out.Goals as goal

pub returns : goal.returns
unfolding image_written
returns g c = rw (c.numbers.ensures, c.write_image.ensures, eq-eqb _ _ c.requires.whole)
