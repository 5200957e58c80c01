-- `image::theorems::written_is_read` meets its contract. A first LL byte is a byte.
-- Assumes nothing.
use Rattle.image.proofs.ImageRoundTrip.{written_is_read}
use borrow.Author.Rules.{rules}
use Rattle.image.proofs.theorems.written_is_read.Goals as goal

pub returns : goal.returns
returns c = let e = c.args.end in
    written_is_read e (rw (← c.first_byte.ensures) (search rules))
    (rw (← c.first_byte-2.ensures) (search rules)) (rw (← c.first_byte-3.ensures) (search rules))
