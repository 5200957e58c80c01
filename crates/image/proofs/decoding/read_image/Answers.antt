-- `image::decoding::read_image` meets its contract: the length is asked first, then the values.
-- Assumes nothing.
use Rattle.image.proofs.WhatIsRefused.{bad_length, good_length}
use Rattle.image.proofs.decoding.read_image.Goals as goal

pub returns-in_default : goal.returns-in_default
returns-in_default c = bad_length c.args.image.now c.in_default.ensures.cases

pub returns : goal.returns
returns c =
    let h = c.in-Some.ensures.cases in
    rw (c.ok_or.ensures.value, c.good_record.ensures, h.same) (good_length c.args.image.now h.long)
