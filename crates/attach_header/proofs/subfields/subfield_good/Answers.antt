-- `attach_header::subfields::subfield_good` meets its contract.
-- Assumes nothing.
use lib.ListN.{length}
use borrow.Author.Tests.{le-leb, lt-leb}
use Rattle.cells.proofs.PartLent.{part_is}
use Rattle.attach_header.specs.Read.{subfield_good}
use Rattle.attach_header.proofs.subfields.subfield_good.Goals as goal

pub returns-in_default : goal.returns-in_default
unfolding subfield_good
returns-in_default c = rw (lt-leb 1 (length c.args.s.now) c.in_default.len_below)

pub returns : goal.returns
unfolding subfield_good
returns c =
    let s = c.args.s.now in
    rw (c.data_good.ensures, c.unpadded.ensures, part_is 1 s, le-leb 1 (length s) c.in-len1-up.len_at_least)
