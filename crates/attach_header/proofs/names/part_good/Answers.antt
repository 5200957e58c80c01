-- `attach_header::names::part_good` meets its contract.
-- Assumes nothing.
use lib.ListN.{length}
use borrow.Author.Tests.{le-leb, lt-leb}
use Rattle.attach_header.specs.Characters.{part_good}
use Rattle.attach_header.proofs.names.part_good.Goals as goal

pub returns-in_default : goal.returns-in_default
unfolding part_good
returns-in_default c = rw (lt-leb 1 (length c.args.s.now) c.in_default.len_below)

pub returns : goal.returns
unfolding part_good
returns c = rw (c.is_letter.ensures, c.all_belong.ensures, le-leb 1 (length c.args.s.now) c.in-len1-up.len_at_least)
