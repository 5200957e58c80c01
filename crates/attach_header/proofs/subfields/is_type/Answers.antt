-- `attach_header::subfields::is_type` meets its contract.
-- Assumes nothing.
use lib.ListN.{length}
use borrow.Author.Tests.{le-leb, lt-leb}
use Rattle.attach_header.specs.Read.{is_type}
use Rattle.attach_header.proofs.subfields.is_type.Goals as goal

pub returns-in_default : goal.returns-in_default
unfolding is_type
returns-in_default c = rw (lt-leb 1 (length c.args.s.now) c.in_default.len_below)

pub returns : goal.returns
unfolding is_type
returns c = rw (le-leb 1 (length c.args.s.now) c.in-len1-up.len_at_least)
