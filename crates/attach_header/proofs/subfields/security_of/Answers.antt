-- `attach_header::subfields::security_of` meets its contract.
-- Assumes nothing.
use Rattle.attach_header.specs.Places.{security_of}
use Rattle.attach_header.proofs.Security.{each_good}
use Rattle.attach_header.proofs.subfields.security_of.Goals as goal

pub data_of-requires : goal.data_of-requires
data_of-requires c = each_good c.args.s.now c.requires

pub data_of-requires-2 : goal.data_of-requires-2
data_of-requires-2 c = each_good c.args.s.now c.requires

pub data_of-requires-3 : goal.data_of-requires-3
data_of-requires-3 c = each_good c.args.s.now c.requires

pub returns : goal.returns
unfolding security_of
returns c = rw (c.data_of.ensures, c.data_of-2.ensures, c.data_of-3.ensures)
