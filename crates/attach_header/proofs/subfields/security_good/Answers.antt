-- `attach_header::subfields::security_good` meets its contract.
-- Assumes nothing.
use Rattle.attach_header.specs.Read.{security_good}
use Rattle.attach_header.proofs.subfields.security_good.Goals as goal

pub returns : goal.returns
unfolding security_good
returns c = rw (c.subfields_good.ensures, c.count.ensures, c.count-2.ensures, c.count-3.ensures)
