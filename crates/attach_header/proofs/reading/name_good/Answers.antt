-- `attach_header::reading::name_good` meets its contract.
-- Assumes nothing.
use Rattle.attach_header.specs.Read.{name_good}
use Rattle.attach_header.proofs.reading.name_good.Goals as goal

pub returns : goal.returns
unfolding name_good
returns c = rw (c.program_good.ensures, c.unpadded.ensures)
