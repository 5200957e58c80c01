-- `attach_header::characters::is_letter` meets its contract.
-- Assumes nothing.
use Rattle.attach_header.proofs.characters.is_letter.Goals as goal

pub returns : goal.returns
returns c = rw (c.within.ensures, c.within-2.ensures, c.within-3.ensures)
