-- `attach_header::characters::belongs_to` meets its contract.
-- Assumes nothing.
use Rattle.attach_header.proofs.characters.belongs_to.Goals as goal

pub returns-then-graphic : goal.returns-then-graphic
returns-then-graphic c = rw (c.if-graphic.true, c.is_graphic.ensures)

pub returns-else-graphic : goal.returns-else-graphic
returns-else-graphic c = rw (c.if-graphic.false, c.is_letter.ensures, c.within.ensures)
