-- `lu62::opening::lu62_open` meets its contract. What is handed out is the opening's, which makes no unit.
-- Assumes nothing.
use Rattle.lu62.proofs.LengthsFit.{opened_small}
use Rattle.lu62.proofs.opening.lu62_open.Goals as goal

pub hand_opened-requires : goal.hand_opened-requires
hand_opened-requires c = rw c.open_session.ensures (opened_small _ _ _ _)

pub returns : goal.returns
returns c = rw (c.hand_opened.ensures, c.open_session.ensures)
