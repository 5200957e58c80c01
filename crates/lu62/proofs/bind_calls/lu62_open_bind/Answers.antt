-- `lu62::bind_calls::lu62_open_bind` meets its contract. What is handed out is the opening's, which makes no unit.
-- Assumes nothing.
use Rattle.session.specs.BindOpening.{opened_by_bytes}
use Rattle.lu62.proofs.LengthsFit.{opened_small}
use Rattle.lu62.proofs.bind_calls.lu62_open_bind.Goals as goal

pub hand_opened-requires : goal.hand_opened-requires
unfolding opened_by_bytes
hand_opened-requires c = rw c.open_bind_session.ensures (opened_small _ _ _ _)

pub returns : goal.returns
returns c = rw (c.hand_opened.ensures, c.open_bind_session.ensures)
