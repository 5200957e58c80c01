-- `session::bind_opening::open_bind_session` meets its contract. It is the opening with the numbers meant.
-- Assumes nothing.
use Rattle.session.specs.BindOpening.{opened_by_bytes}
use Rattle.session.proofs.bind_opening.open_bind_session.Goals as goal

pub returns : goal.returns
unfolding opened_by_bytes
returns c = rw (c.open_session.ensures, c.numbers.ensures)
