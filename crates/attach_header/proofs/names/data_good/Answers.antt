-- `attach_header::names::data_good` meets its contract.
-- Assumes nothing.
use Rattle.attach_header.specs.Characters.{data_good}
use Rattle.attach_header.proofs.names.data_good.Goals as goal

pub returns : goal.returns
unfolding data_good
returns c = rw c.all_belong.ensures
