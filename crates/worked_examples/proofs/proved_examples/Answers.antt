-- `worked_examples::proved_examples` meets its contract, by computation.
-- Assumes nothing.
use Rattle.worked_examples.proofs.Table.{proved}
use Rattle.worked_examples.proofs.proved_examples.Goals as goal

pub returns : goal.returns
returns c = proved
