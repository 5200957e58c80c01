-- `worked_examples::further_examples` meets its contract, by computation.
-- Assumes nothing.
use Rattle.worked_examples.proofs.Further.{further}
use Rattle.worked_examples.proofs.further_examples.Goals as goal

pub returns : goal.returns
returns c = further
