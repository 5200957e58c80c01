-- `attach_header::work::sequence_of` meets its contract.
-- Assumes nothing.
use lib.ListN.{replicate}
use Rattle.cells.proofs.Copies.{copy_rest}
use Rattle.attach_header.proofs.work.sequence_of.Goals as goal

pub returns : goal.returns
returns c = copy_rest 6 c.args.numbers.now (replicate 2 0) c.copy.new.to c.copy.ensures.cells
