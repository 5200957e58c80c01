-- `theorems::manual_order` meets its contract: the two claims of specs/ManualOrder.antt.
-- Assumes nothing.
use Rattle.header.proofs.SameAnswers.{same_answers}
use Rattle.header.proofs.LaterBits.{later_bits}
use Rattle.header.proofs.theorems.manual_order.Goals as goal

pub returns : goal.returns
returns c = record {
  same_answers = same_answers;
  later_bits = later_bits;
}
