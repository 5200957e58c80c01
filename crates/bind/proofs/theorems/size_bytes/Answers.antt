-- `bind::theorems::size_bytes` meets its contract: the five claims of specs/BindClaims.antt.
-- Assumes nothing.
use Rattle.bind.proofs.BindClaims.{both_ways, byte_given_back, size_given_back, none_means_it, fifty_seven}
use Rattle.bind.proofs.theorems.size_bytes.Goals as goal

pub returns : goal.returns
returns c = record {
  both_ways = both_ways;
  byte_given_back = byte_given_back;
  size_given_back = size_given_back;
  none_means = none_means_it;
  fifty_seven = fifty_seven;
}
