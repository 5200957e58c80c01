-- `session::theorems::opened_by_bytes` meets its contract: the three claims of specs/BindClaims.antt.
-- Assumes nothing.
use Rattle.session.proofs.BindClaims.{as_asked, same_end, bytes_of_numbers}
use Rattle.session.proofs.theorems.opened_by_bytes.Goals as goal

pub returns : goal.returns
returns c = record {
  as_asked = as_asked;
  same_end = same_end;
  bytes_of_numbers = bytes_of_numbers;
}
