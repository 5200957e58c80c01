-- `theorems::expedited_headers` meets its contract: the claims of specs/ExpeditedClaims.antt.
-- Assumes nothing.
use Rattle.header.proofs.ExpeditedHeaders.{expedited_built_is_read, expedited_read_is_built, expedited_rule_broken, expedited_two}
use Rattle.header.proofs.ExpeditedHeaders.{expedited_same_answers, by_the_line}
use Rattle.header.proofs.theorems.expedited_headers.Goals as goal

pub returns : goal.returns
returns c =
    record {
      built_is_read = expedited_built_is_read;
      read_is_built = expedited_read_is_built;
      rule_broken = expedited_rule_broken;
      two = expedited_two;
      same_answers = expedited_same_answers;
      by_the_line = by_the_line;
    }
