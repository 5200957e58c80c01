-- `theorems::headers` meets its contract: the five claims of specs/HeaderClaims.antt.
-- Assumes nothing.
use Rattle.header.proofs.RoundTrip.{built_is_read, read_is_built}
use Rattle.header.proofs.OnlyH1.{only_h1}
use Rattle.header.proofs.LowestNamed.{lowest_named}
use Rattle.header.proofs.FiftyOne.{fifty_one}
use Rattle.header.proofs.theorems.headers.Goals as goal

pub returns : goal.returns
returns c = record {
  built_is_read = built_is_read;
  read_is_built = read_is_built;
  only_h1 = only_h1;
  lowest_named = lowest_named;
  fifty_one = fifty_one;
}
