-- `bench::verb_flow` meets its contract. One call alone makes an expedited unit.
-- Assumes nothing.
use Rattle.bench.proofs.Stepping.{other_lane}
use Rattle.bench.proofs.verb_flow.Goals as goal

pub returns-in_default : goal.returns-in_default
returns-in_default c = other_lane c.args.verb c.in_default.not-RequestToSend
