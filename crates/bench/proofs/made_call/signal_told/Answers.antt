-- `bench::made_call::signal_told` meets its contract. It is the rule, of `plain_answer`.
-- Assumes nothing.
use Rattle.bench.proofs.made_call.signal_told.Goals as goal

pub returns : goal.returns
returns c = rw c.plain_answer.ensures
