-- `cells::same` meets its contract. `==` compares pair by pair, as `same_bytes` does.
-- Assumes nothing.
use Rattle.std.proofs.Common.{◌∙◌}
use Rattle.cells.proofs.Equal.{pair_by_pair}
use Rattle.cells.proofs.same.Goals as goal

pub returns : goal.returns
returns c = c.eq.ensures ∙ pair_by_pair c.args.a.now c.args.b.now
