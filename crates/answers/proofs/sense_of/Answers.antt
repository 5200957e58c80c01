-- `answers::sense_of` meets its contract. Within the table it is the entry; past its end both sides are 0.
-- Assumes nothing.
use mathlib.Core.Path.{sym}
use native.Mathlib.Omega.{arith}
use lib.ListN.{get_or-eq_default}
use Rattle.answers.specs.Answers.{senses}
use Rattle.answers.proofs.sense_of.Goals as goal

pub returns-else-i-lt39 : goal.returns-else-i-lt39
returns-else-i-lt39 c = sym (get_or-eq_default senses 0 {n = c.args.number} (omega arith))
