-- `answers::refuse_naming` meets its contract. The sense is what `sense_of` finds, and the rule is what `rule_for` names.
-- Assumes nothing.
use Rattle.answers.proofs.refuse_naming.Goals as goal

pub returns : goal.returns
returns c = rw (c.rule_for.ensures, c.sense_of.ensures)
