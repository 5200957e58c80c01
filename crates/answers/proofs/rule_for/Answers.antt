-- `answers::rule_for` meets its contract. At 21 the rule stands, at any other number 0.
-- Assumes nothing.
use borrow.Author.Tests.{eq-eqb, ne_eqb}
use Rattle.answers.proofs.rule_for.Goals as goal

pub returns-then-number-eq-BAD_HEADER : goal.returns-then-number-eq-BAD_HEADER
returns-then-number-eq-BAD_HEADER c = rw (eq-eqb _ _ c.if-number-eq-BAD_HEADER.true)

pub returns-else-number-eq-BAD_HEADER : goal.returns-else-number-eq-BAD_HEADER
returns-else-number-eq-BAD_HEADER c = rw (ne_eqb _ _ c.if-number-eq-BAD_HEADER.false)
