-- `answers::first_no::then_ask` meets its contract. A number given before stands; after none, this question decides.
-- Assumes nothing.
use borrow.Author.Tests.{eq-eqb, ne_eqb}
use Rattle.answers.specs.FirstNo.{then_ask}
use Rattle.answers.proofs.first_no.then_ask.Goals as goal

pub returns-then-before-ne0 : goal.returns-then-before-ne0
unfolding then_ask
returns-then-before-ne0 c = rw (ne_eqb _ _ c.if-before-ne0.true)

pub returns-then-ok : goal.returns-then-ok
unfolding then_ask
returns-then-ok c = rw (eq-eqb _ _ c.if-before-ne0.false, c.if-ok.true)

pub returns-else-ok : goal.returns-else-ok
unfolding then_ask
returns-else-ok c = rw (eq-eqb _ _ c.if-before-ne0.false, c.if-ok.false)
