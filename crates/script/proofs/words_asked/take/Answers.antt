-- `script::words_asked::take` meets its contract. Each return is one row of the rule.
-- Assumes nothing.
use mathlib.Core.Path.{sym, ◌∙◌}
use mathlib.Core.Bool.{true, false}
use Rattle.cells.proofs.Fronts.{front_none}
use Rattle.script.proofs.Prefixes.{begins_by}
use Rattle.script.specs.WordsAsked.{take_of, expedited_unit}
use Rattle.script.proofs.words_asked.take.Goals as goal

pub returns-then-same : goal.returns-then-same
unfolding take_of
returns-then-same c = rw (c.plain.ensures, sym c.same.ensures ∙ c.if-same.true, front_none)

pub returns-in-Some : goal.returns-in-Some
unfolding take_of
returns-in-Some c =
    let e = c.in-Some.ensures.cases in
    rw (sym c.same.ensures ∙ c.if-same.false, begins_by c.args.text.now expedited_unit true e.0) (rw e.1 at c.offer.ensures)

pub returns : goal.returns
unfolding take_of
returns c =
    rw (sym c.same.ensures ∙ c.if-same.false, begins_by c.args.text.now expedited_unit false c.in_default.ensures.cases) c.offer-2.ensures
