-- `script::words_asked::offer` meets its contract. It is the rule.
-- Assumes nothing.
use mathlib.Core.Path.{sym, ◌∙◌}
use Rattle.cells.proofs.Fronts.{front_none}
use Rattle.script.specs.WordsAsked.{offer_of}
use Rattle.script.proofs.words_asked.offer.Goals as goal

pub returns-then-same : goal.returns-then-same
unfolding offer_of
returns-then-same c = rw (c.plain.ensures, sym c.same.ensures ∙ c.if-same.true, front_none)

pub returns : goal.returns
unfolding offer_of
returns c =
    let other = c in
    rw (sym other.same.ensures ∙ other.if-same.false) c.given.ensures
