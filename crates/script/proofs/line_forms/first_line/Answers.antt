-- `script::line_forms::first_line` meets its contract. Each return is one row of the rule.
-- Assumes nothing.
use mathlib.Core.Bool.{true, false}
use Rattle.script.proofs.Prefixes.{begins_by}
use Rattle.script.specs.FirstLine.{ends_word, first_line_of}
use Rattle.script.proofs.line_forms.first_line.Goals as goal

pub returns-in_err-strip_prefix : goal.returns-in_err-strip_prefix
unfolding first_line_of
returns-in_err-strip_prefix c = rw (c.from_residual.ensures, begins_by c.args.line.now ends_word false c.in_err-strip_prefix.ensures.cases)

pub returns : goal.returns
unfolding first_line_of
returns c =
    let e = c.in_ok-strip_prefix.ensures.cases in
    rw (c.sizes.ensures, e.1, begins_by c.args.line.now ends_word true e.0)
