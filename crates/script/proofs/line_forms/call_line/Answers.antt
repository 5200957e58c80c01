-- `script::line_forms::call_line` meets its contract. Each return is one row of the rule.
-- Assumes nothing.
use mathlib.Core.Bool.{true, false}
use lib.ListN.{length}
use Rattle.cells.proofs.Fronts.{front_none}
use Rattle.script.proofs.Prefixes.{begins_by}
use Rattle.script.proofs.CallLineRows.{first_end_lem, second_end_lem, no_end, handed}
use Rattle.script.specs.CallLine.{first_end, second_end}
use Rattle.script.proofs.line_forms.call_line.Goals as goal

pub returns-in-Some : goal.returns-in-Some
returns-in-Some c =
    let a = c.args in
    let e = c.in-Some.ensures.cases in
    handed a.line.now a.bytes.now _ _ _
    (first_end_lem a.line.now (length a.bytes.now) (begins_by a.line.now first_end true e.0))
    (rw e.1 at c.request.ensures)

pub returns-in-Some-strip_prefix : goal.returns-in-Some-strip_prefix
returns-in-Some-strip_prefix c =
    let a = c.args in
    let e = c.in-Some-strip_prefix.ensures.cases in
    let no = begins_by a.line.now first_end false c.in_default.ensures.cases in
    handed a.line.now a.bytes.now _ _ _
    (second_end_lem a.line.now (length a.bytes.now) no (begins_by a.line.now second_end true e.0))
    (rw e.1 at c.request-in-Some-strip_prefix.ensures)

pub returns : goal.returns
returns c =
    let a = c.args in
    let no = begins_by a.line.now first_end false c.in_default.ensures.cases in
    handed a.line.now a.bytes.now _ _ _
    (no_end a.line.now (length a.bytes.now) no (begins_by a.line.now second_end false c.in_default-strip_prefix.ensures.cases))
    (rw front_none)
