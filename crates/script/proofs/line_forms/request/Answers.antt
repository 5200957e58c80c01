-- `script::line_forms::request` meets its contract. Each return is one row of the rule.
-- Assumes nothing.
use mathlib.Core.Bool.{true, false}
use Rattle.cells.proofs.Fronts.{front_none}
use Rattle.script.proofs.Prefixes.{begins_by}
use Rattle.script.specs.CallLine.{send_word, take_word, read_word, request_of}
use Rattle.script.proofs.line_forms.request.Goals as goal

pub returns-in-Some : goal.returns-in-Some
unfolding request_of
returns-in-Some c =
    let e = c.in-Some.ensures.cases in
    rw (begins_by c.args.words.now send_word true e.0) (rw e.1 at c.given.ensures)

pub returns-in-Some-strip_prefix : goal.returns-in-Some-strip_prefix
unfolding request_of
returns-in-Some-strip_prefix c =
    let e = c.in-Some-strip_prefix.ensures.cases in
    rw (begins_by c.args.words.now send_word false c.in_default.ensures.cases, begins_by c.args.words.now take_word true e.0) (rw e.1 at c.take.ensures)

pub returns-in-Some-strip_prefix-2 : goal.returns-in-Some-strip_prefix-2
unfolding request_of
returns-in-Some-strip_prefix-2 c =
    let e = c.in-Some-strip_prefix-2.ensures.cases in
    rw (
      begins_by c.args.words.now send_word false c.in_default.ensures.cases,
      begins_by c.args.words.now take_word false c.in_default-strip_prefix.ensures.cases,
      begins_by c.args.words.now read_word true e.0,
      c.read.ensures,
      e.1,
      front_none,
    )

pub returns : goal.returns
unfolding request_of
returns c =
    rw (
      begins_by c.args.words.now send_word false c.in_default.ensures.cases,
      begins_by c.args.words.now take_word false c.in_default-strip_prefix.ensures.cases,
      begins_by c.args.words.now read_word false c.in_default-strip_prefix-2.ensures.cases,
      c.words_alone.ensures,
      front_none,
    )
