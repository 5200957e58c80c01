-- `report::answer_line::put_rule` meets its contract. Where the part does not apply nothing is printed; else its texts are printed one behind another.
-- Assumes nothing.
use borrow.Author.Tests.{eq-eqb, ne_eqb}
use Rattle.report.specs.AnswerLine.{rule_text}
use Rattle.report.proofs.Printing.{put_prints, prints_none, ◌then◌}
use Rattle.report.proofs.answer_line.put_rule.Goals as goal

pub returns-then-refusal-ne-BAD_HEADER : goal.returns-then-refusal-ne-BAD_HEADER
unfolding rule_text
returns-then-refusal-ne-BAD_HEADER c = rw (ne_eqb _ _ c.if-refusal-ne-BAD_HEADER.true) prints_none

pub returns : goal.returns
unfolding rule_text
returns c =
    rw (eq-eqb _ _ c.if-refusal-ne-BAD_HEADER.false)
    (put_prints c.put-behind_letter.ensures
    then put_prints c.decimal.ensures)
