-- `report::answer_line::put_mark` meets its contract. Where the part does not apply nothing is printed; else its texts are printed one behind another.
-- Assumes nothing.
use mathlib.Core.Path.{sym, ◌∙◌}
use Rattle.report.specs.AnswerLine.{mark_text}
use Rattle.report.proofs.Printing.{put_prints, prints_none, ◌then◌}
use Rattle.report.proofs.answer_line.put_mark.Goals as goal

pub returns-then-is_nothing : goal.returns-then-is_nothing
unfolding mark_text
returns-then-is_nothing c = rw (sym c.is_nothing.ensures ∙ c.if-is_nothing.true) prints_none

pub returns : goal.returns
unfolding mark_text
returns c =
    rw (sym c.is_nothing.ensures ∙ c.if-is_nothing.false)
    (put_prints c.put-behind_label.ensures
    then put_prints (rw c.mark_word.ensures at c.put.ensures))
