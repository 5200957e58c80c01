-- `report::answer_line::put_bytes` meets its contract. Where the part does not apply nothing is printed; else its texts are printed one behind another.
-- Assumes nothing.
use mathlib.Core.Path.{sym, ◌∙◌}
use Rattle.report.specs.AnswerLine.{bytes_text}
use Rattle.report.proofs.Printing.{put_prints, prints_none, ◌then◌}
use Rattle.report.proofs.answer_line.put_bytes.Goals as goal

pub returns-then-is_empty : goal.returns-then-is_empty
unfolding bytes_text
returns-then-is_empty c = rw (sym c.is_empty.ensures ∙ c.if-is_empty.true) prints_none

pub returns : goal.returns
unfolding bytes_text
returns c =
    rw (sym c.is_empty.ensures ∙ c.if-is_empty.false)
    (put_prints c.put-behind_label.ensures
    then put_prints c.hex_bytes.ensures)
