-- `report::answer_line::answer_line` meets its contract. Its texts are printed one behind another.
-- Assumes nothing.
use Rattle.report.specs.AnswerLine.{answer_text}
use Rattle.report.proofs.Printing.{put_prints, ◌then◌, prints_line}
use Rattle.report.proofs.answer_line.answer_line.Goals as goal

pub returns : goal.returns
unfolding answer_text
returns c =
    prints_line
    (c.put_call-behind_call.ensures
    then c.put_refusal-behind_refusal.ensures
    then c.put_bytes-behind_unit.ensures
    then c.put_told-behind_told.ensures
    then put_prints c.put.ensures)
