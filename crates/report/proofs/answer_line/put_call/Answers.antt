-- `report::answer_line::put_call` meets its contract. Its texts are printed one behind another.
-- Assumes nothing.
use Rattle.report.specs.AnswerLine.{call_text}
use Rattle.report.proofs.Printing.{put_prints, ◌then◌}
use Rattle.report.proofs.answer_line.put_call.Goals as goal

pub returns : goal.returns
unfolding call_text
returns c =
    put_prints (rw c.end_digit.ensures at c.put-behind_end.ensures)
    then put_prints c.put-behind_blank.ensures
    then put_prints (rw c.request_word.ensures at c.put.ensures)
