-- `report::answer_line::put_told` meets its contract. Its texts are printed one behind another.
-- Assumes nothing.
use Rattle.report.specs.AnswerLine.{told_text}
use Rattle.report.proofs.Printing.{◌then◌}
use Rattle.report.proofs.answer_line.put_told.Goals as goal

pub returns : goal.returns
unfolding told_text
returns c =
    c.put_bytes-behind_copied.ensures
    then c.put_flag-behind_complete.ensures
    then c.put_flag-behind_more.ensures
    then c.put_flag-behind_signalled.ensures
    then c.put_mark.ensures
