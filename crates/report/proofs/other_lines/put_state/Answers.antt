-- `report::other_lines::put_state` meets its contract. Its texts are printed one behind another.
-- Assumes nothing.
use Rattle.report.specs.OtherLines.{state_text}
use Rattle.report.proofs.Printing.{put_prints, ◌then◌}
use Rattle.report.proofs.other_lines.put_state.Goals as goal

pub returns : goal.returns
unfolding state_text
returns c =
    put_prints (rw c.end_digit.ensures at c.put-behind_end.ensures)
    then put_prints c.put-behind_blank.ensures
    then put_prints (rw c.state_word.ensures at c.put-behind_state.ensures)
    then put_prints c.put-behind_label.ensures
    then put_prints (rw c.mark_word.ensures at c.put.ensures)
