-- `report::other_lines::open_line` meets its contract. Its texts are printed one behind another.
-- Assumes nothing.
use Rattle.report.specs.OtherLines.{open_text}
use Rattle.report.proofs.Printing.{put_prints, ◌then◌, prints_line}
use Rattle.report.proofs.other_lines.open_line.Goals as goal

pub returns : goal.returns
unfolding open_text
returns c =
    prints_line
    (put_prints (rw c.end_digit.ensures at c.put-behind_end.ensures)
    then put_prints c.put-behind_word.ensures
    then put_prints c.decimal-behind_number.ensures
    then put_prints c.put.ensures)
