-- `report::other_lines::bad_line` meets its contract. Its texts are printed one behind another.
-- Assumes nothing.
use Rattle.report.specs.OtherLines.{bad_line_text}
use Rattle.report.proofs.Printing.{put_prints, ◌then◌, prints_line}
use Rattle.report.proofs.other_lines.bad_line.Goals as goal

pub returns : goal.returns
unfolding bad_line_text
returns c =
    prints_line
    (put_prints c.put-behind_words.ensures
    then put_prints c.decimal-behind_number.ensures
    then put_prints c.put.ensures)
