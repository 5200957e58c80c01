-- `report::other_lines::line_full` meets its contract. Its texts are printed one behind another.
-- Assumes nothing.
use Rattle.report.specs.OtherLines.{full_text}
use Rattle.report.proofs.Printing.{put_prints, ◌then◌, prints_line}
use Rattle.report.proofs.other_lines.line_full.Goals as goal

pub returns : goal.returns
unfolding full_text
returns c =
    prints_line
    (c.put_call-behind_call.ensures
    then put_prints c.put.ensures)
