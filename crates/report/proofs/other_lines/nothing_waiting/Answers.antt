-- `report::other_lines::nothing_waiting` meets its contract. Its texts are printed one behind another.
-- Assumes nothing.
use Rattle.report.specs.OtherLines.{nothing_waiting_text}
use Rattle.report.proofs.Printing.{put_prints, ◌then◌, prints_line}
use Rattle.report.proofs.other_lines.nothing_waiting.Goals as goal

pub returns : goal.returns
unfolding nothing_waiting_text
returns c =
    prints_line
    (c.put_call-behind_call.ensures
    then put_prints c.put.ensures)
