-- `report::other_lines::end_line` meets its contract. Its texts are printed one behind another.
-- Assumes nothing.
use Rattle.report.specs.OtherLines.{end_text}
use Rattle.report.proofs.Printing.{put_prints, ◌then◌, prints_line}
use Rattle.report.proofs.other_lines.end_line.Goals as goal

pub returns : goal.returns
unfolding end_text
returns c =
    prints_line
    (c.put_state-behind_state.ensures
    then c.put_counts-behind_counts.ensures
    then put_prints c.put.ensures)
