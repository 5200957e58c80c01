-- `report::other_lines::put_count` meets its contract. Its texts are printed one behind another.
-- Assumes nothing.
use Rattle.report.specs.OtherLines.{count_text}
use Rattle.report.proofs.Printing.{put_prints, ◌then◌}
use Rattle.report.proofs.other_lines.put_count.Goals as goal

pub returns : goal.returns
unfolding count_text
returns c =
    put_prints c.put-behind_label.ensures
    then put_prints c.decimal.ensures
