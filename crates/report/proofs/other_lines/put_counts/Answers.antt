-- `report::other_lines::put_counts` meets its contract. Its texts are printed one behind another.
-- Assumes nothing.
use Rattle.report.specs.OtherLines.{counts_text}
use Rattle.report.proofs.Printing.{◌then◌}
use Rattle.report.proofs.other_lines.put_counts.Goals as goal

pub returns : goal.returns
unfolding counts_text
returns c =
    c.put_count-behind_send.ensures
    then c.put_count-behind_inbox.ensures
    then c.put_count-behind_credit.ensures
    then c.put_count-behind_opened.ensures
    then c.put_count-behind_waiting.ensures
    then c.put_count.ensures
