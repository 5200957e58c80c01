-- `report::answer_line::put_refusal` meets its contract. Its texts are printed one behind another.
-- Assumes nothing.
use Rattle.report.specs.AnswerLine.{refusal_text}
use Rattle.report.proofs.Printing.{put_prints, ◌then◌}
use Rattle.report.proofs.answer_line.put_refusal.Goals as goal

pub returns : goal.returns
unfolding refusal_text
returns c =
    put_prints c.put-behind_blank.ensures
    then put_prints c.decimal-behind_number.ensures
    then c.put_sense-behind_sense.ensures
    then c.put_rule.ensures
