-- `report::answer_line::put_sense` meets its contract. Where the part does not apply nothing is printed; else its texts are printed one behind another.
-- Assumes nothing.
use borrow.Author.Tests.{le-leb, lt-leb}
use Rattle.report.specs.AnswerLine.{sense_text}
use Rattle.report.proofs.Printing.{put_prints, prints_none, ◌then◌}
use Rattle.report.proofs.answer_line.put_sense.Goals as goal

pub returns-then-refusal-lt-SHORT_UNIT : goal.returns-then-refusal-lt-SHORT_UNIT
unfolding sense_text
returns-then-refusal-lt-SHORT_UNIT c = rw (lt-leb _ _ c.if-refusal-lt-SHORT_UNIT.true) prints_none

pub returns : goal.returns
unfolding sense_text
returns c =
    rw (le-leb _ _ c.if-refusal-lt-SHORT_UNIT.false)
    (put_prints c.put-behind_blank.ensures
    then put_prints c.hex_word.ensures)
