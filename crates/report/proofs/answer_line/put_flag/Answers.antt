-- `report::answer_line::put_flag` meets its contract. Where the flag is not set nothing is printed; else its word.
-- Assumes nothing.
use Rattle.report.specs.AnswerLine.{flag_text}
use Rattle.report.proofs.Printing.{put_prints, prints_none}
use Rattle.report.proofs.answer_line.put_flag.Goals as goal

pub returns-then-set : goal.returns-then-set
unfolding flag_text
returns-then-set c = rw c.if-set.true (put_prints c.put.ensures)

pub returns : goal.returns
unfolding flag_text
returns c = rw c.if-set.false prints_none
