-- What a call in place leaves, put as the method hands it back: the answer, and the record behind the reference.
-- Assumes nothing.
use Rattle.answers.specs.declared.Answer.{Answer}
use Rattle.answers.specs.declared.ReadAnswer.{ReadAnswer}
use Rattle.answers.specs.declared.ExpeditedAnswer.{ExpeditedAnswer}
use Rattle.end.specs.declared.End.{End}
use Rattle.end.specs.declared.Done.{Done}

abbrev pub done_by : Answer → End → Done Answer
done_by a e = record { answer = a; end = e }

abbrev pub read_done_by : ReadAnswer → End → Done ReadAnswer
read_done_by a e = record { answer = a; end = e }

abbrev pub expedited_done_by : ExpeditedAnswer → End → Done ExpeditedAnswer
expedited_done_by a e = record { answer = a; end = e }
