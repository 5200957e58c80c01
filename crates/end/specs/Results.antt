-- What a call leaves, from what it hands back and the cells it is lent as it returns: the left side of each call's promise.
-- Assumes nothing.
use Rattle.std.specs.Prelude.{ℕ, List}
use Rattle.end.specs.Outcome.{Made, Sent, Taken, TakenExpedited, Copied}
use Rattle.end.specs.declared.Done.{Done}
use Rattle.answers.specs.declared.Answer.{Answer}
use Rattle.answers.specs.declared.ReadAnswer.{ReadAnswer}
use Rattle.answers.specs.declared.ExpeditedAnswer.{ExpeditedAnswer}

abbrev pub made_by : Done Answer → List ℕ → Made
made_by d unit = record { done = d; unit = unit }

abbrev pub sent_by : Done Answer → List ℕ → List ℕ → Sent
sent_by d send unit = record { done = d; send = send; unit = unit }

abbrev pub taken_by : Done Answer → List ℕ → List ℕ → Taken
taken_by d inbox unit = record { done = d; inbox = inbox; unit = unit }

abbrev pub copied_by : Done ReadAnswer → List ℕ → List ℕ → Copied
copied_by d inbox buffer = record { done = d; inbox = inbox; buffer = buffer }

abbrev pub expedited_by : Done ExpeditedAnswer → List ℕ → TakenExpedited
expedited_by d unit = record { done = d; unit = unit }
