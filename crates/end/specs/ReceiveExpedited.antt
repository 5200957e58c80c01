-- Take on the expedited line, in every state and under an unread mark too: of a signal, which it answers and tells the program of, or of the response to
-- this end's signal. Only what the record keeps of the expedited lines changes.
-- Assumes nothing.
use Rattle.std.specs.Prelude.{ℕ, Bool, cond, List, [], ◌∷◌, ◌++◌, eqb, length}
use Rattle.header.specs.ExpeditedHeader.{is_signal}
use Rattle.header.specs.declared.ExpeditedHeader.{ExpeditedHeader}
use Rattle.header.specs.declared.ExpeditedHeader.TheVariants.{SignalResponse}
use Rattle.unit.specs.Unit.{number_in}
use Rattle.answers.specs.FirstNo.{first_no}
use Rattle.answers.specs.Answers.{BAD_BUFFER, BAD_RECORD, accepted, refused_naming, expedited_answer}
use Rattle.expedited.specs.Signals.{unit_taken}
use Rattle.expedited.specs.Takes.{header_taken, take_questions, rule_taken}
use Rattle.end.specs.Record.{record_good, unit_lent}
use Rattle.end.specs.Outcome.{Out, nothing, expedited_unit, length_out, cells_out, Decision, accept, decided, TakenExpedited, with_expedited}
use Rattle.end.specs.declared.End.{End}
use Rattle.end.specs.declared.Done.{Done}
use Rattle.answers.specs.declared.ExpeditedAnswer.{ExpeditedAnswer}

-- what is asked of the end alone
abbrev pub lent_questions : End → ℕ → List (Bool × ℕ)
lent_questions e n = (unit_lent e n, BAD_BUFFER) ∷ (record_good e, BAD_RECORD) ∷ []

-- 4 and 5, and then 20 to 23 and 28 of the unit
abbrev pub receive_expedited_questions : End → List ℕ → ℕ → List (Bool × ℕ)
receive_expedited_questions e taken n = lent_questions e n ++ take_questions e.expedited taken

unfoldable pub lent_refusal : End → ℕ → ℕ
lent_refusal e n = first_no (lent_questions e n)

unfoldable pub receive_expedited_refusal : End → List ℕ → ℕ → ℕ
receive_expedited_refusal e taken n = first_no (receive_expedited_questions e taken n)

-- a signal is answered under its own number; a response is not
abbrev pub answer_to : ExpeditedHeader → ℕ → Out
answer_to h n = cond (is_signal h) (expedited_unit n SignalResponse) nothing

unfoldable pub receive_expedited_decision : End → List ℕ → ℕ → Decision
receive_expedited_decision e taken n =
    decided (receive_expedited_refusal e taken n) e
    (accept (with_expedited (unit_taken (header_taken taken) (number_in taken) e.expedited) e) (answer_to (header_taken taken) (number_in taken)))

-- 21 names the rule that the header breaks; the program is told of a signal that was taken
abbrev pub expedited_done : List ℕ → Decision → Done ExpeditedAnswer
expedited_done taken d =
    record {
      answer =
          expedited_answer (cond (eqb d.refusal 0) (accepted (length_out d.out)) (refused_naming (rule_taken taken) d.refusal))
          (is_signal (header_taken taken));
      end = d.end;
    }

unfoldable pub receive_expedited : End → List ℕ → List ℕ → TakenExpedited
receive_expedited e taken unit =
    let d : Decision = receive_expedited_decision e taken (length unit) in
    record { done = expedited_done taken d; unit = cells_out d.out unit }
