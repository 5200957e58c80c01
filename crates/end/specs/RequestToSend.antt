-- Request to send, in Receive or Owes: the partner is asked for the turn by a signal, on the expedited line. It costs no credit and changes no state.
-- Assumes nothing.
use Rattle.std.specs.Prelude.{ℕ, Bool, not, List, [], ◌∷◌, length}
use Rattle.header.specs.declared.ExpeditedHeader.TheVariants.{Signal}
use Rattle.unit.specs.Sequence.{next_number}
use Rattle.control.specs.Questions.{may_request}
use Rattle.answers.specs.FirstNo.{first_no}
use Rattle.answers.specs.Answers.{BAD_BUFFER, BAD_RECORD, WRONG_STATE, SIGNAL_UNANSWERED}
use Rattle.expedited.specs.Signals.{signal_made}
use Rattle.end.specs.Record.{record_good, unit_lent}
use Rattle.end.specs.Outcome.{expedited_unit, Decision, accept, decided, Made, made, with_expedited}
use Rattle.end.specs.declared.End.{End}

-- 30: is no signal unanswered?
abbrev pub request_questions : End → ℕ → List (Bool × ℕ)
request_questions e n =
    (unit_lent e n, BAD_BUFFER)
    ∷ (record_good e, BAD_RECORD)
    ∷ (may_request e.control, WRONG_STATE)
    ∷ (not e.expedited.unanswered, SIGNAL_UNANSWERED)
    ∷ []

unfoldable pub request_refusal : End → ℕ → ℕ
request_refusal e n = first_no (request_questions e n)

-- the signal takes the next expedited number
unfoldable pub request_decision : End → ℕ → Decision
request_decision e n =
    decided (request_refusal e n) e (accept (with_expedited (signal_made e.expedited) e) (expedited_unit (next_number e.expedited.sent) Signal))

unfoldable pub request_to_send : End → List ℕ → Made
request_to_send e cells = made (request_decision e (length cells)) cells
