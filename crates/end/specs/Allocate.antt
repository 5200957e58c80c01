-- Allocate, in Reset. A first speaker sends, BB-due; a bidder makes a bid.
-- Assumes nothing.
use Rattle.std.specs.Prelude.{ℕ, Bool, cond, ◌||◌, List, [], ◌∷◌, length}
use Rattle.unit.specs.Ru.{bid_ru}
use Rattle.header.specs.declared.Header.TheVariants.{Bid}
use Rattle.pacing.specs.Pacing.{paced, has_credit}
use Rattle.control.specs.StateTests.{is_first_speaker}
use Rattle.control.specs.Questions.{may_allocate}
use Rattle.transitions.specs.Transitions.{allocated}
use Rattle.answers.specs.FirstNo.{first_no}
use Rattle.answers.specs.Answers.{BAD_BUFFER, BAD_RECORD, WRONG_STATE, NO_CREDIT}
use Rattle.unit.specs.Sequence.{next_number}
use Rattle.sending.specs.Sending.{request_made}
use Rattle.end.specs.Record.{record_good, unit_lent}
use Rattle.end.specs.Outcome.{nothing, a_unit, Decision, accept, decided, Made, made, with_control, with_sending, with_bidding}
use Rattle.end.specs.declared.End.{End}

abbrev pub allocate_questions : End → ℕ → List (Bool × ℕ)
allocate_questions e n =
    (unit_lent e n, BAD_BUFFER)
    ∷ (record_good e, BAD_RECORD)
    ∷ (may_allocate e.control, WRONG_STATE)
    ∷ (is_first_speaker e.control.role || has_credit e.sending.window, NO_CREDIT)
    ∷ []

unfoldable pub allocate_refusal : End → ℕ → ℕ
allocate_refusal e n = first_no (allocate_questions e n)

-- the bid, a request, takes the next number, and the flag keeps it
unfoldable pub bid_made : End → Decision
bid_made e =
    accept
    (with_bidding (next_number e.sending.number)
    (with_sending (request_made e.sending.held e.sending.given e.sending) (with_control (allocated e.control) e)))
    (a_unit (next_number e.sending.number) (Bid (paced e.sending.window)) bid_ru)

unfoldable pub allocate_decision : End → ℕ → Decision
allocate_decision e n =
    decided (allocate_refusal e n) e (cond (is_first_speaker e.control.role) (accept (with_control (allocated e.control) e) nothing) (bid_made e))

unfoldable pub allocate : End → List ℕ → Made
allocate e cells = made (allocate_decision e (length cells)) cells
