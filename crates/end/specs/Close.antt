-- Flush, confirm, turn and end, in Send: one last unit with the held bytes, perhaps none, CD for turn, CEB for end. Flush says nothing to follow and
-- requests no confirmation; with no byte held it makes no unit. In Defer flush and confirm carry out the turn or end that is prepared, as that call would,
-- without and with confirmation. While an error is due flush alone is allowed, and makes the error header.
-- Assumes nothing.
use Rattle.std.specs.Prelude.{ℕ, Bool, true, false, not, cond, ◌&&◌, ◌||◌, List, [], ◌∷◌, eqb, length}
use Rattle.logical_record.specs.Positions.{is_whole}
use Rattle.unit.specs.Ru.{marks, error_ru}
use Rattle.header.specs.declared.Follows.{Follows}
use Rattle.header.specs.declared.Follows.TheVariants.{Stay, ChangeDirection, EndBracket}
use Rattle.header.specs.declared.ChainEnd.TheVariants.{Last}
use Rattle.header.specs.declared.Header.{Header}
use Rattle.header.specs.declared.Header.TheVariants.{ErrorDescription}
use Rattle.pacing.specs.Pacing.{paced, has_credit}
use Rattle.control.specs.Questions.{may_close}
use Rattle.control.specs.declared.Control.{Control}
use Rattle.transitions.specs.Transitions.{carried_out, closed, error_made}
use Rattle.answers.specs.FirstNo.{first_no}
use Rattle.answers.specs.Answers.{BAD_BUFFER, BAD_RECORD, WRONG_STATE, UNFINISHED_RECORD, NO_CREDIT}
use Rattle.unit.specs.Sequence.{next_number}
use Rattle.sending.specs.Sending.{request_made}
use Rattle.end.specs.Record.{record_good, send_lent, unit_lent}
use Rattle.end.specs.Requests.{data_header}
use Rattle.end.specs.SendData.{held_bytes}
use Rattle.end.specs.Outcome.{nothing, a_unit, Decision, accept, decided, Made, made, with_control, with_sending}
use Rattle.end.specs.declared.End.{End}

-- a flush of no byte, and of no error: no unit goes
abbrev pub nothing_goes : End → Follows → Bool → Bool
nothing_goes e f confirm = not (marks (Last f confirm)) && (eqb e.sending.held 0 && not e.control.error)

-- what the last unit says to follow
abbrev pub closing : End → Follows → Follows
closing e f = carried_out f e.control

abbrev pub close_questions : End → Follows → Bool → ℕ → ℕ → List (Bool × ℕ)
close_questions e f confirm send unit =
    (send_lent e send && unit_lent e unit, BAD_BUFFER)
    ∷ (record_good e, BAD_RECORD)
    ∷ (may_close f confirm e.control, WRONG_STATE)
    ∷ (not (marks (Last (closing e f) confirm)) || is_whole e.sending.given, UNFINISHED_RECORD)
    ∷ (nothing_goes e (closing e f) confirm || has_credit e.sending.window, NO_CREDIT)
    ∷ []

unfoldable pub close_refusal : End → Follows → Bool → ℕ → ℕ → ℕ
close_refusal e f confirm send unit = first_no (close_questions e f confirm send unit)

-- the unit that goes, and the finite part behind it: the error header if it is due, and else the bytes held as last of their chain
abbrev pub last_header : End → Follows → Bool → Header
last_header e f confirm = cond e.control.error (ErrorDescription (paced e.sending.window)) (data_header e (Last f confirm))

abbrev pub last_ru : End → List ℕ → List ℕ
last_ru e send = cond e.control.error error_ru (held_bytes e send)

abbrev pub last_control : End → Follows → Bool → Control
last_control e f confirm = cond e.control.error (error_made e.control) (closed f confirm e.control)

-- it is a request, and nothing is held then
unfoldable pub last_made : End → Follows → Bool → List ℕ → Decision
last_made e f confirm send =
    accept
    (with_sending (request_made 0 e.sending.given e.sending) (with_control (last_control e f confirm) e))
    (a_unit (next_number e.sending.number) (last_header e f confirm) (last_ru e send))

unfoldable pub close_decision : End → Follows → Bool → List ℕ → ℕ → Decision
close_decision e f confirm send unit =
    decided (close_refusal e f confirm (length send) unit) e
    (cond (nothing_goes e (closing e f) confirm) (accept e nothing) (last_made e (closing e f) confirm send))

unfoldable pub close : Follows → Bool → End → List ℕ → List ℕ → Made
close f confirm e send unit = made (close_decision e f confirm send (length unit)) unit

-- ---- the paper's calls

abbrev pub flush : End → List ℕ → List ℕ → Made
flush e send unit = close Stay false e send unit

abbrev pub confirm : End → List ℕ → List ℕ → Made
confirm e send unit = close Stay true e send unit

-- turn
abbrev pub prepare_to_receive : Bool → End → List ℕ → List ℕ → Made
prepare_to_receive confirmed e send unit = close ChangeDirection confirmed e send unit

-- end
abbrev pub deallocate : Bool → End → List ℕ → List ℕ → Made
deallocate confirmed e send unit = close EndBracket confirmed e send unit
