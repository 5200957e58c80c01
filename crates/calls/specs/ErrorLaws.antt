-- The laws of an error that is due, at any record and cells, forged ones too: what is left by an accepted send error, what flush then makes, and what is not
-- allowed until that has gone.
-- Assumes nothing.
use Rattle.std.specs.Prelude.{◌≡◌, Bool, true, false, [], ◌∷◌}
use Rattle.header.specs.declared.Follows.TheVariants.{Stay, ChangeDirection, EndBracket}
use Rattle.header.specs.declared.Header.TheVariants.{ErrorDescription, NegativeConfirmation}
use Rattle.unit.specs.Ru.{error_ru, negative_confirmation_ru}
use Rattle.unit.specs.Sequence.{next_number}
use Rattle.unit.specs.Unit.{unit_of}
use Rattle.pacing.specs.Pacing.{paced}
use Rattle.control.specs.declared.State.TheVariants.{Send}
use Rattle.answers.specs.FirstNo.{first_no}
use Rattle.answers.specs.Answers.{BAD_BUFFER, WRONG_STATE, NO_CREDIT}
use Rattle.end.specs.Record.{record_good}
use Rattle.calls.specs.Calls.{Station, Verb, allocate, confirmed, send_error, send_pacing_response, request_to_send, withdraw, send_data, close, defer, receive}
use Rattle.calls.specs.Calls.{flush, refusal_in, called}
use Rattle.calls.specs.Laws.{questions}
use Rattle.calls.specs.DeferLaws.{before_state, is_one_of}

-- the error header is due
abbrev pub ErrorDue : Station → Type 0
ErrorDue s = s.end.control.error ≡ true

-- the calls that need Send, but for flush
abbrev pub waits_for_error : Verb → Bool
waits_for_error allocate = false
waits_for_error confirmed = false
waits_for_error send_error = false
waits_for_error send_pacing_response = false
waits_for_error request_to_send = false
waits_for_error withdraw = false
waits_for_error (send_data bytes) = true
waits_for_error (close Stay confirm) = confirm
waits_for_error (close ChangeDirection confirm) = true
waits_for_error (close EndBracket confirm) = true
waits_for_error (defer d) = true
waits_for_error (receive buffer) = false

-- No confirmation, and then its cause.
pub record Denying : Type 0 where
  -- an accepted send error makes the refusal of the number owed, and leaves Send with the error due, whatever was to follow
  pub denied : (s : Station) → refusal_in (called s send_error).answer ≡ 0
      → ((called s send_error).sent ≡ unit_of s.end.owed NegativeConfirmation negative_confirmation_ru ∷ [])
      × ((called s send_error).end.end.control.state ≡ Send) × ErrorDue (called s send_error).end
  -- while it is due, an accepted flush makes the error header, numbered next, with the pacing bit of its window place; then none is due, the state is still
  -- Send and no chain is open
  pub flushed : (s : Station) → ErrorDue s → refusal_in (called s flush).answer ≡ 0
      → ((called s flush).sent ≡ unit_of (next_number s.end.sending.number) (ErrorDescription (paced s.end.sending.window)) error_ru ∷ [])
      × ((called s flush).end.end.control.state ≡ Send) × ((called s flush).end.end.control.error ≡ false) × ((called s flush).end.end.control.outchain ≡ false)
  -- of a good record that flush is refused with 4 or 10 alone, never because of a record that is not whole
  pub refused : (s : Station) → ErrorDue s → record_good s.end ≡ true → (refusal_in (called s flush).answer ≡ 0 → ⊥)
      → is_one_of BAD_BUFFER NO_CREDIT (refusal_in (called s flush).answer) ≡ true
  -- until it has gone, every other call that needs Send is refused with 7 once it passes the questions before
  pub only : (s : Station) (v : Verb) → ErrorDue s → waits_for_error v ≡ true
      → first_no (before_state (questions s v)) ≡ 0 → refusal_in (called s v).answer ≡ WRONG_STATE
