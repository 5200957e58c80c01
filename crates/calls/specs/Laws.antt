-- What holds of each call by itself, at any record, cells and unit, forged ones too: what a refusal is and leaves, question 5, and what a request and a
-- pacing response cost. Those of Defer are in DeferLaws, those of an error that is due in ErrorLaws.
-- Assumes nothing.
use Rattle.std.specs.Prelude.{ℕ, ◌+◌, ◌*◌, ◌≤◌, ◌<◌, ◌≡◌, Bool, true, false, ◌&&◌, List, [], ◌++◌, eqb, length, get_or}
use Rattle.unit.specs.Unit.{number_in}
use Rattle.answers.specs.FirstNo.{first_no}
use Rattle.session.specs.Opening.{opened}
use Rattle.end.specs.Record.{record_good, credit_of, open_of}
use Rattle.end.specs.Allocate.{allocate_questions}
use Rattle.end.specs.SendData.{send_questions}
use Rattle.end.specs.Close.{close_questions}
use Rattle.end.specs.Defer.{defer_questions, withdraw_questions}
use Rattle.end.specs.Confirmed.{confirmed_questions}
use Rattle.end.specs.RequestToSend.{request_questions}
use Rattle.end.specs.ReceiveExpedited.{receive_expedited_questions}
use Rattle.end.specs.ReceiveUnit.{head_questions, kind_questions, header_received, ru_received}
use Rattle.end.specs.Receive.{receive_questions}
use Rattle.end.specs.SendPacingResponse.{send_pacing_response_questions}
use Rattle.session.specs.declared.Session.{Session}
use Rattle.calls.specs.Calls.{Station, Verb, allocate, confirmed, send_error, send_pacing_response, request_to_send, withdraw, send_data, close, defer, receive}
use Rattle.calls.specs.Calls.{refusal_in, called, taken, taken_expedited}
use Rattle.calls.specs.UnitCounts.{count, is_request, requests_among, is_pacing_response}

-- ---- refusals

-- the questions of a call in document 01's order, each with its number
abbrev pub questions : Station → Verb → List (Bool × ℕ)
questions s allocate = allocate_questions s.end (length s.unit)
questions s confirmed = confirmed_questions s.end (length s.unit)
questions s send_error = confirmed_questions s.end (length s.unit)
questions s send_pacing_response = send_pacing_response_questions s.end (length s.unit)
questions s request_to_send = request_questions s.end (length s.unit)
questions s withdraw = withdraw_questions s.end
questions s (send_data bytes) = send_questions s.end bytes (length s.send) (length s.unit)
questions s (close f b) = close_questions s.end f b (length s.send) (length s.unit)
questions s (defer d) = defer_questions s.end
questions s (receive buffer) = receive_questions s.end s.inbox (length buffer)

abbrev pub receive_unit_questions : Station → List ℕ → List (Bool × ℕ)
receive_unit_questions s u =
    head_questions s.end u (length s.inbox) (length s.unit) ++ kind_questions s.end (header_received u) (number_in u) (ru_received u)

-- A refused call gives the first number that fits, and changes neither the record nor one lent cell.
pub record Refusals : Type 0 where
  -- the first "no" gives the number
  pub number : (s : Station) (v : Verb) → refusal_in (called s v).answer ≡ first_no (questions s v)
  pub number_of_take : (s : Station) (u : List ℕ) → refusal_in (taken s u).answer ≡ first_no (receive_unit_questions s u)
  pub number_of_expedited_take : (s : Station) (u : List ℕ)
      → refusal_in (taken_expedited s u).answer ≡ first_no (receive_expedited_questions s.end u (length s.unit))
  -- the record and the cells lent at opening are as before, and no unit is made
  pub changes_nothing : (s : Station) (v : Verb) → (refusal_in (called s v).answer ≡ 0 → ⊥)
      → ((called s v).end ≡ s) × ((called s v).sent ≡ []) × ((called s v).expedited ≡ [])
  -- the buffer lent to a read too
  pub leaves_buffer : (s : Station) (buffer : List ℕ) → (refusal_in (called s (receive buffer)).answer ≡ 0 → ⊥)
      → (called s (receive buffer)).answer.buffer ≡ buffer
  -- so does a take
  pub takes_nothing : (s : Station) (u : List ℕ) → (refusal_in (taken s u).answer ≡ 0 → ⊥)
      → ((taken s u).end ≡ s) × ((taken s u).sent ≡ []) × ((taken s u).expedited ≡ [])
  -- and one on the expedited line, which tells of no signal then
  pub takes_nothing_expedited : (s : Station) (u : List ℕ) → (refusal_in (taken_expedited s u).answer ≡ 0 → ⊥)
      → ((taken_expedited s u).end ≡ s) × ((taken_expedited s u).sent ≡ []) × ((taken_expedited s u).expedited ≡ [])
      × ((taken_expedited s u).answer.signalled ≡ false)

-- ---- question 5

-- each of the list is a byte
abbrev pub AllBytes : List ℕ → Type 0
AllBytes bs = (k : ℕ) → get_or bs k 0 < 256

-- the bytes that a call gives are bytes
abbrev pub BytesOf : Verb → Type 0
BytesOf allocate = Unit {0}
BytesOf confirmed = Unit {0}
BytesOf send_error = Unit {0}
BytesOf send_pacing_response = Unit {0}
BytesOf request_to_send = Unit {0}
BytesOf withdraw = Unit {0}
BytesOf (send_data bytes) = AllBytes bytes
BytesOf (close f b) = Unit {0}
BytesOf (defer d) = Unit {0}
BytesOf (receive buffer) = Unit {0}

-- An accepted call's record was within the section 'The end's record', and the record that it leaves is; so is that of an accepted opening.
pub record StaysGood : Type 0 where
  pub was : (s : Station) (v : Verb) → refusal_in (called s v).answer ≡ 0 → record_good s.end ≡ true
  pub was_at_take : (s : Station) (u : List ℕ) → refusal_in (taken s u).answer ≡ 0 → record_good s.end ≡ true
  pub was_at_expedited_take : (s : Station) (u : List ℕ) → refusal_in (taken_expedited s u).answer ≡ 0 → record_good s.end ≡ true
  pub is : (s : Station) (v : Verb) → BytesOf v → AllBytes s.inbox → refusal_in (called s v).answer ≡ 0 → record_good (called s v).end.end ≡ true
  pub is_after_take : (s : Station) (u : List ℕ) → AllBytes u → refusal_in (taken s u).answer ≡ 0
      → record_good (taken s u).end.end ≡ true
  pub is_after_expedited_take : (s : Station) (u : List ℕ) → record_good (taken_expedited s u).end.end ≡ record_good s.end
  pub is_opened : (s : Session) (send unit inbox : ℕ) → (opened s send unit inbox).answer.refusal ≡ 0 → record_good (opened s send unit inbox).end ≡ true

-- ---- credit and open

abbrev pub is_send_pacing_response : Verb → Bool
is_send_pacing_response allocate = false
is_send_pacing_response confirmed = false
is_send_pacing_response send_error = false
is_send_pacing_response send_pacing_response = true
is_send_pacing_response request_to_send = false
is_send_pacing_response withdraw = false
is_send_pacing_response (send_data bytes) = false
is_send_pacing_response (close f b) = false
is_send_pacing_response (defer d) = false
is_send_pacing_response (receive buffer) = false

-- A request made costs exactly 1 credit and a pacing answer taken raises it by exactly W; a request taken lowers open by exactly 1 and pace raises it by
-- exactly W; nothing else moves them.
pub record CreditExact : Type 0 where
  pub made : (s : Station) (v : Verb) → requests_among (called s v).sent + credit_of (called s v).end.end ≡ credit_of s.end
  pub answered : (s : Station) (u : List ℕ)
      → credit_of (taken s u).end.end
      ≡ credit_of s.end + s.end.sending.window.size * count (eqb (refusal_in (taken s u).answer) 0 && is_pacing_response u)
  pub received : (s : Station) (u : List ℕ)
      → open_of (taken s u).end.end + count (eqb (refusal_in (taken s u).answer) 0 && is_request u) ≡ open_of s.end
  pub paced : (s : Station) (v : Verb)
      → open_of (called s v).end.end ≡ open_of s.end + s.end.receiving.window.size * count (eqb (refusal_in (called s v).answer) 0 && is_send_pacing_response v)
  pub expedited : (s : Station) (u : List ℕ)
      → (credit_of (taken_expedited s u).end.end ≡ credit_of s.end) × (open_of (taken_expedited s u).end.end ≡ open_of s.end)

-- ---- units

-- A unit made stands at the front of the unit buffer, and has at most 1,024 bytes beside its heading.
pub record UnitsFit : Type 0 where
  pub made : (s : Station) (v : Verb) → (called s v).answer.answer.answer.unit ≤ length (called s v).end.unit
  pub short : (s : Station) (v : Verb) → (called s v).answer.answer.answer.unit ≤ 1029
  pub made_by_take : (s : Station) (u : List ℕ) → (taken s u).answer.answer.answer.unit ≤ length (taken s u).end.unit
  pub short_by_take : (s : Station) (u : List ℕ) → (taken s u).answer.answer.answer.unit ≤ 1029
  pub made_by_expedited_take : (s : Station) (u : List ℕ)
      → (taken_expedited s u).answer.answer.answer.unit ≤ length (taken_expedited s u).end.unit
  pub short_by_expedited_take : (s : Station) (u : List ℕ) → (taken_expedited s u).answer.answer.answer.unit ≤ 1029
