-- The laws of signals, at any record, cells and unit, forged ones too: what a request to send and a take on the expedited line leave, and that the
-- expedited lines and all else of an end are apart.
-- Assumes nothing.
use Rattle.std.specs.Prelude.{ℕ, ◌≡◌, Bool, true, false, List, [], ◌∷◌}
use Rattle.header.specs.Rules.{one_of}
use Rattle.header.specs.declared.ExpeditedHeader.TheVariants.{Signal, SignalResponse}
use Rattle.unit.specs.Sequence.{next_number}
use Rattle.unit.specs.Unit.{number_in}
use Rattle.unit.specs.ExpeditedUnit.{expedited_of}
use Rattle.answers.specs.Answers.{BAD_BUFFER, BAD_RECORD, SHORT_UNIT, BAD_HEADER, BAD_RU, BAD_NUMBER, BAD_RESPONSE}
use Rattle.expedited.specs.Signals.{signal_made, signal_taken, response_taken}
use Rattle.expedited.specs.Takes.{header_taken}
use Rattle.end.specs.Outcome.{with_expedited}
use Rattle.calls.specs.Calls.{Station, Verb, allocate, confirmed, send_error, send_pacing_response, request_to_send, withdraw, send_data, close, defer, receive}
use Rattle.calls.specs.Calls.{Called, refusal_in, called, taken, taken_expedited}

abbrev pub is_request_to_send : Verb → Bool
is_request_to_send allocate = false
is_request_to_send confirmed = false
is_request_to_send send_error = false
is_request_to_send send_pacing_response = false
is_request_to_send request_to_send = true
is_request_to_send withdraw = false
is_request_to_send (send_data bytes) = false
is_request_to_send (close f b) = false
is_request_to_send (defer d) = false
is_request_to_send (receive buffer) = false

-- a call of the expedited lines leaves the rest of the end as it was: every other part of the record, the send buffer and the inbox; and it makes no unit for
-- the normal line
pub record OnlyExpedited (s : Station) (m : Called) : Type 0 where
  pub end : with_expedited s.end.expedited m.end.end ≡ s.end
  pub send_buffer : m.end.send ≡ s.send
  pub inbox : m.end.inbox ≡ s.inbox
  pub sent : m.sent ≡ []

-- what a take on the expedited line can answer: accepted, or refused by 4, 5, 20 to 23 or 28; by no state and by no unread mark
abbrev pub expedited_numbers : List ℕ
expedited_numbers = 0 ∷ BAD_BUFFER ∷ BAD_RECORD ∷ SHORT_UNIT ∷ BAD_HEADER ∷ BAD_RU ∷ BAD_NUMBER ∷ BAD_RESPONSE ∷ []

-- every other call leaves what the record keeps of the expedited lines, and makes no unit for one
pub record NothingExpedited (s : Station) (m : Called) : Type 0 where
  pub kept : m.end.end.expedited ≡ s.end.expedited
  pub sent : m.expedited ≡ []

pub record Signalling : Type 0 where
  -- an accepted request to send makes a signal under the next expedited number, and it is unanswered then
  pub requested : (s : Station) → refusal_in (called s request_to_send).answer ≡ 0
      → ((called s request_to_send).expedited ≡ expedited_of (next_number s.end.expedited.sent) Signal ∷ [])
      × ((called s request_to_send).end.end ≡ with_expedited (signal_made s.end.expedited) s.end)
  -- none is made while one is unanswered
  pub one_at_a_time : (s : Station) → s.end.expedited.unanswered ≡ true → refusal_in (called s request_to_send).answer ≡ 0 → ⊥
  -- an accepted take of a signal tells the program, makes the response under the signal's number, and keeps that number
  pub told : (s : Station) (u : List ℕ) → refusal_in (taken_expedited s u).answer ≡ 0 → header_taken u ≡ Signal
      → ((taken_expedited s u).answer.signalled ≡ true) × ((taken_expedited s u).expedited ≡ expedited_of (number_in u) SignalResponse ∷ [])
      × ((taken_expedited s u).end.end ≡ with_expedited (signal_taken (number_in u) s.end.expedited) s.end)
  -- that of a response clears the flag, makes no unit and tells nobody
  pub answered : (s : Station) (u : List ℕ) → refusal_in (taken_expedited s u).answer ≡ 0 → header_taken u ≡ SignalResponse
      → ((taken_expedited s u).answer.signalled ≡ false) × ((taken_expedited s u).expedited ≡ [])
      × ((taken_expedited s u).end.end ≡ with_expedited (response_taken s.end.expedited) s.end)
  pub numbers : (s : Station) (u : List ℕ) → one_of (refusal_in (taken_expedited s u).answer) expedited_numbers ≡ true
  -- nothing but a take there tells of a signal
  pub calls_tell_nothing : (s : Station) (v : Verb) → (called s v).answer.signalled ≡ false
  pub takes_tell_nothing : (s : Station) (u : List ℕ) → (taken s u).answer.signalled ≡ false
  -- the two kinds of line are apart
  pub request_apart : (s : Station) → OnlyExpedited s (called s request_to_send)
  pub take_apart : (s : Station) (u : List ℕ) → OnlyExpedited s (taken_expedited s u)
  pub other_calls : (s : Station) (v : Verb) → is_request_to_send v ≡ false → NothingExpedited s (called s v)
  pub other_takes : (s : Station) (u : List ℕ) → NothingExpedited s (taken s u)
