-- The laws of signals, by the views of single calls.
-- Assumes nothing.
use Rattle.calls.proofs.CallWords.{ℕ, true, false, List, [], ◌∷◌, ◌≡◌, refl, sym, ap, ◌∙◌, error_marked, bid_made, bytes_read, mark_read}
use Rattle.calls.proofs.CallWords.{data_joined, bid_answered, credit_raised, bytes_kept, bytes_spilled, number_in, next_number, length}
use Rattle.calls.proofs.CallWords.{Called, Station, Verb, called, taken, taken_expedited, refusal_in, Signal, SignalResponse, expedited_of}
use Rattle.calls.proofs.CallWords.{with_expedited, signal_made, signal_taken, response_taken, header_taken}
use borrow.Author.Tests.{eqb-false}
use Rattle.bools.proofs.Cases.{never}
use Rattle.header.specs.Rules.{one_of}
use Rattle.header.specs.ExpeditedHeader.{is_signal}
use Rattle.answers.proofs.TwoRows.{given}
use Rattle.end.specs.ReceiveExpedited.{receive_expedited_questions}
use Rattle.calls.specs.ExpeditedLaws.{is_request_to_send, OnlyExpedited, expedited_numbers, NothingExpedited, Signalling}
use Rattle.calls.proofs.CallCases.{allocate_cases, close_cases, confirmed_cases, pacing_response_cases, read_cases, send_cases, take_cases}
use Rattle.calls.proofs.CallCases.{send_error_cases, request_cases, expedited_cases, defer_cases, withdraw_cases}
use Rattle.calls.proofs.Refusals.{expedited_number_is}

-- ---- request to send

module _ (s : Station) where
  abbrev Requested : Called → Type 0
  Requested m =
      refusal_in m.answer ≡ 0
      → (m.expedited ≡ expedited_of (next_number s.end.expedited.sent) Signal ∷ [])
      × (m.end.end ≡ with_expedited (signal_made s.end.expedited) s.end)

  requested : Requested (called s Verb.request_to_send)
  requested = request_cases Requested s (λ q n h. absurd (eqb-false q 0 n h)) (λ a h. (refl, refl))

  one_at_a_time : s.end.expedited.unanswered ≡ true → refusal_in (called s Verb.request_to_send).answer ≡ 0 → ⊥
  one_at_a_time y =
      request_cases (λ (m : Called). refusal_in m.answer ≡ 0 → ⊥) s (λ q n h. eqb-false q 0 n h) (λ a h. never (sym a.quiet ∙ y))

  request_apart : OnlyExpedited s (called s Verb.request_to_send)
  request_apart =
      request_cases (OnlyExpedited s) s (λ q n. record { end = refl; send_buffer = refl; inbox = refl; sent = refl })
      (λ a. record { end = refl; send_buffer = refl; inbox = refl; sent = refl })

-- ---- takes

module _ (s : Station) (u : List ℕ) where
  abbrev Told : Called → Type 0
  Told m =
      refusal_in m.answer ≡ 0
      → header_taken u ≡ Signal
      → (m.answer.signalled ≡ true) × (m.expedited ≡ expedited_of (number_in u) SignalResponse ∷ [])
      × (m.end.end ≡ with_expedited (signal_taken (number_in u) s.end.expedited) s.end)

  told : Told (taken_expedited s u)
  told =
      expedited_cases Told s u (λ q w n h k. absurd (eqb-false q 0 n h)) (λ a k h j. (refl, refl, refl))
      (λ a k h j. never (ap is_signal (sym k ∙ j)))

  abbrev Answered : Called → Type 0
  Answered m =
      refusal_in m.answer ≡ 0
      → header_taken u ≡ SignalResponse
      → (m.answer.signalled ≡ false) × (m.expedited ≡ []) × (m.end.end ≡ with_expedited (response_taken s.end.expedited) s.end)

  answered : Answered (taken_expedited s u)
  answered =
      expedited_cases Answered s u (λ q w n h k. absurd (eqb-false q 0 n h)) (λ a k h j. never (ap is_signal (sym j ∙ k)))
      (λ a k h j. (refl, refl, refl))

  take_apart : OnlyExpedited s (taken_expedited s u)
  take_apart =
      expedited_cases (OnlyExpedited s) s u (λ q w n. record { end = refl; send_buffer = refl; inbox = refl; sent = refl })
      (λ a k. record { end = refl; send_buffer = refl; inbox = refl; sent = refl })
      (λ a k. record { end = refl; send_buffer = refl; inbox = refl; sent = refl })

  numbers : one_of (refusal_in (taken_expedited s u).answer) expedited_numbers ≡ true
  numbers =
      ap (λ (q : ℕ). one_of q expedited_numbers) (expedited_number_is s u)
      ∙ given (λ (q : ℕ). one_of q expedited_numbers) (receive_expedited_questions s.end u (length s.unit)) refl

-- ---- every other call

module _ (s : Station) where
  pub others : (v : Verb) → is_request_to_send v ≡ false → NothingExpedited s (called s v)
  unfolding called bid_made bytes_kept bytes_spilled bytes_read mark_read
  others Verb.allocate n =
      allocate_cases (NothingExpedited s) s (λ q n. record { kept = refl; sent = refl }) (λ g a w. record { kept = refl; sent = refl })
      (λ g a w k. record { kept = refl; sent = refl })
  others Verb.confirmed n =
      confirmed_cases (NothingExpedited s) s (λ q n. record { kept = refl; sent = refl }) (λ g a. record { kept = refl; sent = refl })
  others Verb.send_error n =
      send_error_cases (NothingExpedited s) s (λ q n. record { kept = refl; sent = refl }) (λ g a. record { kept = refl; sent = refl })
  others Verb.send_pacing_response n =
      pacing_response_cases (NothingExpedited s) s (λ q n. record { kept = refl; sent = refl }) (λ g a. record { kept = refl; sent = refl })
  others Verb.request_to_send n = never (sym n)
  others Verb.withdraw n =
      withdraw_cases (NothingExpedited s) s (λ q n. record { kept = refl; sent = refl }) (λ g a. record { kept = refl; sent = refl })
  others (Verb.send_data bytes) n =
      send_cases (NothingExpedited s) s bytes (λ q n. record { kept = refl; sent = refl }) (λ a k. record { kept = refl; sent = refl })
      (λ a k h. record { kept = refl; sent = refl })
  others (Verb.close f b) n =
      close_cases (NothingExpedited s) s f b (λ q n. record { kept = refl; sent = refl }) (λ a n. record { kept = refl; sent = refl })
      (λ a n k. record { kept = refl; sent = refl }) (λ a n k. record { kept = refl; sent = refl })
  others (Verb.defer d) n = defer_cases (NothingExpedited s) s d (λ q n. record { kept = refl; sent = refl }) (λ a. record { kept = refl; sent = refl })
  others (Verb.receive buffer) n =
      read_cases (NothingExpedited s) s buffer (λ q w n. record { kept = refl; sent = refl }) (λ a h. record { kept = refl; sent = refl })
      (λ a h m. record { kept = refl; sent = refl })

  pub other_takes : (u : List ℕ) → NothingExpedited s (taken s u)
  unfolding data_joined error_marked bid_answered credit_raised
  other_takes u =
      take_cases (NothingExpedited s) s u (λ q w n. record { kept = refl; sent = refl }) (λ d a e k. record { kept = refl; sent = refl })
      (λ p a e k m. record { kept = refl; sent = refl }) (λ p a e k m. record { kept = refl; sent = refl })
      (λ c a e m. record { kept = refl; sent = refl }) (λ a e k. record { kept = refl; sent = refl })

-- ---- by their definitions

pub silent : (s : Station) (v : Verb) → (called s v).answer.signalled ≡ false
unfolding called
silent s Verb.allocate = refl
silent s Verb.confirmed = refl
silent s Verb.send_error = refl
silent s Verb.send_pacing_response = refl
silent s Verb.request_to_send = refl
silent s Verb.withdraw = refl
silent s (Verb.send_data bytes) = refl
silent s (Verb.close f b) = refl
silent s (Verb.defer d) = refl
silent s (Verb.receive buffer) = refl

pub silent_take : (s : Station) (u : List ℕ) → (taken s u).answer.signalled ≡ false
unfolding taken
silent_take s u = refl

pub signalling : Signalling
signalling =
    record {
      requested = requested;
      one_at_a_time = one_at_a_time;
      told = told;
      answered = answered;
      numbers = numbers;
      calls_tell_nothing = silent;
      takes_tell_nothing = silent_take;
      request_apart = request_apart;
      take_apart = take_apart;
      other_calls = others;
      other_takes = other_takes;
    }
