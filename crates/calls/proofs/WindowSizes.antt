-- No call changes the size of a window.
-- Assumes nothing.
use Rattle.calls.proofs.CallWords.{ℕ, List, ◌≡◌, refl, advanced, answered, request_made, bid_made, bytes_read, error_marked, data_joined, bid_answered}
use Rattle.calls.proofs.CallWords.{credit_raised, bytes_kept, bytes_spilled, Called, Station, Verb, called, taken}
use Rattle.calls.proofs.CallCases.{allocate_cases, close_cases, confirmed_cases, pacing_response_cases, read_cases, send_cases, take_cases}
use Rattle.calls.proofs.CallCases.{send_error_cases, request_cases, defer_cases, withdraw_cases}

abbrev pub size_of : Station → ℕ
size_of s = s.end.sending.window.size

module _ (s : Station) where
  abbrev After : Called → Type 0
  After m = size_of m.end ≡ size_of s

  pub size_acts : (v : Verb) → After (called s v)
  unfolding called bytes_kept bytes_spilled bytes_read bid_made request_made advanced
  size_acts Verb.allocate = allocate_cases After s (λ q n. refl) (λ g a w. refl) (λ g a w k. refl)
  size_acts Verb.confirmed = confirmed_cases After s (λ q n. refl) (λ g a. refl)
  size_acts Verb.send_error = send_error_cases After s (λ q n. refl) (λ g a. refl)
  size_acts Verb.request_to_send = request_cases After s (λ q n. refl) (λ a. refl)
  size_acts Verb.send_pacing_response = pacing_response_cases After s (λ q n. refl) (λ g a. refl)
  size_acts (Verb.send_data bytes) = send_cases After s bytes (λ q n. refl) (λ a k. refl) (λ a k h. refl)
  size_acts (Verb.close f c) = close_cases After s f c (λ q n. refl) (λ a n. refl) (λ a n k. refl) (λ a n k. refl)
  size_acts (Verb.defer d) = defer_cases After s d (λ q n. refl) (λ a. refl)
  size_acts Verb.withdraw = withdraw_cases After s (λ q n. refl) (λ g a. refl)
  size_acts (Verb.receive buffer) = read_cases After s buffer (λ q w n. refl) (λ a h. refl) (λ a h m. refl)

  pub size_takes : (u : List ℕ) → After (taken s u)
  unfolding data_joined error_marked bid_answered credit_raised answered
  size_takes u = take_cases After s u (λ q w n. refl) (λ d a e k. refl) (λ p a e k m. refl) (λ p a e k m. refl) (λ c a e m. refl) (λ a e k. refl)
