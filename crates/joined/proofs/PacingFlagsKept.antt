-- Every call keeps the pacing flags of two joined ends in step.
-- Assumes nothing.
use Rattle.joined.proofs.JoinedWords.{ℕ, Bool, true, false, not, cond, ◌||◌, List, [], ◌∷◌, ◌++◌, append-nil, ◌≡◌, refl, ap, left, ChainEnd, Continues}
use Rattle.joined.proofs.JoinedWords.{Last, Header, fixed_ru, bid_ru, unit_of, number_in, has_credit, paced, advanced, answered, bid_answer, request_received}
use Rattle.joined.proofs.JoinedWords.{request_made, next_number, bid_made, closing, defer_cases, withdraw_cases, bytes_read, header_received}
use Rattle.joined.proofs.JoinedWords.{data_joined, bid_answered, credit_raised}
use Rattle.joined.proofs.JoinedWords.{data_header, held_bytes, bytes_kept, bytes_spilled, Station, Reply, Verb, allocate_cases, bid_number, close_cases}
use Rattle.joined.proofs.JoinedWords.{confirmed_cases, pacing_response_cases, read_cases, send_cases, spilled_ru, take_cases, Sort, sort_of, is_pacing}
use Rattle.joined.proofs.JoinedWords.{bit_of, answer_sort, Lane, normal, acts, takes, Acted, Took}
use mathlib.Core.Bool.{or-false}
use Rattle.header.specs.declared.Header.TheVariants.{Bid, ErrorDescription, Confirmation, NegativeConfirmation, PacingResponse}
use Rattle.joined.proofs.JoinedWords.{error_marked, send_error_cases, request_cases, error_ru, negative_confirmation_ru}
use Rattle.joined.proofs.CallsOnLanes.{Laned, LanedTake}
use Rattle.pacing.proofs.Windows.{no_flag_at_start}
use Rattle.joined.proofs.PacingFlags.{Paces, paces_out, paces_answer, paces_took}

-- whether a pacing request is unanswered, and whether an answer is owed
abbrev pub unanswered_of : Station → Bool
unanswered_of s = s.end.sending.window.pending

abbrev pub owed_of : Station → Bool
owed_of s = s.end.receiving.window.pending

abbrev pub PacesOf : Station → Station → List (List ℕ) → List (List ℕ) → Type 0
PacesOf e f line back = Paces (unanswered_of e) (owed_of e) (unanswered_of f) (owed_of f) line back

-- a unit that is neither a pacing response nor a request with the pacing bit goes out
paces_past : {x o x' o' : Bool} {line back : List (List ℕ)} (n : ℕ) (h : Header) (ru : List ℕ)
    → is_pacing (sort_of h) ≡ false → bit_of (sort_of h) ≡ false
    → Paces x o x' o' line back → Paces x o x' o' (line ++ (unit_of n h ru ∷ [])) back
paces_past {x} n h ru k b p = rw (b, or-false x) at (paces_out n h ru k (λ e. cc) p)

module _ (s f : Station) (line back : List (List ℕ)) (p : PacesOf s f line back) where
  abbrev After : Acted Lane Station Reply (List ℕ) → Type 0
  After m = PacesOf m.end f (line ++ m.sent normal) back

  -- a request, under the bit that its window place has
  data_out : (n : ℕ) (ends : ChainEnd) (ru : List ℕ) → has_credit s.end.sending.window ≡ true
      → Paces (unanswered_of s || paced s.end.sending.window) (owed_of s) (unanswered_of f) (owed_of f)
      (line ++ (unit_of n (data_header s.end ends) ru ∷ [])) back
  unfolding data_header
  data_out n ends ru k = paces_out n (data_header s.end ends) ru refl (no_flag_at_start s.end.sending.window k) p

  pub paces_acts : (v : Verb) → After (acts s v)
  unfolding acts bytes_kept bytes_spilled bytes_read bid_made request_made advanced answered
  paces_acts Verb.allocate =
      let w = s.end.sending.window in
      allocate_cases (Laned After) s (λ q n. rw append-nil p) (λ g a w. rw append-nil p)
      (λ g a x k. paces_out (bid_number s.end) (Bid (paced w)) bid_ru refl (no_flag_at_start w k) p)
  paces_acts Verb.confirmed =
      confirmed_cases (Laned After) s (λ q n. rw append-nil p) (λ g a. paces_past s.end.owed Confirmation [] refl refl p)
  paces_acts Verb.send_error =
      send_error_cases (Laned After) s (λ q n. rw append-nil p)
      (λ g a. paces_past s.end.owed NegativeConfirmation negative_confirmation_ru refl refl p)
  paces_acts Verb.request_to_send = request_cases (Laned After) s (λ q n. rw append-nil p) (λ a. rw append-nil p)
  paces_acts Verb.send_pacing_response =
      pacing_response_cases (Laned After) s (λ q n. rw append-nil p) (λ g a. paces_answer 0 PacingResponse [] refl refl (left (owed_of s) _ a) p)
  paces_acts (Verb.send_data bytes) =
      send_cases (Laned After) s bytes (λ q n. rw append-nil p) (λ a k. rw append-nil p)
      (λ a k h. data_out (next_number s.end.sending.number) Continues (spilled_ru s bytes) h)
  paces_acts (Verb.close x c) =
      close_cases (Laned After) s x c (λ q n. rw append-nil p) (λ a n. rw append-nil p)
      (λ a y k.
      let w = s.end.sending.window in
      paces_out (next_number s.end.sending.number) (ErrorDescription (paced w)) error_ru refl (no_flag_at_start w k) p)
      (λ a n k. data_out (next_number s.end.sending.number) (Last (closing s.end x) c) (held_bytes s.end s.send) k)
  paces_acts (Verb.defer d) = defer_cases (Laned After) s d (λ q n. rw append-nil p) (λ a. rw append-nil p)
  paces_acts Verb.withdraw = withdraw_cases (Laned After) s (λ q n. rw append-nil p) (λ g a. rw append-nil p)
  paces_acts (Verb.receive buffer) =
      read_cases (Laned After) s buffer (λ q w n. rw append-nil p) (λ a h. rw append-nil p) (λ a h m. rw append-nil p)

module _ (s f : Station) (line back : List (List ℕ)) (u : List ℕ) (p : PacesOf s f line (u ∷ back)) where
  abbrev Left : Took Lane Station Reply (List ℕ) → Type 0
  Left t = PacesOf t.end f (line ++ t.sent normal) (cond t.removed back (u ∷ back))

  -- the flags after a unit of the sort k, with the pacing bit b
  took : (k : Sort) (b : Bool) → sort_of (header_received u) ≡ k → bit_of k ≡ b
      → Paces (cond (is_pacing k) (not (unanswered_of s)) (unanswered_of s)) (owed_of s || b) (unanswered_of f) (owed_of f) line back
  took k b e q = rw (e, q) at (paces_took p)

  pub paces_takes : Left (takes normal s u)
  unfolding takes data_joined error_marked bid_answered credit_raised request_received advanced answered
  paces_takes =
      let h = bid_answer s.end.control in
      let k = answer_sort s.end.control in
      take_cases (LanedTake Left) s u (λ q w n. rw (n, append-nil) p) (λ d a e k. rw append-nil (took _ _ e k.request.bit))
      (λ b a e q m. paces_past (number_in u) h (fixed_ru h) (ap is_pacing k) (ap bit_of k) (took _ _ e q.bit))
      (λ b a e q m. rw append-nil (took _ _ e q.bit))
      (λ c a e m. rw append-nil (rw (or-false (owed_of s)) at (took _ _ e refl)))
      (λ a e k. rw append-nil (rw (or-false (owed_of s), k) at (took _ _ e refl)))
