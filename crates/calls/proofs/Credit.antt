-- What each call costs or gives: a request made 1 credit, a pacing response taken W; a request taken 1 of open, a pacing response made W.
-- Assumes nothing.
use Rattle.calls.proofs.CallWords.{ℕ, ◌+◌, ◌*◌, eqb, Bool, true, false, ◌&&◌, List, [], ◌∷◌, ◌≡◌, refl, ap, ◌∙◌, arith, left, ChainEnd, Continues, Last}
use Rattle.calls.proofs.CallWords.{Header, bid_ru, unit_of, paced, has_credit, advanced, request_received, request_made, next_number, bid_made}
use Rattle.calls.proofs.CallWords.{closing, bytes_read, mark_read, data_joined, bid_answered, credit_raised, record_good, data_header, held_bytes}
use Rattle.calls.proofs.CallWords.{bytes_kept, error_ru, negative_confirmation_ru, error_marked}
use Rattle.calls.proofs.CallWords.{bytes_spilled, facts, Called, Station, Verb, called, taken, taken_expedited, refusal_in, count, is_pacing_response, is_request}
use Rattle.calls.proofs.CallWords.{among, requests_among}
use Rattle.header.specs.declared.Header.TheVariants.{Bid, ErrorDescription, Confirmation, NegativeConfirmation, PacingResponse}
use Rattle.pacing.specs.Pacing.{credit}
use Rattle.end.specs.Record.{credit_of, open_of}
use Rattle.calls.proofs.CallCases.{allocate_cases, bid_number, close_cases, confirmed_cases, pacing_response_cases, read_cases, send_cases, spilled_ru}
use Rattle.calls.proofs.CallCases.{send_error_cases, request_cases, expedited_cases, defer_cases, withdraw_cases, take_cases}
use Rattle.calls.proofs.UnitsByHeader.{sort_of, is_asking, pacing_taken, request_received_lem, requests_unit}
use Rattle.calls.specs.Laws.{CreditExact, is_send_pacing_response}
use Rattle.pacing.proofs.Windows.{request_costs, response_raises}

-- ---- the units made and the credit left

-- a request made costs 1, any other unit nothing
pub request_made_lem : (s : Station) (n : ℕ) (h : Header) (ru : List ℕ) → is_asking (sort_of h) ≡ true
    → record_good s.end ≡ true → has_credit s.end.sending.window ≡ true
    → requests_among (unit_of n h ru ∷ []) + credit (advanced s.end.sending.window) ≡ credit s.end.sending.window
request_made_lem s n h ru e g k =
    let w = s.end.sending.window in
    let q = requests_unit n h ru ∙ ap (λ (b : Bool). count b + 0) e in
    let c = request_costs w (facts s.end g).sending.window k in
    ap (λ (m : ℕ). m + credit (advanced w)) q ∙ (let z : 1 + 0 + credit (advanced w) ≡ credit w = omega (arith, c) in z)

pub other_made : (n c : ℕ) (h : Header) (ru : List ℕ) → is_asking (sort_of h) ≡ false → requests_among (unit_of n h ru ∷ []) + c ≡ c
other_made n c h ru e =
    let q = requests_unit n h ru ∙ ap (λ (b : Bool). count b + 0) e in
    ap (λ (m : ℕ). m + c) q ∙ (let z : 0 + 0 + c ≡ c = omega arith in z)

pub none_made : (c : ℕ) → requests_among [] + c ≡ c
unfolding among
none_made c = let z : 0 + c ≡ c = omega arith in z

pub data_asks : (s : Station) (ends : ChainEnd) → is_asking (sort_of (data_header s.end ends)) ≡ true
unfolding data_header
data_asks s ends = refl

-- a window that is added not at all, and once
as_was : (c z : ℕ) → c ≡ c + z * 0
as_was c z = omega arith

pub once : (c z : ℕ) → c + z ≡ c + z * 1
once c z = omega arith

-- ---- calls that the end answers by itself

module _ (s : Station) where
  abbrev Costs : Called → Type 0
  Costs m = requests_among m.sent + credit_of m.end.end ≡ credit_of s.end

  free : requests_among [] + credit_of s.end ≡ credit_of s.end
  free = none_made (credit_of s.end)

  request_costs_one : (v : Verb) → Costs (called s v)
  unfolding called bid_made bytes_kept bytes_spilled request_made bytes_read mark_read
  request_costs_one Verb.allocate =
      allocate_cases Costs s (λ q n. free) (λ g a w. free)
      (λ g a w k. request_made_lem s (bid_number s.end) (Bid (paced s.end.sending.window)) bid_ru refl g k)
  request_costs_one Verb.confirmed =
      confirmed_cases Costs s (λ q n. free) (λ g a. other_made s.end.owed (credit_of s.end) Confirmation [] refl)
  request_costs_one Verb.send_error =
      send_error_cases Costs s (λ q n. free) (λ g a. other_made s.end.owed (credit_of s.end) NegativeConfirmation negative_confirmation_ru refl)
  request_costs_one Verb.send_pacing_response = pacing_response_cases Costs s (λ q n. free) (λ g a. other_made 0 (credit_of s.end) PacingResponse [] refl)
  request_costs_one (Verb.send_data bytes) =
      send_cases Costs s bytes (λ q n. free) (λ a k. free)
      (λ a k h.
      request_made_lem s (next_number s.end.sending.number) (data_header s.end Continues) (spilled_ru s bytes) (data_asks s Continues) a.good h)
  request_costs_one (Verb.close f b) =
      let x = closing s.end f in
      close_cases Costs s f b (λ q n. free) (λ a n. free)
      (λ a n k. request_made_lem s (next_number s.end.sending.number) (ErrorDescription (paced s.end.sending.window)) error_ru refl a.good k)
      (λ a n k.
      request_made_lem s (next_number s.end.sending.number) (data_header s.end (Last x b)) (held_bytes s.end s.send)
      (data_asks s (Last x b)) a.good k)
  request_costs_one Verb.request_to_send = request_cases Costs s (λ q n. free) (λ a. free)
  request_costs_one (Verb.defer d) = defer_cases Costs s d (λ q n. free) (λ a. free)
  request_costs_one Verb.withdraw = withdraw_cases Costs s (λ q n. free) (λ g a. free)
  request_costs_one (Verb.receive buffer) = read_cases Costs s buffer (λ q w n. free) (λ a h. free) (λ a h m. free)

  -- open, and the window that it rises by
  abbrev Opens : Verb → Called → Type 0
  Opens v m = open_of m.end.end ≡ open_of s.end + s.end.receiving.window.size * count (eqb (refusal_in m.answer) 0 && is_send_pacing_response v)

  same : open_of s.end ≡ open_of s.end + s.end.receiving.window.size * 0
  same = as_was (open_of s.end) s.end.receiving.window.size

  pacing_response_opens : (v : Verb) → Opens v (called s v)
  unfolding called bid_made bytes_kept bytes_spilled request_made bytes_read mark_read
  pacing_response_opens Verb.allocate = allocate_cases (Opens Verb.allocate) s (λ q n. rw n same) (λ g a w. same) (λ g a w k. same)
  pacing_response_opens Verb.confirmed = confirmed_cases (Opens Verb.confirmed) s (λ q n. rw n same) (λ g a. same)
  pacing_response_opens Verb.request_to_send = request_cases (Opens Verb.request_to_send) s (λ q n. rw n same) (λ a. same)
  pacing_response_opens Verb.send_error = send_error_cases (Opens Verb.send_error) s (λ q n. rw n same) (λ g a. same)
  pacing_response_opens Verb.send_pacing_response =
      let w = s.end.receiving.window in
      pacing_response_cases (Opens Verb.send_pacing_response) s (λ q n. rw n same) (λ g a. response_raises w (left w.pending _ a) ∙ once (credit w) w.size)
  pacing_response_opens (Verb.send_data bytes) = send_cases (Opens (Verb.send_data bytes)) s bytes (λ q n. rw n same) (λ a k. same) (λ a k h. same)
  pacing_response_opens (Verb.close f b) = close_cases (Opens (Verb.close f b)) s f b (λ q n. rw n same) (λ a n. same) (λ a n k. same) (λ a n k. same)
  pacing_response_opens (Verb.defer d) = defer_cases (Opens (Verb.defer d)) s d (λ q n. rw n same) (λ a. same)
  pacing_response_opens Verb.withdraw = withdraw_cases (Opens Verb.withdraw) s (λ q n. rw n same) (λ g a. same)
  pacing_response_opens (Verb.receive buffer) = read_cases (Opens (Verb.receive buffer)) s buffer (λ q w n. rw n same) (λ a h. same) (λ a h m. same)

-- ---- takes

module _ (s : Station) (u : List ℕ) where
  -- what a take gives and costs, by whether the unit is a pacing response and whether it is a request
  abbrev Raises : Bool → Called → Type 0
  Raises b t = credit_of t.end.end ≡ credit_of s.end + s.end.sending.window.size * count (eqb (refusal_in t.answer) 0 && b)

  abbrev Lowers : Bool → Called → Type 0
  Lowers b t = open_of t.end.end + count (eqb (refusal_in t.answer) 0 && b) ≡ open_of s.end

  response_raises_window : Raises (is_pacing_response u) (taken s u)
  unfolding data_joined error_marked bid_answered credit_raised
  response_raises_window =
      let w = s.end.sending.window in
      let same = as_was (credit w) w.size in
      take_cases (Raises (is_pacing_response u)) s u (λ q x n. rw n same) (λ d a e k. rw (pacing_taken u a.header, e) same)
      (λ p a e k m. rw (pacing_taken u a.header, e) same) (λ p a e k m. rw (pacing_taken u a.header, e) same) (λ c a e m. rw (pacing_taken u a.header, e) same)
      (λ a e k. rw (pacing_taken u a.header, e) (response_raises w k ∙ once (credit w) w.size))

  request_lowers_one : Lowers (is_request u) (taken s u)
  unfolding data_joined error_marked bid_answered credit_raised request_received
  request_lowers_one =
      let w = s.end.receiving.window in
      let same : open_of s.end + 0 ≡ open_of s.end = omega arith in
      take_cases (Lowers (is_request u)) s u (λ q x n. rw n same)
      (λ d a e k. rw (request_received_lem u a.header, e) (request_costs w (facts s.end a.good).receiving.window k.request.credit))
      (λ p a e k m. rw (request_received_lem u a.header, e) (request_costs w (facts s.end a.good).receiving.window k.credit))
      (λ p a e k m. rw (request_received_lem u a.header, e) (request_costs w (facts s.end a.good).receiving.window k.credit))
      (λ c a e m. rw (request_received_lem u a.header, e) same) (λ a e k. rw (request_received_lem u a.header, e) same)

  -- on the expedited line neither moves
  unmoved : (credit_of (taken_expedited s u).end.end ≡ credit_of s.end) × (open_of (taken_expedited s u).end.end ≡ open_of s.end)
  unmoved =
      expedited_cases (λ (t : Called). (credit_of t.end.end ≡ credit_of s.end) × (open_of t.end.end ≡ open_of s.end)) s u
      (λ q w n. (refl, refl)) (λ a k. (refl, refl)) (λ a k. (refl, refl))

pub credit_exact : CreditExact
credit_exact =
    record {
      made = λ s v. request_costs_one s v;
      answered = λ s u. response_raises_window s u;
      received = λ s u. request_lowers_one s u;
      paced = λ s v. pacing_response_opens s v;
      expedited = λ s u. unmoved s u;
    }
