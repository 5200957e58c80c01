-- Every call makes units as announced; and an end that was told of an error header waits for it in Receive with no mark.
-- Assumes nothing.
use Rattle.joined.proofs.JoinedWords.{ℕ, Bool, true, false, not, cond, List, [], ◌∷◌, ◌++◌, ◌≡◌, refl, sym, ap, ◌∙◌, never, cases, left}
use Rattle.joined.proofs.JoinedWords.{Continues, Last, Follows, Header, fixed_ru, bid_ru, error_ru, negative_confirmation_ru, number_in, paced, next_number, unit_of}
use Rattle.joined.proofs.JoinedWords.{is_first_speaker, is_reset, is_receive, is_nothing, holds_send, may_send, Control, WhatReceived, State, sending_clear, sending_holds}
use Rattle.joined.proofs.JoinedWords.{closed, spilled, confirmation_made, confirmation_denied, error_made, data_received, error_received, deferred, withdrawn}
use Rattle.joined.proofs.JoinedWords.{negative_confirmation_received, request_made, bid_made, bytes_read, header_received, ru_received, data_joined, bid_answered}
use Rattle.joined.proofs.JoinedWords.{error_marked, credit_raised, data_header, held_bytes, bytes_kept, bytes_spilled, facts, closing}
use Rattle.joined.proofs.JoinedWords.{Station, Reply, Verb, allocate_cases, bid_number, close_cases, confirmed_cases, send_error_cases, request_cases}
use Rattle.joined.proofs.JoinedWords.{pacing_response_cases, read_cases, send_cases, defer_cases, withdraw_cases, spilled_ru, sort_of, is_asking}
use Rattle.joined.proofs.JoinedWords.{TakeAsked, Lane, normal, acts, takes, Acted, Took}
use Rattle.header.specs.declared.Header.TheVariants.{Data, Bid, ErrorDescription, PositiveBidResponse, NegativeBidResponse, Confirmation}
use Rattle.header.specs.declared.Header.TheVariants.{NegativeConfirmation, PacingResponse}
use Rattle.cells.specs.Equal.{same_bytes}
use Rattle.control.specs.Questions.{positive_response_fits}
use Rattle.control.specs.StateTests.{is_confirm_awaited}
use Rattle.control.specs.declared.State.TheVariants.{Reset, ConfirmOwed, ConfirmAwaited}
use Rattle.control.specs.declared.WhatReceived.TheVariants as mark
use Rattle.control.proofs.States.{state_is, holding_not_receive, in_defer_lem}
use Rattle.control.proofs.Within.{error_outside_send}
use Rattle.transitions.specs.Transitions.{allocated, after_mark, mark_answered, bid_received, positive_response_received, negative_response_received}
use Rattle.transitions.specs.Transitions.{confirmation_received}
use Rattle.answers.specs.FirstNo.{first_no}
use Rattle.answers.proofs.Rows.{yes}
use Rattle.end.specs.ReceiveUnit.{kind_questions}
use Rattle.calls.specs.UnitCounts.{is_negative_confirmation}
use Rattle.calls.proofs.CallCases.{kind_cases, took_kind}
use Rattle.calls.proofs.UnitsByHeader.{is_denial, request_received_lem, denial_received}
use Rattle.joined.specs.Denials.{announced_behind}
use Rattle.joined.proofs.CallsOnLanes.{Laned, LanedTake}
use Rattle.joined.proofs.Announced.{Tells, tells_none, tells_more, tells_past}

-- ---- units made

-- a mark that is read leaves error-due
mark_error : (c : Control) (m : WhatReceived) → (after_mark m c).error ≡ c.error
mark_error c mark.Nothing = refl
mark_error c mark.Turn = refl
mark_error c mark.End = refl
mark_error c mark.Confirm = refl
mark_error c mark.ConfirmTurn = refl
mark_error c mark.ConfirmEnd = refl
mark_error c mark.Error = refl

allocated_error : (c : Control) → (allocated c).error ≡ c.error
unfolding allocated
allocated_error c = cases (λ (k : Control). k.error ≡ c.error) (is_first_speaker c.role) (λ y. refl) (λ n. refl)

closed_error : (f : Follows) (confirm : Bool) (c : Control) → (closed f confirm c).error ≡ c.error
unfolding closed
closed_error f true c = refl
closed_error f false c = refl

bid_error : (c : Control) → (bid_received c).error ≡ c.error
unfolding bid_received
bid_error c = cases (λ (k : Control). k.error ≡ c.error) (is_reset c.state) (λ y. refl) (λ n. refl)

module _ (s : Station) (us : List (List ℕ)) (t : Tells s.end.control.error us) where
  abbrev After : Acted Lane Station Reply (List ℕ) → Type 0
  After m = Tells m.end.end.control.error (us ++ m.sent normal)

  with_error : (b : Bool) → b ≡ s.end.control.error → Tells b us
  with_error b e = rw e t

  pub tells_acts : (v : Verb) → After (acts s v)
  unfolding acts bytes_kept bytes_spilled spilled bytes_read bid_made request_made confirmation_made confirmation_denied error_made closed deferred withdrawn mark_answered data_header same_bytes
  tells_acts Verb.allocate =
      let c = s.end.control in
      allocate_cases (Laned After) s (λ q n. tells_none t) (λ g a w. tells_none (with_error _ (allocated_error c)))
      (λ g a w k.
      let off = error_outside_send c (facts s.end g).control (rw ((state_is c.state).0 (left (is_reset c.state) _ a))) in
      tells_more t (bid_number s.end) (Bid (paced s.end.sending.window)) bid_ru _ (λ r. sym off) (allocated_error c ∙ off))
  tells_acts Verb.confirmed = confirmed_cases (Laned After) s (λ q n. tells_none t) (λ g a. tells_past t s.end.owed Confirmation [] refl refl)
  tells_acts Verb.send_error =
      send_error_cases (Laned After) s (λ q n. tells_none t)
      (λ g a. tells_more t s.end.owed NegativeConfirmation negative_confirmation_ru true (λ r. never r) refl)
  tells_acts Verb.request_to_send = request_cases (Laned After) s (λ q n. tells_none t) (λ a. tells_none t)
  tells_acts Verb.send_pacing_response =
      pacing_response_cases (Laned After) s (λ q n. tells_none t) (λ g a. tells_past t 0 PacingResponse [] refl refl)
  tells_acts (Verb.send_data bytes) =
      let off : may_send s.end.control ≡ true → s.end.control.error ≡ false = λ a. (sending_clear s.end.control a).1 in
      send_cases (Laned After) s bytes (λ q n. tells_none t) (λ a k. tells_none t)
      (λ a k h.
      tells_more t (next_number s.end.sending.number) (data_header s.end Continues) (spilled_ru s bytes) _ (λ r. sym (off a.sending)) (off a.sending))
  tells_acts (Verb.close f c) =
      let n = next_number s.end.sending.number in
      close_cases (Laned After) s f c (λ q n. tells_none t) (λ a n. tells_none t)
      (λ a y k. tells_more t n (ErrorDescription (paced s.end.sending.window)) error_ru false (λ r. sym y) refl)
      (λ a y k. tells_more t n (data_header s.end (Last (closing s.end f) c)) (held_bytes s.end s.send) _ (λ r. sym y.clear)
      (closed_error (closing s.end f) c s.end.control ∙ y.clear))
  tells_acts (Verb.defer d) = defer_cases (Laned After) s d (λ q n. tells_none t) (λ a. tells_none t)
  tells_acts Verb.withdraw = withdraw_cases (Laned After) s (λ q n. tells_none t) (λ g a. tells_none t)
  tells_acts (Verb.receive buffer) =
      read_cases (Laned After) s buffer (λ q w n. tells_none t) (λ a h. tells_none t)
      (λ a h m. tells_none (with_error _ (mark_error s.end.control s.end.control.mark)))

  -- a take at this end: only a bid has it make a unit, which is a response
  abbrev Left : Took Lane Station Reply (List ℕ) → Type 0
  Left m = Tells m.end.end.control.error (us ++ m.sent normal)

  pub tells_takes : (u : List ℕ) → Left (takes normal s u)
  unfolding takes data_joined error_marked bid_answered credit_raised data_received error_received positive_response_received negative_response_received confirmation_received negative_confirmation_received
  tells_takes u = kind_cases (LanedTake Left) s u (λ q w n. tells_none t) (λ a k. by (header_received u))
    where
      by : (h : Header) → LanedTake Left (took_kind s h (number_in u) (ru_received u))
      by (Data d) = tells_none t
      by (Bid b) =
          let c = s.end.control in
          cases (λ (h : Header). Tells (bid_received c).error (us ++ (unit_of (number_in u) h (fixed_ru h) ∷ []))) (is_reset c.state)
          (λ y. tells_past (with_error _ (bid_error c)) (number_in u) PositiveBidResponse (fixed_ru PositiveBidResponse) refl refl)
          (λ n. tells_past (with_error _ (bid_error c)) (number_in u) NegativeBidResponse (fixed_ru NegativeBidResponse) refl refl)
      by (ErrorDescription b) = tells_none t
      by PositiveBidResponse = tells_none t
      by NegativeBidResponse = tells_none t
      by Confirmation = tells_none t
      by NegativeConfirmation = tells_none t
      by PacingResponse = tells_none t

-- ---- an end that waits for an error header

-- if it is announced, the end is in Receive and has no mark
abbrev pub Awaits : Bool → Control → Type 0
Awaits x c = x ≡ true → (is_receive c.state ≡ true) × (is_nothing c.mark ≡ true)

module _ (s : Station) (x : Bool) (w : Awaits x s.end.control) where
  abbrev Stays : Acted Lane Station Reply (List ℕ) → Type 0
  Stays m = Awaits x m.end.end.control

  -- a state other than Receive
  not_here : {X : Type 0} (k : State) → s.end.control.state ≡ k → is_receive k ≡ false → x ≡ true → X
  not_here k e n y = never (sym n ∙ sym (ap is_receive e) ∙ (w y).0)

  not_sending : {X : Type 0} → holds_send s.end.control.state ≡ true → x ≡ true → X
  not_sending h y = never (sym (holding_not_receive s.end.control.state h) ∙ (w y).0)

  sends : may_send s.end.control ≡ true → holds_send s.end.control.state ≡ true
  sends a = sending_holds s.end.control.state (sending_clear s.end.control a).0

  pub awaits_acts : (v : Verb) → Stays (acts s v)
  unfolding acts bytes_read
  awaits_acts Verb.allocate =
      let c = s.end.control in
      allocate_cases (Laned Stays) s (λ q n. w) (λ g a k y. not_here Reset ((state_is c.state).0 (left (is_reset c.state) _ a)) refl y)
      (λ g a k h y. not_here Reset ((state_is c.state).0 (left (is_reset c.state) _ a)) refl y)
  awaits_acts Verb.confirmed =
      confirmed_cases (Laned Stays) s (λ q n. w) (λ g a y. not_here ConfirmOwed ((state_is s.end.control.state).2 a) refl y)
  awaits_acts Verb.send_error =
      send_error_cases (Laned Stays) s (λ q n. w) (λ g a y. not_here ConfirmOwed ((state_is s.end.control.state).2 a) refl y)
  awaits_acts Verb.request_to_send = request_cases (Laned Stays) s (λ q n. w) (λ a. w)
  awaits_acts Verb.send_pacing_response = pacing_response_cases (Laned Stays) s (λ q n. w) (λ g a. w)
  awaits_acts (Verb.send_data bytes) =
      send_cases (Laned Stays) s bytes (λ q n. w) (λ a k y. not_sending (sends a.sending) y) (λ a k h y. not_sending (sends a.sending) y)
  awaits_acts (Verb.close f c) =
      close_cases (Laned Stays) s f c (λ q n. w) (λ a n. w) (λ a e k y. not_sending a.holding y) (λ a e k y. not_sending a.holding y)
  awaits_acts (Verb.defer d) =
      defer_cases (Laned Stays) s d (λ q n. w) (λ a y. not_sending (sends a.sending) y)
  awaits_acts Verb.withdraw = withdraw_cases (Laned Stays) s (λ q n. w) (λ g a y. not_sending (in_defer_lem s.end.control.state a).holds y)
  awaits_acts (Verb.receive buffer) =
      read_cases (Laned Stays) s buffer (λ q k n. w) (λ a h. w) (λ a h m y. never (sym (ap not (w y).1) ∙ m))

  -- what is announced behind a unit that is taken
  abbrev Leaves : List ℕ → Took Lane Station Reply (List ℕ) → Type 0
  Leaves u t = Awaits (cond t.removed (announced_behind x u) x) t.end.end.control

  -- behind a unit of the kind h
  abbrev behind : Header → Bool
  behind h = cond (is_asking (sort_of h)) false (cond (is_denial h) true x)

  behind_is : (u : List ℕ) (h : Header) → header_received u ≡ h → TakeAsked s u → announced_behind x u ≡ behind h
  behind_is u h e a =
      ap (λ (b : Bool). cond b false (cond (is_negative_confirmation u) true x)) (request_received_lem u a.header)
      ∙ ap (λ (b : Bool). cond (is_asking (sort_of (header_received u))) false (cond b true x)) (denial_received u a.header)
      ∙ ap behind e

  pub awaits_takes : (u : List ℕ) → Leaves u (takes normal s u)
  unfolding takes data_joined error_marked bid_answered credit_raised negative_response_received negative_confirmation_received
  awaits_takes u = kind_cases (LanedTake (Leaves u)) s u (λ q k n. rw n w) (λ a k. by (header_received u) refl a k)
    where
      by : (h : Header) → header_received u ≡ h → TakeAsked s u → first_no (kind_questions s.end h (number_in u) (ru_received u)) ≡ 0
          → LanedTake (Leaves u) (took_kind s h (number_in u) (ru_received u))
      by (Data d) e a k y = never (sym (behind_is u (Data d) e a) ∙ y)
      by (Bid b) e a k y = never (sym (behind_is u (Bid b) e a) ∙ y)
      by (ErrorDescription b) e a k y = never (sym (behind_is u (ErrorDescription b) e a) ∙ y)
      by PositiveBidResponse e a k y =
          let c = s.end.control in
          let f = yes (kind_questions s.end PositiveBidResponse (number_in u) (ru_received u)) tt k 1 in
          not_here Reset ((state_is c.state).0 (left (is_reset c.state) c.bid (left (positive_response_fits c) _ f))) refl
          (sym (behind_is u PositiveBidResponse e a) ∙ y)
      by NegativeBidResponse e a k y = w (sym (behind_is u NegativeBidResponse e a) ∙ y)
      by Confirmation e a k y =
          let c = s.end.control in
          let f = yes (kind_questions s.end Confirmation (number_in u) (ru_received u)) tt k 1 in
          not_here ConfirmAwaited ((state_is c.state).3 (left (is_confirm_awaited c.state) _ f)) refl (sym (behind_is u Confirmation e a) ∙ y)
      by NegativeConfirmation e a k y = (refl, a.unmarked)
      by PacingResponse e a k y = w (sym (behind_is u PacingResponse e a) ∙ y)
