-- A refused call gives the number of its first question answered no, changes nothing and makes no unit; an accepted call's record was within the section
-- 'The end's record'.
-- Assumes nothing.
use Rattle.calls.proofs.CallWords.{ℕ, eqb-true, ne_eqb, eqb, length, Bool, true, false, cond, not, ◌&&◌, ◌||◌, List, [], ◌∷◌, ◌≡◌, refl, sym, ap, ◌∙◌}
use Rattle.calls.proofs.CallWords.{cases, join, left, right, number_in, is_first_speaker, allocated, accepted, refused, refused_naming, first_no, keeps}
use Rattle.calls.proofs.CallWords.{bid_made, allocate_refusal, allocate_decision, allocate, last_made, nothing_goes, closing, close_refusal, close_decision}
use Rattle.calls.proofs.CallWords.{close}
use Rattle.calls.proofs.CallWords.{defer_refusal, defer_decision, defer, withdraw_refusal, withdraw_decision, withdraw, send_error, send_error_decision}
use Rattle.calls.proofs.CallWords.{confirmed_refusal, confirmed_decision, confirmed, with_control, Decision, decided, send_pacing_response_refusal}
use Rattle.calls.proofs.CallWords.{send_pacing_response_decision, send_pacing_response, bytes_read, some_held, receive_refusal, mark_read, receive_decision}
use Rattle.calls.proofs.CallWords.{receive, rule_named, ru_received, header_received, receive_unit_refusal, receive_unit_decision, receive_unit, record_good}
use Rattle.calls.proofs.CallWords.{bytes_kept}
use Rattle.calls.proofs.CallWords.{bytes_spilled, send_refusal, send_decision, send_data, End, Done, ReadAnswer, Called, Station, Verb, called, taken, taken_expedited, refusal_in}
use Rattle.calls.proofs.CallWords.{rule_taken, request_refusal, request_decision, request_to_send, receive_expedited_refusal, receive_expedited_decision, receive_expedited}
use Rattle.end.specs.ReceiveExpedited.{receive_expedited_questions}
use Rattle.answers.specs.declared.Answer.{Answer}
use Rattle.end.specs.Outcome.{nothing, length_out, accept, answer_of}
use mathlib.Core.Bool.{true≢false as never}
use Rattle.bools.proofs.Tests.{off}
use Rattle.calls.proofs.CallCases.{allocate_cases, close_cases, confirmed_cases, pacing_response_cases, read_cases, send_cases, kind_cases, take_cases}
use Rattle.calls.proofs.CallCases.{send_error_cases, request_cases, expedited_cases, defer_cases, withdraw_cases, kind_accepted, passes}
use Rattle.calls.specs.Laws.{Refusals, questions, receive_unit_questions}

-- an accepted call was not refused, and a refused one not accepted
yes : {X : Type 0} → true ≡ false → X
yes e = absurd (never e)

no : {X : Type 0} (b : Bool) → b ≡ false → b ≡ true → X
no b n h = absurd (never (sym h ∙ n))

-- ---- the number

-- the number of a decision is that of the first question answered no, whatever else a refusal says
module _ (says : ℕ → Answer) (law : (q : ℕ) → (says q).refusal ≡ q) where
  abbrev answer : Decision → Answer
  answer d = cond (eqb d.refusal 0) (accepted (length_out d.out)) (says d.refusal)

  number_of : (q : ℕ) (e : End) (d : Decision) → d.refusal ≡ 0 → (answer (decided q e d)).refusal ≡ q
  number_of q e d z =
      cases (λ (x : Decision). (answer x).refusal ≡ q) (eqb q 0)
      (λ y.
      let o = sym (eqb-true q 0 y) in
      cases (λ (a : Answer). a.refusal ≡ q) (eqb d.refusal 0) (λ x. o) (λ x. law d.refusal ∙ z ∙ o))
      (λ n. cases (λ (a : Answer). a.refusal ≡ q) (eqb q 0) (λ y. sym (eqb-true q 0 y)) (λ y. law q))

both_accepted : (b : Bool) (x y : Decision) → x.refusal ≡ 0 → y.refusal ≡ 0 → (cond b x y).refusal ≡ 0
both_accepted b x y e f = cases (λ (d : Decision). d.refusal ≡ 0) b (λ z. e) (λ z. f)

decided_number : (q : ℕ) (e : End) (d : Decision) → d.refusal ≡ 0 → (answer_of (decided q e d)).refusal ≡ q
decided_number q e d z = number_of refused (λ n. refl) q e d z

pub number_is : (s : Station) (v : Verb) → refusal_in (called s v).answer ≡ first_no (questions s v)
unfolding defer defer_decision defer_refusal withdraw withdraw_decision withdraw_refusal called allocate allocate_decision allocate_refusal bid_made send_data send_decision send_refusal bytes_kept bytes_spilled close close_decision close_refusal last_made confirmed confirmed_decision confirmed_refusal send_error send_error_decision request_to_send request_decision request_refusal send_pacing_response send_pacing_response_decision send_pacing_response_refusal receive receive_decision receive_refusal bytes_read mark_read
number_is s Verb.allocate =
    decided_number _ s.end _
    (both_accepted (is_first_speaker s.end.control.role) (accept (with_control (allocated s.end.control) s.end) nothing) (bid_made s.end) refl refl)
number_is s Verb.confirmed = decided_number _ s.end _ refl
number_is s Verb.send_error = decided_number _ s.end _ refl
number_is s Verb.request_to_send = decided_number _ s.end _ refl
number_is s Verb.send_pacing_response = decided_number _ s.end _ refl
number_is s (Verb.defer d) = decided_number _ s.end _ refl
number_is s Verb.withdraw = decided_number _ s.end _ refl
number_is s (Verb.send_data bytes) =
    decided_number _ s.end _
    (both_accepted (keeps s.end.sending (length bytes)) (bytes_kept s.end bytes) (bytes_spilled s.end bytes s.send) refl refl)
number_is s (Verb.close f b) =
    let x = closing s.end f in
    decided_number _ s.end _ (both_accepted (nothing_goes s.end x b) (accept s.end nothing) (last_made s.end x b s.send) refl refl)
number_is s (Verb.receive buffer) =
    let q : ℕ = receive_refusal s.end s.inbox (length buffer) in
    cases (λ (d : Done ReadAnswer). d.answer.answer.refusal ≡ q) (eqb q 0)
    (λ y. cases (λ (d : Done ReadAnswer). d.answer.answer.refusal ≡ q) (some_held s.end) (λ h. sym (eqb-true q 0 y)) (λ h. sym (eqb-true q 0 y)))
    (λ n. refl)

pub take_number_is : (s : Station) (u : List ℕ) → refusal_in (taken s u).answer ≡ first_no (receive_unit_questions s u)
unfolding taken receive_unit receive_unit_decision receive_unit_refusal
take_number_is s u =
    number_of (refused_naming (rule_named u)) (λ q. refl) _ s.end _ (kind_accepted s.end (header_received u) (number_in u) (ru_received u)).0

pub expedited_number_is : (s : Station) (u : List ℕ)
    → refusal_in (taken_expedited s u).answer ≡ first_no (receive_expedited_questions s.end u (length s.unit))
unfolding taken_expedited receive_expedited receive_expedited_decision receive_expedited_refusal
expedited_number_is s u = number_of (refused_naming (rule_taken u)) (λ q. refl) _ s.end _ refl

-- ---- 5 is no number of a call whose record is within the section

pub not_first : (qs : List (Bool × ℕ)) (k : ℕ) → eqb 0 k ≡ false → passes k qs ≡ true → eqb (first_no qs) k ≡ false
not_first [] k z p = z
not_first (q ∷ qs) k z p =
    cases (λ (n : ℕ). eqb n k ≡ false) q.0
    (λ y. not_first qs k z (right (not (eqb q.1 k) || q.0) (passes k qs) p))
    (λ n. off (eqb q.1 k) q.0 (left (not (eqb q.1 k) || q.0) (passes k qs) p) n)

module _ (s : Station) (g : record_good s.end ≡ true) where
  asked_5 : (v : Verb) → passes 5 (questions s v) ≡ true
  asked_5 Verb.allocate = ap (λ (b : Bool). b && true) g
  asked_5 Verb.confirmed = ap (λ (b : Bool). b && true) g
  asked_5 Verb.send_error = ap (λ (b : Bool). b && true) g
  asked_5 Verb.request_to_send = ap (λ (b : Bool). b && true) g
  asked_5 Verb.send_pacing_response = ap (λ (b : Bool). b && true) g
  asked_5 Verb.withdraw = ap (λ (b : Bool). b && true) g
  asked_5 (Verb.defer d) = ap (λ (b : Bool). b && true) g
  asked_5 (Verb.send_data bytes) = ap (λ (b : Bool). b && true) g
  asked_5 (Verb.close f b) = ap (λ (b : Bool). b && true) g
  asked_5 (Verb.receive buffer) = ap (λ (b : Bool). b && true) g

  pub never_5 : (v : Verb) → eqb (refusal_in (called s v).answer) 5 ≡ false
  never_5 v = ap (λ (q : ℕ). eqb q 5) (number_is s v) ∙ not_first (questions s v) 5 refl (asked_5 v)

  pub take_never_5 : (u : List ℕ) → eqb (refusal_in (taken s u).answer) 5 ≡ false
  take_never_5 u =
      ap (λ (q : ℕ). eqb q 5) (take_number_is s u)
      ∙ not_first (receive_unit_questions s u) 5 refl (join (record_good s.end) _ g (kind_accepted s.end (header_received u) (number_in u) (ru_received u)).1)

  pub expedited_never_5 : (u : List ℕ) → eqb (refusal_in (taken_expedited s u).answer) 5 ≡ false
  expedited_never_5 u =
      ap (λ (q : ℕ). eqb q 5) (expedited_number_is s u)
      ∙ not_first (receive_expedited_questions s.end u (length s.unit)) 5 refl (ap (λ (b : Bool). b && true) g)

-- ---- calls that the end answers by itself

module _ (s : Station) where
  -- neither the record nor a lent cell is changed, and no unit is made
  abbrev Nothing : Called → Type 0
  Nothing m = eqb (refusal_in m.answer) 0 ≡ false → (m.end ≡ s) × (m.sent ≡ []) × (m.expedited ≡ [])

  pub refused_nothing : (v : Verb) → eqb (refusal_in (called s v).answer) 0 ≡ false
      → ((called s v).end ≡ s) × ((called s v).sent ≡ []) × ((called s v).expedited ≡ [])
  unfolding called bytes_read mark_read
  refused_nothing Verb.allocate = allocate_cases Nothing s (λ q n h. (refl, refl, refl)) (λ g a w h. yes h) (λ g a w k h. yes h)
  refused_nothing Verb.confirmed = confirmed_cases Nothing s (λ q n h. (refl, refl, refl)) (λ g a h. yes h)
  refused_nothing Verb.send_error = send_error_cases Nothing s (λ q n h. (refl, refl, refl)) (λ g a h. yes h)
  refused_nothing Verb.request_to_send = request_cases Nothing s (λ q n h. (refl, refl, refl)) (λ a h. yes h)
  refused_nothing Verb.send_pacing_response = pacing_response_cases Nothing s (λ q n h. (refl, refl, refl)) (λ g a h. yes h)
  refused_nothing (Verb.send_data bytes) = send_cases Nothing s bytes (λ q n h. (refl, refl, refl)) (λ a k h. yes h) (λ a k c h. yes h)
  refused_nothing (Verb.close f b) = close_cases Nothing s f b (λ q n h. (refl, refl, refl)) (λ a n h. yes h) (λ a n k h. yes h) (λ a n k h. yes h)
  refused_nothing (Verb.defer d) = defer_cases Nothing s d (λ q n h. (refl, refl, refl)) (λ a h. yes h)
  refused_nothing Verb.withdraw = withdraw_cases Nothing s (λ q n h. (refl, refl, refl)) (λ g a h. yes h)
  refused_nothing (Verb.receive buffer) = read_cases Nothing s buffer (λ q w n h. (refl, refl, refl)) (λ a k h. yes h) (λ a k m h. yes h)

  -- a refused read leaves the caller's buffer as it was
  pub refused_buffer : (buffer : List ℕ) → eqb (refusal_in (called s (Verb.receive buffer)).answer) 0 ≡ false
      → (called s (Verb.receive buffer)).answer.buffer ≡ buffer
  unfolding bytes_read mark_read
  refused_buffer buffer =
      read_cases (λ (m : Called). eqb (refusal_in m.answer) 0 ≡ false → m.answer.buffer ≡ buffer) s buffer
      (λ q w n h. refl) (λ a k h. yes h) (λ a k m h. yes h)

  abbrev Asked : Called → Type 0
  Asked m = eqb (refusal_in m.answer) 0 ≡ true → record_good s.end ≡ true

  pub accepted_good : (v : Verb) → eqb (refusal_in (called s v).answer) 0 ≡ true → record_good s.end ≡ true
  unfolding called bytes_read mark_read
  accepted_good Verb.allocate = allocate_cases Asked s (λ q n h. no (eqb q 0) n h) (λ g a w h. g) (λ g a w k h. g)
  accepted_good Verb.confirmed = confirmed_cases Asked s (λ q n h. no (eqb q 0) n h) (λ g a h. g)
  accepted_good Verb.send_error = send_error_cases Asked s (λ q n h. no (eqb q 0) n h) (λ g a h. g)
  accepted_good Verb.request_to_send = request_cases Asked s (λ q n h. no (eqb q 0) n h) (λ a h. a.good)
  accepted_good Verb.send_pacing_response = pacing_response_cases Asked s (λ q n h. no (eqb q 0) n h) (λ g a h. g)
  accepted_good (Verb.send_data bytes) = send_cases Asked s bytes (λ q n h. no (eqb q 0) n h) (λ a k h. a.good) (λ a k c h. a.good)
  accepted_good (Verb.close f b) = close_cases Asked s f b (λ q n h. no (eqb q 0) n h) (λ a n h. a.good) (λ a n k h. a.good) (λ a n k h. a.good)
  accepted_good (Verb.defer d) = defer_cases Asked s d (λ q n h. no (eqb q 0) n h) (λ a h. a.good)
  accepted_good Verb.withdraw = withdraw_cases Asked s (λ q n h. no (eqb q 0) n h) (λ g a h. g)
  accepted_good (Verb.receive buffer) = read_cases Asked s buffer (λ q w n h. no (eqb q 0) n h) (λ a k h. a.good) (λ a k m h. a.good)

-- ---- takes

module _ (s : Station) (u : List ℕ) where
  -- a refused take changes nothing, makes no unit, and leaves the unit on its line
  pub refused_take_nothing : eqb (refusal_in (taken s u).answer) 0 ≡ false
      → ((taken s u).end ≡ s) × ((taken s u).sent ≡ []) × ((taken s u).expedited ≡ [])
  refused_take_nothing =
      take_cases (Nothing s) s u (λ q w n h. (refl, refl, refl)) (λ d a e k h. yes h) (λ p a e k m h. yes h) (λ p a e k m h. yes h) (λ c a e m h. yes h)
      (λ a e k h. yes h)

  pub accepted_take_good : eqb (refusal_in (taken s u).answer) 0 ≡ true → record_good s.end ≡ true
  accepted_take_good =
      kind_cases (λ (t : Called). eqb (refusal_in t.answer) 0 ≡ true → record_good s.end ≡ true) s u
      (λ q w n h. no (eqb q 0) n h) (λ a k h. a.good)

  -- on the expedited line too, and then the program is told nothing
  abbrev Untold : Called → Type 0
  Untold t = eqb (refusal_in t.answer) 0 ≡ false → (t.end ≡ s) × (t.sent ≡ []) × (t.expedited ≡ []) × (t.answer.signalled ≡ false)

  pub refused_expedited_nothing : Untold (taken_expedited s u)
  refused_expedited_nothing = expedited_cases Untold s u (λ q w n h. (refl, refl, refl, refl)) (λ a k h. yes h) (λ a k h. yes h)

  pub accepted_expedited_good : eqb (refusal_in (taken_expedited s u).answer) 0 ≡ true → record_good s.end ≡ true
  accepted_expedited_good =
      expedited_cases (λ (t : Called). eqb (refusal_in t.answer) 0 ≡ true → record_good s.end ≡ true) s u
      (λ q w n h. no (eqb q 0) n h) (λ a k h. a.good) (λ a k h. a.good)

pub refusals : Refusals
refusals =
    record {
      number = λ s v. number_is s v;
      number_of_take = λ s u. take_number_is s u;
      number_of_expedited_take = λ s u. expedited_number_is s u;
      changes_nothing = λ s v n. refused_nothing s v (ne_eqb _ 0 n);
      leaves_buffer = λ s buffer n. refused_buffer s buffer (ne_eqb _ 0 n);
      takes_nothing = λ s u n. refused_take_nothing s u (ne_eqb _ 0 n);
      takes_nothing_expedited = λ s u n. refused_expedited_nothing s u (ne_eqb _ 0 n);
    }
