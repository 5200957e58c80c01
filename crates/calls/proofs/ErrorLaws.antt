-- The laws of an error that is due.
-- Assumes nothing.
use Rattle.calls.proofs.CallWords.{eqb, length, Bool, true, false, not, ◌&&◌, ◌||◌, [], ◌∷◌, ◌≡◌, refl, sym, ap, ◌∙◌, left, confirmation_denied}
use Rattle.calls.proofs.CallWords.{error_made, error_ru, negative_confirmation_ru, unit_of, next_number, paced, has_credit, is_send, holds_send, close_refusal, closing}
use Rattle.calls.proofs.CallWords.{record_good, facts, Called, Station, Verb, refusal_in, called, first_no}
use lib.Dec.{T, leb}
use borrow.Author.Tests.{eqb-false}
use mathlib.Core.Bool.{and-false}
use Rattle.bools.proofs.Cases.{never}
use Rattle.bools.proofs.Tests.{off}
use Rattle.unit.specs.Ru.{marks}
use Rattle.header.specs.declared.ChainEnd.TheVariants.{Last}
use Rattle.header.specs.declared.Follows.TheVariants.{Stay, ChangeDirection, EndBracket}
use Rattle.header.specs.declared.Header.TheVariants.{ErrorDescription, NegativeConfirmation}
use Rattle.control.specs.declared.State.TheVariants.{Send}
use Rattle.control.proofs.States.{send_is}
use Rattle.control.proofs.Within.{error_in_send_lem}
use Rattle.answers.proofs.Rows.{numbered}
use Rattle.end.specs.Record.{send_lent, unit_lent}
use Rattle.calls.specs.Calls.{flush}
use Rattle.calls.specs.Laws.{questions}
use Rattle.calls.specs.DeferLaws.{before_state}
use Rattle.calls.specs.ErrorLaws.{ErrorDue, waits_for_error, Denying}
use Rattle.calls.proofs.CallCases.{send_error_cases, close_cases}
use Rattle.calls.proofs.RecordStaysGood.{none_held}
use Rattle.calls.proofs.Prepared.{stops_at7, stops_at_7, lent_and_credit, four_or_ten}
use Rattle.calls.proofs.Refusals.{number_is}

-- ---- send error

abbrev Denied : Station → Called → Type 0
Denied s m =
    (m.sent ≡ unit_of s.end.owed NegativeConfirmation negative_confirmation_ru ∷ []) × (m.end.end.control.state ≡ Send) × ErrorDue m.end

denied_is : (s : Station) → refusal_in (called s Verb.send_error).answer ≡ 0 → Denied s (called s Verb.send_error)
unfolding confirmation_denied
denied_is s = send_error_cases (λ (m : Called). refusal_in m.answer ≡ 0 → Denied s m) s (λ q n h. absurd (eqb-false q 0 n h)) (λ g a h. (refl, refl, refl))

-- ---- flush

module _ (s : Station) (y : ErrorDue s) where
  in_send_lem : record_good s.end ≡ true → s.end.control.state ≡ Send
  in_send_lem g = send_is s.end.control.state (error_in_send_lem s.end.control (facts s.end g).control y).0

  -- no byte is held, and so no chain is open
  pub closed_chain : record_good s.end ≡ true → s.end.control.outchain ≡ false
  closed_chain g =
      let c = s.end.control in
      let held = s.end.sending.held in
      off c.outchain (leb 1 held) (left (not c.outchain || leb 1 held) _ (facts s.end g).fits) (ap (leb 1) (none_held s g y))

  abbrev Flushed : Called → Type 0
  Flushed m =
      (m.sent ≡ unit_of (next_number s.end.sending.number) (ErrorDescription (paced s.end.sending.window)) error_ru ∷ [])
      × (m.end.end.control.state ≡ Send) × (m.end.end.control.error ≡ false) × (m.end.end.control.outchain ≡ false)

  goes_nothing : (f : Bool) → f && (eqb s.end.sending.held 0 && not s.end.control.error) ≡ false
  goes_nothing f = rw (y, and-false (eqb s.end.sending.held 0), and-false f)

  flushed_is : refusal_in (called s flush).answer ≡ 0 → Flushed (called s flush)
  unfolding error_made
  flushed_is =
      close_cases (λ (m : Called). refusal_in m.answer ≡ 0 → Flushed m) s Stay false (λ q n h. absurd (eqb-false q 0 n h))
      (λ a n h. never (sym (goes_nothing (not (marks (Last (closing s.end Stay) false)))) ∙ n))
      (λ a e k h. (refl, in_send_lem a.good, refl, closed_chain a.good))
      (λ a e k h. never (sym e.clear ∙ y))

  flush_number : record_good s.end ≡ true → close_refusal s.end Stay false (length s.send) (length s.unit) ≡ lent_and_credit s.end (length s.send) (length s.unit)
  unfolding close_refusal
  flush_number g = rw (g, in_send_lem g, y, and-false (eqb s.end.sending.held 0))

  refused_is : record_good s.end ≡ true → (refusal_in (called s flush).answer ≡ 0 → ⊥)
      → eqb (refusal_in (called s flush).answer) 4 || eqb (refusal_in (called s flush).answer) 10 ≡ true
  unfolding close_refusal
  refused_is g n =
      let e = s.end in
      let k = number_is s flush ∙ flush_number g in
      rw k (four_or_ten (send_lent e (length s.send) && unit_lent e (length s.unit)) (has_credit e.sending.window) (λ z. n (k ∙ z)))

  -- ---- what waits

  may_not_send : is_send s.end.control.state && not s.end.control.error ≡ false
  may_not_send = rw y (and-false (is_send s.end.control.state))

  stops : (v : Verb) → waits_for_error v ≡ true → T (numbered (questions s v)) × (stops_at7 (questions s v) ≡ true)
  stops Verb.allocate w = never w
  stops Verb.confirmed w = never w
  stops Verb.send_error w = never w
  stops Verb.request_to_send w = never w
  stops Verb.send_pacing_response w = never w
  stops Verb.withdraw w = never w
  stops (Verb.send_data bytes) w = (tt, rw may_not_send)
  stops (Verb.close Stay true) w = (tt, rw (y, and-false (holds_send s.end.control.state)))
  stops (Verb.close Stay false) w = never w
  stops (Verb.close ChangeDirection b) w = (tt, rw may_not_send)
  stops (Verb.close EndBracket b) w = (tt, rw may_not_send)
  stops (Verb.defer d) w = (tt, rw may_not_send)
  stops (Verb.receive buffer) w = never w

  waits_7 : (v : Verb) → waits_for_error v ≡ true → first_no (before_state (questions s v)) ≡ 0 → refusal_in (called s v).answer ≡ 7
  waits_7 v w z = let p = stops v w in number_is s v ∙ stops_at_7 (questions s v) p.0 z p.1

pub denying : Denying
denying =
    record {
      denied = denied_is;
      flushed = λ s y h. flushed_is s y h;
      refused = λ s y g n. refused_is s y g n;
      only = λ s v y w z. waits_7 s y v w z;
    }
