-- A turn or an end that is prepared, then withdrawn or carried out; and what is allowed in Defer.
-- Assumes nothing.
use Rattle.calls.proofs.CallWords.{ℕ, eqb-true, ne_eqb, eqb, length, Bool, true, false, cond, not, ◌&&◌, ◌||◌, List, [], ◌∷◌, ◌≡◌, refl, sym, ap, ◌∙◌}
use Rattle.calls.proofs.CallWords.{Follows, Last, has_credit, may_withdraw, Deferred, closed, deferred, withdrawn}
use Rattle.calls.proofs.CallWords.{first_no, request_made, last_made, closing, close_refusal, close_decision, close, withdraw_refusal, withdraw_decision}
use Rattle.calls.proofs.CallWords.{withdraw, with_control}
use Rattle.calls.proofs.CallWords.{decided, Decision, number_in, ru_received, header_received, record_good, data_header, facts, End, Called, Station, Verb, called}
use Rattle.calls.proofs.CallWords.{taken, refusal_in}
use lib.Dec.{T, ltb}
use borrow.Author.Tests.{eqb-false}
use mathlib.Core.Bool.{or-true, and-false}
use Rattle.bools.proofs.Cases.{never, split}
use Rattle.bools.proofs.Tests.{both, both_tt, not_true}
use Rattle.logical_record.specs.Positions.{is_whole}
use Rattle.unit.specs.Ru.{marks}
use Rattle.header.specs.declared.Follows.TheVariants.{Stay, ChangeDirection, EndBracket}
use Rattle.control.specs.Questions.{may_close}
use Rattle.control.specs.StateTests.{is_defer}
use Rattle.control.specs.FieldChanged.{set_state}
use Rattle.control.specs.declared.State.{State}
use Rattle.control.specs.declared.Deferred.TheVariants as deferral
use Rattle.control.proofs.Within.{error_in_send_lem}
use Rattle.control.proofs.States.{in_defer_lem, holding_not_receive, send_is, sending_clear}
use Rattle.transitions.proofs.KeptWithin.{deferred_defers, deferred_keeps}
use Rattle.answers.proofs.Rows.{numbered, one}
use Rattle.end.specs.Record.{send_lent, unit_lent}
use Rattle.end.specs.Outcome.{made, refuse}
use Rattle.calls.specs.Calls.{makes}
use Rattle.calls.specs.Laws.{questions, receive_unit_questions}
use Rattle.calls.specs.DeferLaws.{at_once, allowed_in_defer, before_state, CarriedOut, Prepared, after_preparing}
use Rattle.calls.proofs.CallCases.{DeferAsked, deferred_act, defer_cases, kind_accepted, passes, quiet_act, with_end}
use Rattle.calls.proofs.RecordStaysGood.{control_kept}
use Rattle.calls.proofs.Refusals.{not_first, number_is, refused_nothing, take_number_is}

-- ---- the record as prepared

abbrev pub prepared_end : End → Deferred → End
prepared_end e d = with_control (deferred d e.control) e

-- an accepted preparing was asked its questions and left this
pub prepared_is : (s : Station) (d : Deferred) → Prepared s d → DeferAsked s × (called s (Verb.defer d) ≡ deferred_act s d)
prepared_is s d =
    defer_cases (λ (m : Called). refusal_in m.answer ≡ 0 → DeferAsked s × (m ≡ deferred_act s d)) s d (λ q n h. absurd (eqb-false q 0 n h)) (λ a h. (a, refl))

pub prepared_good : (s : Station) (d : Deferred) → DeferAsked s → record_good (prepared_end s.end d) ≡ true
prepared_good s d a = control_kept s a.good (deferred d s.end.control) (λ some none. deferred_keeps d s.end.control some none a.sending)

-- ---- withdrawn

withdraw_drops : (p : Station) → record_good p.end ≡ true → may_withdraw p.end.control ≡ true
    → called p Verb.withdraw ≡ quiet_act p (with_control (withdrawn p.end.control) p.end)
unfolding called withdraw withdraw_decision withdraw_refusal
withdraw_drops p g m = rw (g, m)

-- every field is back
given_back : (s : Station) (d : Deferred) → DeferAsked s → with_control (withdrawn (deferred d s.end.control)) s.end ≡ s.end
unfolding withdrawn deferred
given_back s d a = ap (λ (x : State). with_control (set_state x s.end.control) s.end) (sym (send_is s.end.control.state (sending_clear s.end.control a.sending).0))

pub withdrawn_is : (s : Station) (d : Deferred) → Prepared s d
    → (refusal_in (after_preparing s d Verb.withdraw).answer ≡ 0) × ((after_preparing s d Verb.withdraw).end ≡ s)
withdrawn_is s d h =
    let i = prepared_is s d h in
    let p = with_end s (prepared_end s.end d) in
    let w = withdraw_drops p (prepared_good s d i.0) (deferred_defers d s.end.control) in
    rw (i.1, w) (refl, ap (λ (e : End). with_end s e) (given_back s d i.0))

-- ---- carried out

-- what the call that is prepared says to follow
abbrev prepared_follows : Deferred → Follows
prepared_follows deferral.Turn = ChangeDirection
prepared_follows deferral.End = EndBracket

at_once_closes : (d : Deferred) (b : Bool) → at_once d b ≡ Verb.close (prepared_follows d) b
at_once_closes deferral.Turn b = refl
at_once_closes deferral.End b = refl

-- what is left to ask of a closing call that marks, where record, state and place are as they must be
abbrev pub lent_first : Bool → Bool → ℕ
lent_first lent credit = cond lent (cond credit 0 10) 4

abbrev pub lent_and_credit : End → ℕ → ℕ → ℕ
lent_and_credit e send unit = lent_first (send_lent e send && unit_lent e unit) (has_credit e.sending.window)

pub record MayMark (e : End) (f : Follows) (b : Bool) : Type 0 where
  pub good : record_good e ≡ true
  pub state : may_close f b e.control ≡ true
  pub whole : is_whole e.sending.given ≡ true
  pub marks : marks (Last (closing e f) b) ≡ true

close_number : (e : End) (f : Follows) (b : Bool) (send unit : ℕ) → MayMark e f b → close_refusal e f b send unit ≡ lent_and_credit e send unit
unfolding close_refusal
close_number e f b send unit m = rw (m.good, m.state, m.marks, m.whole)

close_decides : (e : End) (f : Follows) (b : Bool) (send : List ℕ) (unit : ℕ) → MayMark e f b
    → close_decision e f b send unit ≡ decided (lent_and_credit e (length send) unit) e (last_made e (closing e f) b send)
unfolding close_decision
close_decides e f b send unit m = rw (close_number e f b (length send) unit m, m.marks)

-- one decision, at two records that differ
same_decision : (t : Bool) (q : ℕ) (s : Station) (e : End) (d : Decision) → eqb q 0 ≡ t
    → CarriedOut (makes (with_end s e) (made (cond t d (refuse q e)) s.unit)) (makes s (made (cond t d (refuse q s.end)) s.unit))
same_decision true q s e d z =
    record { answer = refl; sent = refl; expedited = refl; send_buffer = refl; unit_buffer = refl; inbox = refl; end = λ h. refl }
same_decision false q s e d z =
    record {
      answer = refl;
      sent = refl;
      expedited = refl;
      send_buffer = refl;
      unit_buffer = refl;
      inbox = refl;
      end = λ h. absurd (eqb-false q 0 z (rw z at h));
    }

-- the last unit and the record after it, made from the record as prepared
same_last : (e : End) (d : Deferred) (b : Bool) (send : List ℕ) → e.control.error ≡ false
    → last_made (prepared_end e d) (prepared_follows d) b send ≡ last_made e (prepared_follows d) b send
unfolding last_made request_made data_header closed deferred
same_last e deferral.Turn true send n = rw n
same_last e deferral.Turn false send n = rw n
same_last e deferral.End true send n = rw n
same_last e deferral.End false send n = rw n

-- no error is due where a turn or an end may be prepared
no_error : (s : Station) → DeferAsked s → s.end.control.error ≡ false
no_error s a = (sending_clear s.end.control a.sending).1

may_carry : (b error : Bool) → error ≡ false → not (b && error) ≡ true
may_carry b error n = ap (λ (x : Bool). not (b && x)) n ∙ ap not (and-false b)

may_mark : (s : Station) (d : Deferred) (b : Bool) → DeferAsked s
    → MayMark (prepared_end s.end d) Stay b × MayMark s.end (prepared_follows d) b
    × (closing (prepared_end s.end d) Stay ≡ prepared_follows d) × (closing s.end (prepared_follows d) ≡ prepared_follows d)
unfolding deferred
may_mark s deferral.Turn b a = (
  record { good = prepared_good s deferral.Turn a; state = may_carry b _ (no_error s a); whole = a.whole; marks = or-true b },
  record { good = a.good; state = a.sending; whole = a.whole; marks = or-true b },
  refl,
  refl,
)
may_mark s deferral.End b a = (
  record { good = prepared_good s deferral.End a; state = may_carry b _ (no_error s a); whole = a.whole; marks = or-true b },
  record { good = a.good; state = a.sending; whole = a.whole; marks = or-true b },
  refl,
  refl,
)

pub carried_is : (s : Station) (d : Deferred) (b : Bool) → DeferAsked s
    → CarriedOut (called (with_end s (prepared_end s.end d)) (Verb.close Stay b)) (called s (at_once d b))
unfolding called close
carried_is s d b a =
    let e = s.end in
    let p = prepared_end e d in
    let m = may_mark s d b a in
    let q = lent_and_credit e (length s.send) (length s.unit) in
    rw (
      at_once_closes d b,
      close_decides p Stay b s.send (length s.unit) m.0,
      close_decides e (prepared_follows d) b s.send (length s.unit) m.1,
      m.2,
      m.3,
      same_last e d b s.send (no_error s a),
    )
    (same_decision (eqb q 0) q s p (last_made e (prepared_follows d) b s.send) refl)

-- ---- refused

pub four_or_ten : (a c : Bool) → (lent_first a c ≡ 0 → ⊥) → eqb (lent_first a c) 4 || eqb (lent_first a c) 10 ≡ true
four_or_ten true true n = absurd (n refl)
four_or_ten true false n = refl
four_or_ten false c n = refl

pub refused_is : (s : Station) (d : Deferred) (b : Bool) → DeferAsked s
    → let m = called (with_end s (prepared_end s.end d)) (Verb.close Stay b) in
    (refusal_in m.answer ≡ 0 → ⊥)
    → (eqb (refusal_in m.answer) 4 || eqb (refusal_in m.answer) 10 ≡ true) × (m.end ≡ with_end s (prepared_end s.end d))
unfolding close_refusal
refused_is s d b a n =
    let e = s.end in
    let p = prepared_end e d in
    let v = Verb.close Stay b in
    let t = with_end s p in
    let k = number_is t v ∙ close_number p Stay b (length s.send) (length s.unit) (may_mark s d b a).0 in (
      rw k (four_or_ten (send_lent e (length s.send) && unit_lent e (length s.unit)) (has_credit e.sending.window) (λ z. n (k ∙ z))),
      (refused_nothing t v (ne_eqb _ 0 n)).0,
    )

-- ---- what is allowed in Defer

-- the first question of a row that is not one of those before 7 is 7, and is answered no
abbrev pub stops_at7 : List (Bool × ℕ) → Bool
stops_at7 [] = false
stops_at7 (q ∷ qs) = cond (ltb q.1 7) (stops_at7 qs) (eqb q.1 7 && not q.0)

pub stops_at_7 : (qs : List (Bool × ℕ)) → T (numbered qs) → first_no (before_state qs) ≡ 0 → stops_at7 qs ≡ true → first_no qs ≡ 7
stops_at_7 [] t z f = never f
stops_at_7 (q ∷ qs) t z f =
    let p = both_tt (not (eqb q.1 0)) (numbered qs) t in
    split (ltb q.1 7)
    (λ y.
    let o = one q.0 (first_no (before_state qs)) q.1 p.0 (rw y at z) in
    rw o.0 (stops_at_7 qs p.1 o.1 (rw y at f)))
    (λ n.
    let g = both (eqb q.1 7) (not q.0) (rw n at f) in
    rw (not_true q.0 g.1) (eqb-true q.1 7 g.0))

module _ (s : Station) (h : is_defer s.end.control.state ≡ true) where
  stops : (v : Verb) → allowed_in_defer v ≡ false → T (numbered (questions s v)) × (stops_at7 (questions s v) ≡ true)
  stops Verb.allocate a = (tt, rw (in_defer_lem _ h).not_reset)
  stops Verb.confirmed a = (tt, rw (in_defer_lem _ h).not_owed)
  stops Verb.send_error a = (tt, rw (in_defer_lem _ h).not_owed)
  stops Verb.request_to_send a = (tt, rw (holding_not_receive s.end.control.state (in_defer_lem s.end.control.state h).holds, (in_defer_lem _ h).not_owed))
  stops Verb.send_pacing_response a = never (sym a)
  stops Verb.withdraw a = never (sym a)
  stops (Verb.send_data bytes) a = (tt, rw (in_defer_lem _ h).not_send)
  stops (Verb.close Stay b) a = never (sym a)
  stops (Verb.close ChangeDirection b) a = (tt, rw (in_defer_lem _ h).not_send)
  stops (Verb.close EndBracket b) a = (tt, rw (in_defer_lem _ h).not_send)
  stops (Verb.defer d) a = (tt, rw (in_defer_lem _ h).not_send)
  stops (Verb.receive buffer) a = never (sym a)

  pub refuses_7 : (v : Verb) → allowed_in_defer v ≡ false → first_no (before_state (questions s v)) ≡ 0 → refusal_in (called s v).answer ≡ 7
  refuses_7 v a z = let p = stops v a in number_is s v ∙ stops_at_7 (questions s v) p.0 z p.1

  by_row : (v : Verb) → passes 7 (questions s v) ≡ true → eqb (refusal_in (called s v).answer) 7 ≡ false
  by_row v p = ap (λ (q : ℕ). eqb q 7) (number_is s v) ∙ not_first (questions s v) 7 refl p

  -- an error that is due in Defer is refused with 5 before 7 is asked
  error_is_5 : s.end.control.error ≡ true → record_good s.end ≡ false
  error_is_5 y =
      split (record_good s.end)
      (λ g. never (sym (in_defer_lem s.end.control.state h).not_send ∙ (error_in_send_lem s.end.control (facts s.end g).control y).0)) (λ n. n)

  four_or_five : (lent : Bool) → eqb (cond lent 5 4) 7 ≡ false
  four_or_five true = refl
  four_or_five false = refl

  carries : (b : Bool) → eqb (refusal_in (called s (Verb.close Stay b)).answer) 7 ≡ false
  carries b =
      let e = s.end in
      split e.control.error
      (λ y.
      ap (λ (q : ℕ). eqb q 7) (number_is s (Verb.close Stay b))
      ∙ rw (error_is_5 y) (four_or_five (send_lent e (length s.send) && unit_lent e (length s.unit))))
      (λ n. by_row (Verb.close Stay b) (rw ((in_defer_lem _ h).holds, may_carry b e.control.error n)))

  pub never_7 : (v : Verb) → allowed_in_defer v ≡ true → eqb (refusal_in (called s v).answer) 7 ≡ false
  never_7 Verb.allocate a = cc
  never_7 Verb.confirmed a = cc
  never_7 Verb.send_error a = cc
  never_7 Verb.request_to_send a = cc
  never_7 Verb.send_pacing_response a = by_row Verb.send_pacing_response refl
  never_7 Verb.withdraw a = by_row Verb.withdraw (rw h)
  never_7 (Verb.send_data bytes) a = cc
  never_7 (Verb.close Stay b) a = carries b
  never_7 (Verb.close ChangeDirection b) a = cc
  never_7 (Verb.close EndBracket b) a = cc
  never_7 (Verb.defer d) a = cc
  never_7 (Verb.receive buffer) a = by_row (Verb.receive buffer) refl

pub take_never_7 : (s : Station) (u : List ℕ) → eqb (refusal_in (taken s u).answer) 7 ≡ false
take_never_7 s u =
    ap (λ (q : ℕ). eqb q 7) (take_number_is s u)
    ∙ not_first (receive_unit_questions s u) 7 refl (kind_accepted s.end (header_received u) (number_in u) (ru_received u)).2
