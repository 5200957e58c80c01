-- A read, a pacing answer made and a take, in Defer: they leave what they leave in Send, and what was prepared still is.
-- Assumes nothing.
use Rattle.calls.proofs.CallWords.{ℕ, eqb-true, eqb, take, length, Bool, true, false, cond, List, [], ◌≡◌, refl, sym, ap, ◌∙◌, front}
use Rattle.calls.proofs.CallWords.{Header, number_in, Deferred, deferred, bid_received, positive_response_received, negative_response_received}
use Rattle.calls.proofs.CallWords.{confirmation_received}
use Rattle.calls.proofs.CallWords.{mark_answered, first_no, yes, window_answered, with_control, with_receiving, Decision, send_pacing_response_refusal}
use Rattle.calls.proofs.CallWords.{send_pacing_response_decision}
use Rattle.calls.proofs.CallWords.{send_pacing_response, bytes_read, inbox_moved, some_held, receive_refusal, mark_read, receive_decision, receive, ru_received}
use Rattle.calls.proofs.CallWords.{data_joined}
use Rattle.calls.proofs.CallWords.{bid_answered, credit_raised, header_received, receive_unit_refusal, receive_unit_decision, receive_unit, End, Done, ReadAnswer, facts}
use Rattle.calls.proofs.CallWords.{Called, Station, Verb, called, taken, taken_expedited}
use Rattle.calls.proofs.CallWords.{receive_expedited_refusal, receive_expedited_decision, receive_expedited, with_expedited, unit_taken, header_taken}
use Rattle.expedited.specs.declared.Expedited.{Expedited}
use Rattle.end.specs.ReceiveExpedited.{answer_to}
use mathlib.Core.Path.{subst}
use Rattle.header.specs.declared.Header.TheVariants.{Data, Bid, ErrorDescription, PositiveBidResponse, NegativeBidResponse, Confirmation}
use Rattle.header.specs.declared.Header.TheVariants.{NegativeConfirmation, PacingResponse}
use Rattle.bools.proofs.Cases.{never}
use Rattle.control.specs.FieldChanged.{set_state}
use Rattle.control.specs.declared.State.{State}
use Rattle.control.specs.declared.State.TheVariants.{Send}
use Rattle.control.specs.declared.WhatReceived.TheVariants as mark
use Rattle.control.specs.declared.Deferred.TheVariants as deferral
use Rattle.control.proofs.States.{nothing_is, send_is, sending_clear}
use Rattle.control.proofs.Within.{unmarked_outside_receive}
use Rattle.answers.specs.Answers.{read_refused}
use Rattle.answers.proofs.TwoRows.{pass_both}
use Rattle.end.specs.Outcome.{Out, a_unit, accept, made, refuse}
use Rattle.end.specs.Receive.{copy_count}
use Rattle.end.specs.ReceiveUnit.{head_questions, kind_questions, kind_received, kind_joined, inbox_cells}
use Rattle.calls.specs.Calls.{copies, makes}
use Rattle.calls.specs.DeferLaws.{in_defer}
use Rattle.calls.proofs.CallCases.{DeferAsked, took_of, took_expedited, with_end}
use Rattle.calls.proofs.Prepared.{prepared_end, prepared_good}

-- ---- a pacing answer made

-- one unit made, the records being those of Send and of Defer
made_alike : (t : Bool) (q : ℕ) (s : Station) (d : Deferred) (next next' : End) (out : Out) → next ≡ with_control (deferred d next'.control) next'
    → makes (with_end s (prepared_end s.end d)) (made (cond t (accept next out) (refuse q (prepared_end s.end d))) s.unit)
    ≡ in_defer d (makes s (made (cond t (accept next' out) (refuse q s.end)) s.unit))
made_alike true q s d next next' out e = rw e
made_alike false q s d next next' out e = refl

same_pace_refusal : (s : Station) (d : Deferred) (unit : ℕ) → DeferAsked s
    → send_pacing_response_refusal (prepared_end s.end d) unit ≡ send_pacing_response_refusal s.end unit
unfolding send_pacing_response_refusal
same_pace_refusal s d unit a = rw (prepared_good s d a ∙ sym a.good)

pub pace_same : (s : Station) (d : Deferred) → DeferAsked s
    → called (with_end s (prepared_end s.end d)) Verb.send_pacing_response ≡ in_defer d (called s Verb.send_pacing_response)
unfolding called send_pacing_response send_pacing_response_decision
pace_same s d a =
    let e = s.end in
    let p = prepared_end e d in
    let q = send_pacing_response_refusal e (length s.unit) in
    let w = window_answered e.receiving in
    rw (same_pace_refusal s d (length s.unit) a)
    (made_alike (eqb q 0) q s d (with_receiving w p) (with_receiving w e) (a_unit 0 PacingResponse []) refl)

-- ---- a read

-- no mark stands in Send
unmarked : (s : Station) → DeferAsked s → s.end.control.mark ≡ mark.Nothing
unmarked s a =
    let c = s.end.control in
    nothing_is c.mark (unmarked_outside_receive c (facts s.end a.good).control (rw (send_is c.state (sending_clear c a.sending).0)))

-- what a read leaves by what it hands back
abbrev read_of : Station → List ℕ → Done ReadAnswer → Called
read_of s buffer d =
    copies s
    (record { done = d; inbox = inbox_moved s.end d.answer.copied s.inbox; buffer = front (take d.answer.copied s.inbox) buffer })

read_alike : (t h : Bool) (q k : ℕ) (s : Station) (d : Deferred) (buffer : List ℕ) → s.end.control.mark ≡ mark.Nothing
    → let p = prepared_end s.end d in
    read_of (with_end s p) buffer (cond t (cond h (bytes_read p k s.inbox) (mark_read p)) (record { answer = read_refused q; end = p }))
    ≡ in_defer d (read_of s buffer (cond t (cond h (bytes_read s.end k s.inbox) (mark_read s.end)) (record { answer = read_refused q; end = s.end })))
unfolding bytes_read mark_read mark_answered inbox_moved deferred
read_alike true true q k s d buffer m = refl
read_alike true false q k s d buffer m = rw m
read_alike false h q k s d buffer m = refl

same_read_refusal : (s : Station) (d : Deferred) (inbox : List ℕ) (buffer : ℕ) → DeferAsked s
    → receive_refusal (prepared_end s.end d) inbox buffer ≡ receive_refusal s.end inbox buffer
unfolding receive_refusal deferred
same_read_refusal s d inbox buffer a = rw (prepared_good s d a ∙ sym a.good)

pub read_same : (s : Station) (d : Deferred) (buffer : List ℕ) → DeferAsked s
    → called (with_end s (prepared_end s.end d)) (Verb.receive buffer) ≡ in_defer d (called s (Verb.receive buffer))
unfolding called receive receive_decision copy_count
read_same s d buffer a =
    let e = s.end in
    let q = receive_refusal e s.inbox (length buffer) in
    rw (same_read_refusal s d s.inbox (length buffer) a)
    (read_alike (eqb q 0) (some_held e) q (copy_count e s.inbox (length buffer)) s d buffer (unmarked s a))

-- ---- a take

-- an end in Send, written so that its state computes
abbrev in_send : Station → Station
in_send s = with_end s (with_control (set_state Send s.end.control) s.end)

in_send_lem : (s : Station) → DeferAsked s → in_send s ≡ s
in_send_lem s a = ap (λ (x : State). with_end s (with_control (set_state x s.end.control) s.end)) (sym (send_is s.end.control.state (sending_clear s.end.control a.sending).0))

-- what is asked of a unit is the same
same_questions : (s : Station) (d : Deferred) (h : Header) (n : ℕ) (ru : List ℕ)
    → kind_questions (prepared_end (in_send s).end d) h n ru ≡ kind_questions (in_send s).end h n ru
unfolding deferred
same_questions s deferral.Turn (Data x) n ru = refl
same_questions s deferral.Turn (Bid b) n ru = refl
same_questions s deferral.Turn (ErrorDescription b) n ru = refl
same_questions s deferral.Turn PositiveBidResponse n ru = refl
same_questions s deferral.Turn NegativeBidResponse n ru = refl
same_questions s deferral.Turn Confirmation n ru = refl
same_questions s deferral.Turn NegativeConfirmation n ru = refl
same_questions s deferral.Turn PacingResponse n ru = refl
same_questions s deferral.End (Data x) n ru = refl
same_questions s deferral.End (Bid b) n ru = refl
same_questions s deferral.End (ErrorDescription b) n ru = refl
same_questions s deferral.End PositiveBidResponse n ru = refl
same_questions s deferral.End NegativeBidResponse n ru = refl
same_questions s deferral.End Confirmation n ru = refl
same_questions s deferral.End NegativeConfirmation n ru = refl
same_questions s deferral.End PacingResponse n ru = refl

-- the kinds that an end in Send accepts: no data, no error header, no grant, no confirmation and no refusal of one
abbrev comes : Header → Bool
comes (Data x) = false
comes (Bid b) = true
comes (ErrorDescription b) = false
comes PositiveBidResponse = false
comes NegativeBidResponse = true
comes Confirmation = false
comes NegativeConfirmation = false
comes PacingResponse = true

only_these : (s : Station) (h : Header) (n : ℕ) (ru : List ℕ) → first_no (kind_questions (in_send s).end h n ru) ≡ 0 → comes h ≡ true
only_these s (Data x) n ru e = yes (kind_questions (in_send s).end (Data x) n ru) tt e 5
only_these s (Bid b) n ru e = refl
only_these s (ErrorDescription b) n ru e = yes (kind_questions (in_send s).end (ErrorDescription b) n ru) tt e 5
only_these s PositiveBidResponse n ru e = yes (kind_questions (in_send s).end PositiveBidResponse n ru) tt e 1
only_these s NegativeBidResponse n ru e = refl
only_these s Confirmation n ru e = yes (kind_questions (in_send s).end Confirmation n ru) tt e 1
only_these s NegativeConfirmation n ru e = yes (kind_questions (in_send s).end NegativeConfirmation n ru) tt e 1
only_these s PacingResponse n ru e = refl

-- what a take leaves by its decision
abbrev took_by : Station → List ℕ → Header → List ℕ → Decision → Called
took_by s u h ru x = took_of s u x (cond (eqb x.refusal 0) (kind_joined s.end h ru s.inbox) s.inbox)

took_alike : (t : Bool) (q : ℕ) (s : Station) (d : Deferred) (u : List ℕ) (h : Header) (n : ℕ) (ru : List ℕ) → eqb q 0 ≡ t → (t ≡ true → comes h ≡ true)
    → let p = prepared_end (in_send s).end d in
    took_by (with_end (in_send s) p) u h ru (cond t (kind_received p h n ru) (refuse q p))
    ≡ in_defer d (took_by (in_send s) u h ru (cond t (kind_received (in_send s).end h n ru) (refuse q (in_send s).end)))
unfolding deferred data_joined bid_answered bid_received credit_raised positive_response_received negative_response_received confirmation_received
took_alike true q s d u (Data x) n ru z c = never (c refl)
took_alike true q s deferral.Turn u (Bid b) n ru z c = refl
took_alike true q s deferral.End u (Bid b) n ru z c = refl
took_alike true q s d u (ErrorDescription b) n ru z c = never (c refl)
took_alike true q s d u PositiveBidResponse n ru z c = never (c refl)
took_alike true q s d u NegativeBidResponse n ru z c = refl
took_alike true q s d u Confirmation n ru z c = never (c refl)
took_alike true q s d u NegativeConfirmation n ru z c = never (c refl)
took_alike true q s d u PacingResponse n ru z c = refl
took_alike false q s d u h n ru z c = rw z

-- a take by its refusal number
abbrev taken_by : Station → List ℕ → ℕ → Called
taken_by s u q =
    let h = header_received u in
    let ru = ru_received u in
    took_by s u h ru (cond (eqb q 0) (kind_received s.end h (number_in u) ru) (refuse q s.end))

taken_is : (s : Station) (u : List ℕ) → taken s u ≡ taken_by s u (receive_unit_refusal s.end u (length s.inbox) (length s.unit))
unfolding taken receive_unit receive_unit_decision inbox_cells
taken_is s u = refl

same_refusal : (s : Station) (d : Deferred) (u : List ℕ) (inbox unit : ℕ) → DeferAsked (in_send s)
    → receive_unit_refusal (prepared_end (in_send s).end d) u inbox unit ≡ receive_unit_refusal (in_send s).end u inbox unit
unfolding receive_unit_refusal deferred
same_refusal s d u inbox unit a =
    rw (prepared_good (in_send s) d a ∙ sym a.good, same_questions s d (header_received u) (number_in u) (ru_received u))

took_same : (s : Station) (d : Deferred) (u : List ℕ) → DeferAsked (in_send s)
    → taken (with_end (in_send s) (prepared_end (in_send s).end d)) u ≡ in_defer d (taken (in_send s) u)
unfolding receive_unit_refusal
took_same s d u a =
    let e = (in_send s).end in
    let p = with_end (in_send s) (prepared_end e d) in
    let h = header_received u in
    let n = number_in u in
    let ru = ru_received u in
    let q = receive_unit_refusal e u (length s.inbox) (length s.unit) in
    let head = head_questions e u (length s.inbox) (length s.unit) in
    taken_is p u ∙ ap (taken_by p u) (same_refusal s d u (length s.inbox) (length s.unit) a)
    ∙ took_alike (eqb q 0) q s d u h n ru refl (λ y. only_these s h n ru (pass_both head (kind_questions e h n ru) tt (eqb-true q 0 y)).1)
    ∙ ap (in_defer d) (sym (taken_is (in_send s) u))

pub take_same : (s : Station) (d : Deferred) (u : List ℕ) → DeferAsked s → taken (with_end s (prepared_end s.end d)) u ≡ in_defer d (taken s u)
take_same s d u a =
    subst (λ (x : Station). DeferAsked x → taken (with_end x (prepared_end x.end d)) u ≡ in_defer d (taken x u)) (in_send_lem s a) (took_same s d u) a

-- ---- a take on the expedited line

-- one decision, the records being those of Send and of Defer
expedited_alike : (t : Bool) (q : ℕ) (s : Station) (d : Deferred) (u : List ℕ) (x : Expedited) (out : Out)
    → let p = prepared_end s.end d in
    took_expedited (with_end s p) u (cond t (accept (with_expedited x p) out) (refuse q p))
    ≡ in_defer d (took_expedited s u (cond t (accept (with_expedited x s.end) out) (refuse q s.end)))
expedited_alike true q s d u x out = refl
expedited_alike false q s d u x out = refl

same_expedited_refusal : (s : Station) (d : Deferred) (u : List ℕ) (unit : ℕ) → DeferAsked s
    → receive_expedited_refusal (prepared_end s.end d) u unit ≡ receive_expedited_refusal s.end u unit
unfolding receive_expedited_refusal
same_expedited_refusal s d u unit a = rw (prepared_good s d a ∙ sym a.good)

pub expedited_same : (s : Station) (d : Deferred) (u : List ℕ) → DeferAsked s
    → taken_expedited (with_end s (prepared_end s.end d)) u ≡ in_defer d (taken_expedited s u)
unfolding taken_expedited receive_expedited receive_expedited_decision
expedited_same s d u a =
    let q = receive_expedited_refusal s.end u (length s.unit) in
    rw (same_expedited_refusal s d u (length s.unit) a)
    (expedited_alike (eqb q 0) q s d u (unit_taken (header_taken u) (number_in u) s.end.expedited) (answer_to (header_taken u) (number_in u)))
