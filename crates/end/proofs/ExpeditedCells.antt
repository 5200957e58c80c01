-- The two calls of the expedited lines: what each decides where its code stops, and the cells that it leaves.
-- Assumes nothing.
use Prim.Native.Nat.{ℕ, ◌≤◌}
use mathlib.Core.Path.{◌≡◌, refl, ap}
use mathlib.Core.Bool.{Bool, true, false, cond}
use mathlib.Core.List.{List}
use native.Mathlib.Omega.{arith}
use lib.Dec.{eqb}
use lib.ListN.{length}
use borrow.Author.Tests.{eqb-true, ne_eqb}
use Rattle.bools.proofs.Cases.{cases}
use Rattle.header.specs.ExpeditedHeader.{is_signal}
use Rattle.header.specs.declared.ExpeditedHeader.{ExpeditedHeader}
use Rattle.header.specs.declared.ExpeditedHeader.TheVariants.{Signal, SignalResponse}
use Rattle.unit.specs.Unit.{number_in}
use Rattle.unit.specs.ExpeditedUnit.{expedited_made}
use Rattle.unit.proofs.ExpeditedUnits.{expedited_cells}
use Rattle.answers.specs.Answers.{BAD_HEADER, accepted, refused, refused_naming, expedited_answer}
use Rattle.answers.specs.declared.Answer.{Answer}
use Rattle.answers.proofs.Rows.{yes}
use Rattle.answers.proofs.Naming.{naming}
use Rattle.answers.proofs.TwoRows.{pass, stop, never, pass_both}
use Rattle.expedited.specs.Signals.{unit_taken}
use Rattle.expedited.specs.Takes.{header_taken, take_questions, take_refusal, length_answered, rule_taken, unit_taken_by}
use Rattle.expedited.specs.declared.ExpeditedTake.{ExpeditedTake}
use Rattle.end.specs.Outcome.{length_out, cells_out, Decision, accept, refuse, done_of, with_expedited}
use Rattle.end.specs.RequestToSend.{request_questions, request_refusal, request_decision}
use Rattle.end.specs.ReceiveExpedited.{lent_questions, lent_refusal, receive_expedited_refusal, answer_to, receive_expedited_decision, expedited_done}
use Rattle.end.proofs.RoomToWrite.{fixed_room}
use Rattle.end.specs.declared.End.{End}

-- ---- request to send

request_room : (e : End) (n : ℕ) → request_refusal e n ≡ 0 → 10 ≤ n
unfolding request_refusal
request_room e n h = let t = yes (request_questions e n) tt h in let r = fixed_room e n (t 0) (t 1) in omega arith

module _ (e : End) (cells : List ℕ) where
  abbrev RequestLeft : Decision → Type 0
  RequestLeft d = cond (eqb (done_of d).answer.unit 0) cells (expedited_made d.end.expedited.sent Signal cells) ≡ cells_out d.out cells

  -- written by the length answered, the cells are the definition's
  pub request_left : RequestLeft (request_decision e (length cells))
  unfolding request_decision
  request_left =
      let q = request_refusal e (length cells) in
      cases RequestLeft (eqb q 0) (λ y. expedited_cells _ Signal cells (request_room e (length cells) (eqb-true q 0 y))) (λ y. rw y)

-- ---- take, on the expedited line

lent_stops : (e : End) (u : List ℕ) (n : ℕ) → (lent_refusal e n ≡ 0 → ⊥) → receive_expedited_refusal e u n ≡ lent_refusal e n
unfolding lent_refusal receive_expedited_refusal
lent_stops e u n z = stop (lent_questions e n) (take_questions e.expedited u) z

lent_passes : (e : End) (u : List ℕ) (n : ℕ) → lent_refusal e n ≡ 0 → receive_expedited_refusal e u n ≡ take_refusal e.expedited u
unfolding lent_refusal receive_expedited_refusal take_refusal
lent_passes e u n z = pass (lent_questions e n) (take_questions e.expedited u) (yes (lent_questions e n) tt z)

lent_not_21 : (e : End) (n : ℕ) → lent_refusal e n ≡ BAD_HEADER → ⊥
unfolding lent_refusal
lent_not_21 e n z = never 21 (lent_questions e n) refl z

-- refused before it was looked at
pub unlooked : (e : End) (u : List ℕ) (n : ℕ) → (lent_refusal e n ≡ 0 → ⊥)
    → record { answer = expedited_answer (refused (lent_refusal e n)) false; end = e } ≡ expedited_done u (receive_expedited_decision e u n)
unfolding receive_expedited_decision
unlooked e u n z =
    let q = lent_refusal e n in
    let no = ne_eqb q 0 z in
    rw (lent_stops e u n z, no, no, no)
    (ap (λ (a : Answer). record { answer = record { answer = a; signalled = false }; end = e }) (naming false 0 q (rule_taken u) (lent_not_21 e n)))

length_is : (h : ExpeditedHeader) (n : ℕ) → length_answered h ≡ length_out (answer_to h n)
length_is Signal n = refl
length_is SignalResponse n = refl

-- looked at: what the part keeps is the part of the record
module _ (e : End) (u : List ℕ) where
  abbrev Same : Bool → ℕ → Type 0
  Same t q =
      record {
        answer = expedited_answer (cond t (accepted (length_answered (header_taken u))) (refused_naming (rule_taken u) q)) (is_signal (header_taken u));
        end = with_expedited (cond t (unit_taken (header_taken u) (number_in u) e.expedited) e.expedited) e;
      }
      ≡ expedited_done u
      (cond t (accept (with_expedited (unit_taken (header_taken u) (number_in u) e.expedited) e) (answer_to (header_taken u) (number_in u))) (refuse q e))

  same : (t : Bool) (q : ℕ) → eqb q 0 ≡ t → Same t q
  same true q z =
      ap (λ (k : ℕ).
      record {
        answer = expedited_answer (accepted k) (is_signal (header_taken u));
        end = with_expedited (unit_taken (header_taken u) (number_in u) e.expedited) e;
      }) (length_is (header_taken u) (number_in u))
  same false q z = rw (z, z)

  pub looked : (n : ℕ) (r : ExpeditedTake) → lent_refusal e n ≡ 0 → r ≡ unit_taken_by e.expedited u
      → record { answer = r.answer; end = with_expedited r.next e } ≡ expedited_done u (receive_expedited_decision e u n)
  unfolding receive_expedited_decision unit_taken_by
  looked n r z t = rw (t, lent_passes e u n z) (same (eqb (take_refusal e.expedited u) 0) (take_refusal e.expedited u) refl)

-- the response has six bytes, and M is at least 8
lent_room : (e : End) (u : List ℕ) (n : ℕ) → receive_expedited_refusal e u n ≡ 0 → 6 ≤ n
unfolding receive_expedited_refusal
lent_room e u n h =
    let t = yes (lent_questions e n) tt (pass_both (lent_questions e n) (take_questions e.expedited u) tt h).0 in
    let r = fixed_room e n (t 0) (t 1) in
    omega arith

module _ (e : End) (u cells : List ℕ) where
  abbrev TakeLeft : Decision → Type 0
  TakeLeft d =
      cond (eqb (expedited_done u d).answer.answer.unit 0) cells (expedited_made d.end.expedited.taken SignalResponse cells) ≡ cells_out d.out cells

  by_header : (h : ExpeditedHeader) (n : ℕ) → 6 ≤ length cells → TakeLeft (accept (with_expedited (unit_taken h n e.expedited) e) (answer_to h n))
  by_header Signal n r = expedited_cells n SignalResponse cells r
  by_header SignalResponse n r = refl

  pub take_left : TakeLeft (receive_expedited_decision e u (length cells))
  unfolding receive_expedited_decision
  take_left =
      let q = receive_expedited_refusal e u (length cells) in
      cases TakeLeft (eqb q 0) (λ y. by_header (header_taken u) (number_in u) (lent_room e u (length cells) (eqb-true q 0 y))) (λ y. rw y)
