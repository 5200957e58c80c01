-- Take: the row of its definition where the code stops, and what is decided there.
-- Assumes nothing.
use Prim.Native.Nat.{ℕ}
use mathlib.Core.Path.{◌≡◌, refl, sym, ap, ◌∙◌}
use mathlib.Core.Bool.{Bool, true, false, cond, ◌&&◌}
use mathlib.Core.List.{List, ◌∷◌}
use native.Mathlib.Omega.{arith}
use lib.Dec.{eqb, leb}
use lib.ListN.{length}
use borrow.Author.Tests.{eqb-true, eqb-false, ne_eqb}
use Rattle.header.specs.Rules.{header_good}
use Rattle.unit.specs.Unit.{RU_START, number_in, header_in}
use Rattle.header.specs.declared.Header.{Header}
use Rattle.header.specs.declared.Header.TheVariants.{Data, Bid, ErrorDescription, PositiveBidResponse, NegativeBidResponse, Confirmation}
use Rattle.header.specs.declared.Header.TheVariants.{NegativeConfirmation, PacingResponse}
use Rattle.answers.specs.FirstNo.{first_no}
use Rattle.answers.specs.Answers.{SHORT_UNIT, BAD_HEADER}
use Rattle.answers.specs.declared.Answer.{Answer}
use Rattle.answers.proofs.Rows.{yes}
use Rattle.answers.proofs.Naming.{naming}
use Rattle.answers.proofs.TwoRows.{pass, stop, never}
use Rattle.end.specs.Record.{record_good, inbox_lent, unit_lent}
use Rattle.end.specs.Outcome.{Decision, refuse, length_out, done_of}
use Rattle.end.specs.ReceiveUnit.{end_questions, kind_questions, header_received, ru_received, receive_unit_refusal, data_joined, error_marked, bid_answered, credit_raised, kind_received, receive_unit_decision, rule_named, done_naming}
use Rattle.end.specs.Kinds.{end_refusal, kind_refusal, kind_decision}
use Rattle.end.proofs.RoomToReceive.{end_good}
use Rattle.end.specs.declared.Done.{Done}
use Rattle.end.specs.declared.End.{End}

-- ---- the row, where the code stops

-- the questions after those of the end
abbrev unit_questions : End → List ℕ → List (Bool × ℕ)
unit_questions e taken =
    (leb RU_START (length taken), SHORT_UNIT)
    ∷ (header_good (header_in taken), BAD_HEADER)
    ∷ kind_questions e (header_received taken) (number_in taken) (ru_received taken)

take_stopped : (e : End) (taken : List ℕ) (inbox unit : ℕ) → (end_refusal e inbox unit ≡ 0 → ⊥)
    → receive_unit_refusal e taken inbox unit ≡ end_refusal e inbox unit
unfolding receive_unit_refusal end_refusal
take_stopped e taken inbox unit q = stop (end_questions e inbox unit) (unit_questions e taken) q

take_passed : (e : End) (taken : List ℕ) (inbox unit : ℕ) → end_refusal e inbox unit ≡ 0
    → receive_unit_refusal e taken inbox unit ≡ first_no (unit_questions e taken)
unfolding receive_unit_refusal end_refusal
take_passed e taken inbox unit q = pass (end_questions e inbox unit) (unit_questions e taken) (yes (end_questions e inbox unit) tt q)

pub take_short : (e : End) (taken : List ℕ) (inbox unit : ℕ) → end_refusal e inbox unit ≡ 0
    → leb RU_START (length taken) ≡ false → receive_unit_refusal e taken inbox unit ≡ SHORT_UNIT
take_short e taken inbox unit q l = take_passed e taken inbox unit q ∙ rw l

pub take_broken : (e : End) (taken : List ℕ) (inbox unit : ℕ) → end_refusal e inbox unit ≡ 0
    → leb RU_START (length taken) ≡ true → header_good (header_in taken) ≡ false → receive_unit_refusal e taken inbox unit ≡ BAD_HEADER
take_broken e taken inbox unit q l g = take_passed e taken inbox unit q ∙ rw (l, g)

receive_kind : (e : End) (taken : List ℕ) (inbox unit : ℕ) → end_refusal e inbox unit ≡ 0
    → leb RU_START (length taken) ≡ true → header_good (header_in taken) ≡ true
    → receive_unit_refusal e taken inbox unit ≡ kind_refusal e (header_received taken) (number_in taken) (ru_received taken)
unfolding kind_refusal
receive_kind e taken inbox unit q l g = take_passed e taken inbox unit q ∙ rw (l, g)

-- ---- what it decides

pub take_refused : (e : End) (taken : List ℕ) (inbox unit q : ℕ) → receive_unit_refusal e taken inbox unit ≡ q → (q ≡ 0 → ⊥) → receive_unit_decision e taken inbox unit ≡ refuse q e
unfolding receive_unit_decision
take_refused e taken inbox unit q t z = rw (t, ne_eqb q 0 z)

-- refused before it was looked at
pub take_unlooked : (e : End) (taken : List ℕ) (inbox unit : ℕ) → (end_refusal e inbox unit ≡ 0 → ⊥)
    → receive_unit_decision e taken inbox unit ≡ refuse (end_refusal e inbox unit) e
take_unlooked e taken inbox unit z = take_refused e taken inbox unit (end_refusal e inbox unit) (take_stopped e taken inbox unit z) z

-- asked by its kind
pub take_by_kind : (e : End) (taken : List ℕ) (inbox unit : ℕ) → end_refusal e inbox unit ≡ 0
    → leb RU_START (length taken) ≡ true → header_good (header_in taken) ≡ true
    → receive_unit_decision e taken inbox unit ≡ kind_decision e (header_received taken) (number_in taken) (ru_received taken)
unfolding receive_unit_decision kind_decision
take_by_kind e taken inbox unit q l g = rw (receive_kind e taken inbox unit q l g)

-- ---- the rule named

-- none, where the refusal is not 21
pub unnamed : (taken : List ℕ) (r : Done Answer) (d : Decision) → r ≡ done_of d → (d.refusal ≡ BAD_HEADER → ⊥) → r ≡ done_naming taken d
unnamed taken r d e h =
    rw e (ap (λ (a : Answer). record { answer = a; end = d.end }) (naming (eqb d.refusal 0) (length_out d.out) d.refusal (rule_named taken) h))

-- ---- 21 is asked of a header only

kind_asks_no_21 : (e : End) (h : Header) (n : ℕ) (ru : List ℕ) → kind_refusal e h n ru ≡ BAD_HEADER → ⊥
unfolding kind_refusal
kind_asks_no_21 e (Data d) n ru q = never 21 (kind_questions e (Data d) n ru) refl q
kind_asks_no_21 e (Bid p) n ru q = never 21 (kind_questions e (Bid p) n ru) refl q
kind_asks_no_21 e (ErrorDescription p) n ru q = never 21 (kind_questions e (ErrorDescription p) n ru) refl q
kind_asks_no_21 e PositiveBidResponse n ru q = never 21 (kind_questions e PositiveBidResponse n ru) refl q
kind_asks_no_21 e NegativeBidResponse n ru q = never 21 (kind_questions e NegativeBidResponse n ru) refl q
kind_asks_no_21 e Confirmation n ru q = never 21 (kind_questions e Confirmation n ru) refl q
kind_asks_no_21 e NegativeConfirmation n ru q = never 21 (kind_questions e NegativeConfirmation n ru) refl q
kind_asks_no_21 e PacingResponse n ru q = never 21 (kind_questions e PacingResponse n ru) refl q

pub kind_accepted : (e : End) (h : Header) (n : ℕ) (ru : List ℕ) → (kind_received e h n ru).refusal ≡ 0
unfolding data_joined error_marked bid_answered credit_raised
kind_accepted e (Data d) n ru = refl
kind_accepted e (Bid p) n ru = refl
kind_accepted e (ErrorDescription p) n ru = refl
kind_accepted e PositiveBidResponse n ru = refl
kind_accepted e NegativeBidResponse n ru = refl
kind_accepted e Confirmation n ru = refl
kind_accepted e NegativeConfirmation n ru = refl
kind_accepted e PacingResponse n ru = refl

not_21 : (b : Bool) (q : ℕ) (e : End) (k : Decision) → k.refusal ≡ 0 → (q ≡ BAD_HEADER → ⊥) → (cond b k (refuse q e)).refusal ≡ BAD_HEADER → ⊥
not_21 true q e k a f x = let o : ◌≡◌ {A = ℕ} 0 21 = sym a ∙ x in omega arith
not_21 false q e k a f x = f x

pub kind_not_21 : (e : End) (h : Header) (n : ℕ) (ru : List ℕ) → (kind_decision e h n ru).refusal ≡ BAD_HEADER → ⊥
unfolding kind_decision
kind_not_21 e h n ru x =
    not_21 (eqb (kind_refusal e h n ru) 0) (kind_refusal e h n ru) e (kind_received e h n ru) (kind_accepted e h n ru) (kind_asks_no_21 e h n ru) x

pub end_not_21 : (e : End) (inbox unit : ℕ) → end_refusal e inbox unit ≡ BAD_HEADER → ⊥
unfolding end_refusal
end_not_21 e inbox unit q = never 21 (end_questions e inbox unit) refl q

-- ---- accepted

-- what an accepted unit was asked
pub record UnitAsked (e : End) (taken : List ℕ) (inbox unit : ℕ) : Type 0 where
  pub lent : inbox_lent e inbox && unit_lent e unit ≡ true
  pub good : record_good e ≡ true
  pub long : leb RU_START (length taken) ≡ true
  pub kind_yes : kind_refusal e (header_received taken) (number_in taken) (ru_received taken) ≡ 0

end_yes : (t : Bool) (e : End) (taken : List ℕ) (inbox unit : ℕ) → eqb (end_refusal e inbox unit) 0 ≡ t → receive_unit_refusal e taken inbox unit ≡ 0
    → end_refusal e inbox unit ≡ 0
end_yes true e taken inbox unit z h = eqb-true (end_refusal e inbox unit) 0 z
end_yes false e taken inbox unit z h = sym (take_stopped e taken inbox unit (eqb-false (end_refusal e inbox unit) 0 z)) ∙ h

unit_yes : (a b : Bool) (k : ℕ) → cond a (cond b k BAD_HEADER) SHORT_UNIT ≡ 0 → (a ≡ true) × (k ≡ 0)
unit_yes true true k h = (refl, h)
unit_yes true false k h = absurd (omega (arith, h))
unit_yes false b k h = absurd (omega (arith, h))

pub take_accepted : (e : End) (taken : List ℕ) (inbox unit : ℕ) → receive_unit_refusal e taken inbox unit ≡ 0 → UnitAsked e taken inbox unit
unfolding kind_refusal
take_accepted e taken inbox unit h =
    let q = end_yes (eqb (end_refusal e inbox unit) 0) e taken inbox unit refl h in
    let g = end_good e inbox unit q in
    let u =
    unit_yes (leb RU_START (length taken)) (header_good (header_in taken))
    (first_no (kind_questions e (header_received taken) (number_in taken) (ru_received taken)))
    (sym (take_passed e taken inbox unit q) ∙ h) in
    record { lent = g.0; good = g.1; long = u.0; kind_yes = u.1 }
