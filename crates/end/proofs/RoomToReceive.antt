-- A unit that no question refused: what is written of it has room.
-- Assumes nothing.
use Prim.Native.Nat.{ℕ, ◌+◌, ◌*◌, ◌≤◌}
use mathlib.Core.Path.{◌≡◌, sym, ap, ◌∙◌}
use mathlib.Core.Bool.{Bool, true, false, cond, ◌&&◌, ◌||◌}
use mathlib.Core.List.{List}
use native.Mathlib.Nat.{le_refl, mul-le-mul}
use native.Mathlib.Omega.{arith}
use lib.Dec.{leb}
use lib.ListN.{length}
use borrow.Author.Tests.{leb-true, eqb-true}
use Rattle.unit.specs.Ru.{marks, ru_good, fixed_ru}
use Rattle.header.specs.declared.DataHeader.{DataHeader}
use Rattle.header.specs.declared.Header.{Header}
use Rattle.header.specs.declared.Header.TheVariants.{Data, PositiveBidResponse, NegativeBidResponse}
use Rattle.pacing.specs.Pacing.{credit, has_credit, paced}
use Rattle.control.specs.StateTests.{is_reset, agree}
use Rattle.transitions.specs.Transitions.{bid_answer}
use Rattle.control.specs.declared.Control.{Control}
use Rattle.answers.specs.FirstNo.{first_no}
use Rattle.answers.proofs.Rows.{yes}
use Rattle.end.specs.Record.{record_good, inbox_lent, unit_lent}
use Rattle.end.specs.ReceiveUnit.{end_questions, kind_questions}
use Rattle.end.specs.Kinds.{end_refusal, kind_refusal}
use Rattle.end.proofs.RecordGood.{facts}
use Rattle.end.specs.declared.End.{End}
use Rattle.bools.proofs.Tests.{both}

pub end_good : (e : End) (inbox unit : ℕ) → end_refusal e inbox unit ≡ 0
    → (inbox_lent e inbox && unit_lent e unit ≡ true) × (record_good e ≡ true)
unfolding end_refusal
end_good e inbox unit q = let t = yes (end_questions e inbox unit) tt q in (t 0, t 1)

-- the longest answer of a bid has ten bytes: M is at least 8
pub bid_room : (e : End) (inbox unit : ℕ) → inbox_lent e inbox && unit_lent e unit ≡ true → record_good e ≡ true → 10 ≤ unit
bid_room e inbox unit l g =
    let u = leb-true (e.sending.max + 5) unit (both (inbox_lent e inbox) (unit_lent e unit) l).1 in
    let s = (facts e g).sending in
    omega arith

answer_length : (b : Bool) → length (fixed_ru (cond b PositiveBidResponse NegativeBidResponse)) ≤ 5
answer_length true = omega arith
answer_length false = omega arith

pub bid_answer_length : (c : Control) → length (fixed_ru (bid_answer c)) ≤ 5
bid_answer_length c = answer_length (is_reset c.state)

pub inbox_is : (e : End) (inbox unit : ℕ) → inbox_lent e inbox && unit_lent e unit ≡ true → inbox ≡ e.receiving.inbox
inbox_is e inbox unit l = eqb-true inbox e.receiving.inbox (both (inbox_lent e inbox) (unit_lent e unit) l).0

-- an open request has room for one data RU
data_room : (e : End) (d : DataHeader) (n : ℕ) (ru : List ℕ) → record_good e ≡ true → first_no (kind_questions e (Data d) n ru) ≡ 0
    → e.receiving.held + length ru ≤ e.receiving.inbox
unfolding ru_good
data_room e d n ru g q =
    let t = yes (kind_questions e (Data d) n ru) tt q in
    let r = e.receiving in
    let room = (facts e g).receiving.room in
    let short = leb-true (length ru) r.max (both (leb (length ru) r.max) (leb 1 (length ru) || marks d.ends) (t 0)).0 in
    let open-one = leb-true 1 (credit r.window) (both (has_credit r.window) (agree d.pacing (paced r.window)) (t 1)).0 in
    let most : 1 * r.max ≤ credit r.window * r.max = mul-le-mul open-one (le_refl r.max) in
    omega arith

pub joined_room : (e : End) (h : Header) (d : DataHeader) (n : ℕ) (ru : List ℕ) → record_good e ≡ true → h ≡ Data d → kind_refusal e h n ru ≡ 0
    → e.receiving.held + length ru ≤ e.receiving.inbox
unfolding kind_refusal
joined_room e h d n ru g i q = data_room e d n ru g (sym (ap (λ (x : Header). first_no (kind_questions e x n ru)) i) ∙ q)
