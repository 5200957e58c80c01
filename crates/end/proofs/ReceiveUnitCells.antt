-- Take, from its decision: what its writers may rely on, and its cells.
-- Assumes nothing.
use Prim.Native.Nat.{ℕ, ◌+◌, ◌≤◌}
use mathlib.Core.Path.{◌≡◌, refl, sym, ap, ◌∙◌}
use mathlib.Core.Bool.{Bool, true, false, cond}
use mathlib.Core.List.{List, [], ◌∷◌}
use native.Mathlib.Omega.{arith}
use lib.Dec.{eqb}
use lib.ListN.{length, drop}
use borrow.Author.Tests.{eqb-true, eq-eqb, leb-true}
use Rattle.cells.specs.Cells.{written}
use Rattle.cells.proofs.Fronts.{written_none}
use Rattle.unit.specs.Ru.{fixed_ru}
use Rattle.unit.specs.Unit.{number_in, cells_made}
use Rattle.header.specs.declared.Header.{Header}
use Rattle.header.specs.declared.Header.TheVariants.{Data, Bid, ErrorDescription, PositiveBidResponse, NegativeBidResponse, Confirmation}
use Rattle.header.specs.declared.Header.TheVariants.{NegativeConfirmation, PacingResponse}
use Rattle.transitions.specs.Transitions.{bid_answer}
use Rattle.answers.specs.Answers.{accepted, refused, refused_naming}
use Rattle.answers.proofs.Rows.{yes}
use Rattle.unit.specs.Sequence.{next_number}
use Rattle.receiving.specs.Receiving.{request_received}
use Rattle.end.specs.Record.{record_good}
use Rattle.end.specs.Outcome.{a_unit, length_out, Decision, refuse}
use Rattle.end.specs.Results.{taken_by}
use Rattle.end.specs.ReceiveUnit.{kind_questions, header_received, ru_received, receive_unit_refusal, data_joined, bid_answered, credit_raised, kind_received, receive_unit_decision, kind_joined, inbox_cells, rule_named, done_naming, receive_unit, error_marked}
use Rattle.end.specs.Kinds.{kind_refusal}
use Rattle.end.proofs.RoomToReceive.{bid_room, bid_answer_length, inbox_is, joined_room}
use Rattle.end.proofs.ReceiveUnitRows.{kind_accepted, take_accepted}
use Rattle.end.proofs.DecisionCells.{Makes, none, one, wrote}
use Rattle.end.specs.declared.Done.{Done}
use Rattle.answers.specs.declared.Answer.{Answer}
use Rattle.end.specs.declared.End.{End}

-- ---- by kind

-- an RU that leaves as many bytes held as before is empty
data_joins : (t : Bool) (held : ℕ) (ru inbox : List ℕ) → eqb (held + length ru) held ≡ t → cond t inbox (written held ru inbox) ≡ written held ru inbox
data_joins false held ru inbox z = refl
data_joins true held [] inbox z = sym (written_none held inbox)
data_joins true held (x ∷ ru) inbox z = absurd (let e = eqb-true (held + length (x ∷ ru)) held z in omega arith)

kind_joins : (e : End) (h : Header) (n : ℕ) (ru inbox : List ℕ)
    → cond (eqb (kind_received e h n ru).end.receiving.held e.receiving.held) inbox (written e.receiving.held ru inbox) ≡ kind_joined e h ru inbox
unfolding data_joined error_marked bid_answered credit_raised request_received
kind_joins e (Data d) n ru inbox = data_joins (eqb (e.receiving.held + length ru) e.receiving.held) e.receiving.held ru inbox refl
kind_joins e (Bid p) n ru inbox = rw (eq-eqb e.receiving.held e.receiving.held refl)
kind_joins e (ErrorDescription p) n ru inbox = rw (eq-eqb e.receiving.held e.receiving.held refl)
kind_joins e PositiveBidResponse n ru inbox = rw (eq-eqb e.receiving.held e.receiving.held refl)
kind_joins e NegativeBidResponse n ru inbox = rw (eq-eqb e.receiving.held e.receiving.held refl)
kind_joins e Confirmation n ru inbox = rw (eq-eqb e.receiving.held e.receiving.held refl)
kind_joins e NegativeConfirmation n ru inbox = rw (eq-eqb e.receiving.held e.receiving.held refl)
kind_joins e PacingResponse n ru inbox = rw (eq-eqb e.receiving.held e.receiving.held refl)

kind_room : (e : End) (h : Header) (n : ℕ) (ru : List ℕ) → record_good e ≡ true → kind_refusal e h n ru ≡ 0
    → ((kind_received e h n ru).end.receiving.held ≡ e.receiving.held → ⊥) → e.receiving.held + length ru ≤ e.receiving.inbox
unfolding error_marked bid_answered credit_raised request_received
kind_room e (Data d) n ru g q x = joined_room e (Data d) d n ru g refl q
kind_room e (Bid p) n ru g q x = absurd (x refl)
kind_room e (ErrorDescription p) n ru g q x = absurd (x refl)
kind_room e PositiveBidResponse n ru g q x = absurd (x refl)
kind_room e NegativeBidResponse n ru g q x = absurd (x refl)
kind_room e Confirmation n ru g q x = absurd (x refl)
kind_room e NegativeConfirmation n ru g q x = absurd (x refl)
kind_room e PacingResponse n ru g q x = absurd (x refl)

-- a bid that is accepted carries the next number
bid_number : (e : End) (p : Bool) (n : ℕ) (ru : List ℕ) → kind_refusal e (Bid p) n ru ≡ 0 → n ≡ next_number e.receiving.number
unfolding kind_refusal
bid_number e p n ru q = eqb-true n (next_number e.receiving.number) (yes (kind_questions e (Bid p) n ru) tt q 2)

kind_makes : (e : End) (h : Header) (n : ℕ) (ru : List ℕ) (unit : ℕ) → 10 ≤ unit → kind_refusal e h n ru ≡ 0
    → (let d = kind_received e h n ru in Makes d d.end.receiving.number (bid_answer e.control) (fixed_ru (bid_answer e.control)) unit)
unfolding data_joined error_marked bid_answered credit_raised request_received
kind_makes e (Data d) n ru unit l q = none refl
kind_makes e (Bid p) n ru unit l q =
    one refl (ap (λ (k : ℕ). a_unit k (bid_answer e.control) (fixed_ru (bid_answer e.control))) (bid_number e p n ru q))
    (omega (arith, bid_answer_length e.control, l))
kind_makes e (ErrorDescription p) n ru unit l q = none refl
kind_makes e PositiveBidResponse n ru unit l q = none refl
kind_makes e NegativeBidResponse n ru unit l q = none refl
kind_makes e Confirmation n ru unit l q = none refl
kind_makes e NegativeConfirmation n ru unit l q = none refl
kind_makes e PacingResponse n ru unit l q = none refl

-- ---- of the call

abbrev chosen : Bool → End → List ℕ → ℕ → ℕ → Decision
chosen t e taken inbox unit =
    cond t (kind_received e (header_received taken) (number_in taken) (ru_received taken)) (refuse (receive_unit_refusal e taken inbox unit) e)

joins : (t : Bool) (e : End) (taken inbox : List ℕ) (unit : ℕ) → eqb (receive_unit_refusal e taken (length inbox) unit) 0 ≡ t
    → (let d = chosen t e taken (length inbox) unit in
    cond (eqb d.end.receiving.held e.receiving.held) inbox (written e.receiving.held (ru_received taken) inbox) ≡ inbox_cells e taken d.refusal inbox)
unfolding inbox_cells
joins false e taken inbox unit z = rw (z, eq-eqb e.receiving.held e.receiving.held refl)
joins true e taken inbox unit z =
    rw (kind_accepted e (header_received taken) (number_in taken) (ru_received taken)) (kind_joins e (header_received taken) (number_in taken) (ru_received taken) inbox)

rooms : (t : Bool) (e : End) (taken inbox : List ℕ) (unit : ℕ) → eqb (receive_unit_refusal e taken (length inbox) unit) 0 ≡ t
    → ((chosen t e taken (length inbox) unit).end.receiving.held ≡ e.receiving.held → ⊥)
    → (5 ≤ length taken) × (e.receiving.held + length (ru_received taken) ≤ length inbox)
rooms false e taken inbox unit z x = absurd (x refl)
rooms true e taken inbox unit z x =
    let k = take_accepted e taken (length inbox) unit (eqb-true (receive_unit_refusal e taken (length inbox) unit) 0 z) in
    let r = kind_room e (header_received taken) (number_in taken) (ru_received taken) k.good k.kind_yes x in
    (leb-true 5 (length taken) k.long, omega (arith, r, inbox_is e (length inbox) unit k.lent))

pub take_rooms : (e : End) (taken inbox : List ℕ) (unit : ℕ)
    → ((receive_unit_decision e taken (length inbox) unit).end.receiving.held ≡ e.receiving.held → ⊥)
    → (5 ≤ length taken) × (e.receiving.held + length (ru_received taken) ≤ length inbox)
unfolding receive_unit_decision
take_rooms e taken inbox unit x = rooms (eqb (receive_unit_refusal e taken (length inbox) unit) 0) e taken inbox unit refl x

makes : (t : Bool) (e : End) (taken : List ℕ) (inbox unit : ℕ) → eqb (receive_unit_refusal e taken inbox unit) 0 ≡ t
    → (let d = chosen t e taken inbox unit in Makes d d.end.receiving.number (bid_answer e.control) (fixed_ru (bid_answer e.control)) unit)
makes false e taken inbox unit z = none refl
makes true e taken inbox unit z =
    let k = take_accepted e taken inbox unit (eqb-true (receive_unit_refusal e taken inbox unit) 0 z) in
    kind_makes e (header_received taken) (number_in taken) (ru_received taken) unit (bid_room e inbox unit k.lent k.good) k.kind_yes

naming_length : (b : Bool) (n q rule : ℕ) → (cond b (accepted n) (refused_naming rule q)).unit ≡ (cond b (accepted n) (refused q)).unit
naming_length true n q rule = refl
naming_length false n q rule = refl

-- written by what the decision says, the cells are the definition's
pub take_wrote : (e : End) (taken inbox unit : List ℕ)
    → (let d = receive_unit_decision e taken (length inbox) (length unit) in
    let r = done_naming taken d in
    taken_by r
    (cond (eqb r.end.receiving.held e.receiving.held) inbox (written e.receiving.held (drop 5 taken) inbox))
    (cond (eqb r.answer.unit 0) unit (cells_made r.end.receiving.number (bid_answer e.control) (fixed_ru (bid_answer e.control)) unit))
    ≡ receive_unit e taken inbox unit)
unfolding receive_unit_decision receive_unit
take_wrote e taken inbox unit =
    let q = receive_unit_refusal e taken (length inbox) (length unit) in
    let d = chosen (eqb q 0) e taken (length inbox) (length unit) in
    rw (
      naming_length (eqb d.refusal 0) (length_out d.out) d.refusal (rule_named taken),
      joins (eqb q 0) e taken inbox (length unit) refl,
      wrote d d.end.receiving.number (bid_answer e.control) (fixed_ru (bid_answer e.control)) unit (makes (eqb q 0) e taken (length inbox) (length unit) refl),
    )

-- the same, of what the code hands back and leaves
pub take_left : (e : End) (taken inbox unit : List ℕ) (r : Done Answer) (answer : Header) (i u : List ℕ)
    → r ≡ done_naming taken (receive_unit_decision e taken (length inbox) (length unit))
    → answer ≡ bid_answer e.control
    → i ≡ cond (eqb r.end.receiving.held e.receiving.held) inbox (written e.receiving.held (drop 5 taken) inbox)
    → u ≡ cond (eqb r.answer.unit 0) unit (cells_made r.end.receiving.number answer (fixed_ru answer) unit)
    → taken_by r i u ≡ receive_unit e taken inbox unit
take_left e taken inbox unit r answer i u decided b j w =
    let made : Done Answer → List ℕ = λ (x : Done Answer). cond (eqb x.answer.unit 0) unit (cells_made x.end.receiving.number answer (fixed_ru answer) unit) in
    let held : Done Answer → List ℕ =
    λ (x : Done Answer). cond (eqb x.end.receiving.held e.receiving.held) inbox (written e.receiving.held (drop 5 taken) inbox) in
    let cells : taken_by r i u ≡ taken_by r (held r) (made r) = λ k. taken_by r (j k) (w k) in
    cells ∙ ap (λ (x : Done Answer). taken_by x (held x) (made x)) decided ∙ rw b (take_wrote e taken inbox unit)
