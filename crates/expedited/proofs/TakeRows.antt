-- A take on the expedited line: its row of questions where the code stops.
-- Assumes nothing.
use Prim.Native.Nat.{ℕ}
use mathlib.Core.Path.{◌≡◌, refl, ap, ◌∙◌}
use mathlib.Core.Bool.{true, false, cond}
use mathlib.Core.List.{List}
use lib.Dec.{eqb, leb}
use lib.ListN.{length}
use Rattle.std.specs.Prelude.{Ok, Err}
use Rattle.header.specs.Rules.{rule_number}
use Rattle.header.specs.ExpeditedHeader.{expedited_good, broken_expedited, is_signal}
use Rattle.header.specs.declared.ExpeditedHeader.{ExpeditedHeader}
use Rattle.header.specs.declared.Rule.{Rule}
use Rattle.unit.specs.Unit.{RU_START, number_in, header_in}
use Rattle.unit.specs.ExpeditedUnit.{expedited_heading, read_expedited_unit}
use Rattle.unit.proofs.ReadByHeader.{good_of, short_of, broken_of}
use Rattle.unit.specs.declared.Heading.{Heading}
use Rattle.unit.specs.declared.Unreadable.TheVariants.{TooShort, Breaks}
use Rattle.answers.specs.Answers.{BAD_HEADER, refused, refused_naming, expedited_answer}
use Rattle.answers.specs.declared.Answer.{Answer}
use Rattle.answers.proofs.Naming.{naming}
use Rattle.answers.proofs.TwoRows.{never}
use Rattle.expedited.specs.Signals.{unit_taken}
use Rattle.expedited.specs.Takes.{header_taken, ru_taken, field_questions, field_refusal, take_refusal, length_answered, rule_taken, unit_taken_by, headed_taken}
use Rattle.expedited.specs.declared.Expedited.{Expedited}

-- ---- the answer where it is too short, or breaks a rule

pub short_taken : (x : Expedited) (u : List ℕ) → Err TooShort ≡ read_expedited_unit u
    → record { answer = record { answer = refused 20; signalled = false }; next = x } ≡ unit_taken_by x u
unfolding read_expedited_unit unit_taken_by take_refusal
short_taken x u e = rw (short_of (leb RU_START (length u)) (expedited_good (header_in u)) (expedited_heading u) (broken_expedited (header_in u)) e)

pub broken_taken : (x : Expedited) (u : List ℕ) (rule : Rule) → Err (Breaks rule) ≡ read_expedited_unit u
    → record { answer = record { answer = refused_naming (rule_number rule) 21; signalled = false }; next = x } ≡ unit_taken_by x u
unfolding read_expedited_unit unit_taken_by take_refusal
broken_taken x u rule e =
    let t = broken_of (leb RU_START (length u)) (expedited_good (header_in u)) (expedited_heading u) rule (broken_expedited (header_in u)) e in
    rw (t.0, t.1, t.2)

-- ---- the rest of the row

asks_no_21 : (x : Expedited) (h : ExpeditedHeader) (n : ℕ) (ru : List ℕ) → field_refusal x h n ru ≡ BAD_HEADER → ⊥
unfolding field_refusal
asks_no_21 x h n ru q = never 21 (field_questions x h n ru) refl q

pub long : (u : List ℕ) (h : Heading ExpeditedHeader) → Ok h ≡ read_expedited_unit u → leb RU_START (length u) ≡ true
unfolding read_expedited_unit
long u h e = (good_of (leb RU_START (length u)) (expedited_good (header_in u)) h (expedited_heading u) (broken_expedited (header_in u)) e).0

row_left : (x : Expedited) (u : List ℕ) → leb RU_START (length u) ≡ true → expedited_good (header_in u) ≡ true
    → take_refusal x u ≡ field_refusal x (header_taken u) (number_in u) (ru_taken u)
unfolding take_refusal field_refusal
row_left x u l g = rw (l, g)

headed_is : (x : Expedited) (u : List ℕ) → take_refusal x u ≡ field_refusal x (header_taken u) (number_in u) (ru_taken u)
    → headed_taken x (header_taken u) (number_in u) (ru_taken u) ≡ unit_taken_by x u
unfolding headed_taken unit_taken_by
headed_is x u e =
    let h = header_taken u in
    let q = field_refusal x h (number_in u) (ru_taken u) in
    ap (λ (a : Answer). record { answer = expedited_answer a (is_signal h); next = cond (eqb q 0) (unit_taken h (number_in u) x) x })
    (naming (eqb q 0) (length_answered h) q (rule_taken u) (asks_no_21 x h (number_in u) (ru_taken u)))
    ∙ rw (← e)

pub headed_taken_lem : (x : Expedited) (u : List ℕ) (h : Heading ExpeditedHeader) → Ok h ≡ read_expedited_unit u
    → headed_taken x h.header h.number (ru_taken u) ≡ unit_taken_by x u
unfolding read_expedited_unit expedited_heading
headed_taken_lem x u h e =
    let t = good_of (leb RU_START (length u)) (expedited_good (header_in u)) h (expedited_heading u) (broken_expedited (header_in u)) e in
    ap (λ (k : Heading ExpeditedHeader). headed_taken x k.header k.number (ru_taken u)) t.2 ∙ headed_is x u (row_left x u t.0 t.1)
