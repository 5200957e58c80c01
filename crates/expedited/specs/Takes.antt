-- A take on the expedited line: what is asked of the unit, and what it leaves.
-- Assumes nothing.
use Rattle.std.specs.Prelude.{ℕ, ◌+◌, Bool, not, cond, ◌&&◌, ◌||◌, List, [], ◌∷◌, eqb, leb, length, drop}
use Rattle.header.specs.Rules.{rule_number}
use Rattle.header.specs.ExpeditedHeader.{expedited_good, broken_expedited, expedited_fields, is_signal}
use Rattle.header.specs.declared.ExpeditedHeader.{ExpeditedHeader}
use Rattle.header.specs.declared.ExpeditedHeader.TheVariants.{SignalResponse}
use Rattle.unit.specs.Sequence.{next_number}
use Rattle.unit.specs.Unit.{RU_START, number_in, header_in}
use Rattle.unit.specs.ExpeditedUnit.{expedited_ru, expedited_ru_good}
use Rattle.answers.specs.FirstNo.{first_no}
use Rattle.answers.specs.Answers.{SHORT_UNIT, BAD_HEADER, BAD_RU, BAD_NUMBER, BAD_RESPONSE, accepted, refused, refused_naming, expedited_answer}
use Rattle.expedited.specs.Signals.{unit_taken}
use Rattle.expedited.specs.declared.Expedited.{Expedited}
use Rattle.expedited.specs.declared.ExpeditedTake.{ExpeditedTake}

abbrev pub header_taken : List ℕ → ExpeditedHeader
header_taken u = expedited_fields (header_in u)

abbrev pub ru_taken : List ℕ → List ℕ
ru_taken u = drop RU_START u

-- 23: is a signal's number the next one? 28: is a signal unanswered, and the response's number that signal's?
abbrev pub field_questions : Expedited → ExpeditedHeader → ℕ → List ℕ → List (Bool × ℕ)
field_questions x h n ru =
    (expedited_ru_good h ru, BAD_RU)
    ∷ (not (is_signal h) || eqb n (next_number x.taken), BAD_NUMBER)
    ∷ (is_signal h || (x.unanswered && eqb n x.sent), BAD_RESPONSE)
    ∷ []

-- 20 to 23 and 28
abbrev pub take_questions : Expedited → List ℕ → List (Bool × ℕ)
take_questions x u =
    (leb RU_START (length u), SHORT_UNIT)
    ∷ (expedited_good (header_in u), BAD_HEADER)
    ∷ field_questions x (header_taken u) (number_in u) (ru_taken u)

unfoldable pub field_refusal : Expedited → ExpeditedHeader → ℕ → List ℕ → ℕ
field_refusal x h n ru = first_no (field_questions x h n ru)

unfoldable pub take_refusal : Expedited → List ℕ → ℕ
take_refusal x u = first_no (take_questions x u)

-- the length of the unit made: a signal is answered
abbrev pub length_answered : ExpeditedHeader → ℕ
length_answered h = cond (is_signal h) (RU_START + length (expedited_ru SignalResponse)) 0

-- 21 names the rule that the header breaks
abbrev pub rule_taken : List ℕ → ℕ
rule_taken u = rule_number (broken_expedited (header_in u))

-- by its refusal number, 0 if it is accepted; a refused take changes nothing
abbrev pub taken_as : ℕ → Expedited → List ℕ → ExpeditedTake
taken_as q x u =
    record {
      answer = expedited_answer (cond (eqb q 0) (accepted (length_answered (header_taken u))) (refused_naming (rule_taken u) q)) (is_signal (header_taken u));
      next = cond (eqb q 0) (unit_taken (header_taken u) (number_in u) x) x;
    }

unfoldable pub unit_taken_by : Expedited → List ℕ → ExpeditedTake
unit_taken_by x u = taken_as (take_refusal x u) x u

-- the same, cut where its code is cut: of a unit whose heading is read
unfoldable pub headed_taken : Expedited → ExpeditedHeader → ℕ → List ℕ → ExpeditedTake
headed_taken x h n ru =
    let q : ℕ = field_refusal x h n ru in
    record {
      answer = expedited_answer (cond (eqb q 0) (accepted (length_answered h)) (refused q)) (is_signal h);
      next = cond (eqb q 0) (unit_taken h n x) x;
    }
