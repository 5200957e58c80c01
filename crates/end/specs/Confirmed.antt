-- Confirmed, in Owes: a confirmation of the number owed.
-- Assumes nothing.
use Rattle.std.specs.Prelude.{ℕ, Bool, List, [], ◌∷◌, length}
use Rattle.header.specs.declared.Header.TheVariants.{Confirmation}
use Rattle.control.specs.Questions.{may_confirm}
use Rattle.transitions.specs.Transitions.{confirmation_made}
use Rattle.answers.specs.FirstNo.{first_no}
use Rattle.answers.specs.Answers.{BAD_BUFFER, BAD_RECORD, WRONG_STATE}
use Rattle.end.specs.Record.{record_good, unit_lent}
use Rattle.end.specs.Outcome.{a_unit, Decision, accept, decided, Made, made, with_control}
use Rattle.end.specs.declared.End.{End}

abbrev pub confirmed_questions : End → ℕ → List (Bool × ℕ)
confirmed_questions e n = (unit_lent e n, BAD_BUFFER) ∷ (record_good e, BAD_RECORD) ∷ (may_confirm e.control, WRONG_STATE) ∷ []

unfoldable pub confirmed_refusal : End → ℕ → ℕ
confirmed_refusal e n = first_no (confirmed_questions e n)

unfoldable pub confirmed_decision : End → ℕ → Decision
confirmed_decision e n =
    decided (confirmed_refusal e n) e (accept (with_control (confirmation_made e.control) e) (a_unit e.owed Confirmation []))

unfoldable pub confirmed : End → List ℕ → Made
confirmed e cells = made (confirmed_decision e (length cells)) cells
