-- Prepare a turn or an end, in Send with the last record whole: it is only noted in the record. Withdraw it, in Defer: Send is back, with nothing else
-- changed. Neither call is lent anything or makes a unit.
-- Assumes nothing.
use Rattle.std.specs.Prelude.{ℕ, Bool, List, [], ◌∷◌}
use Rattle.logical_record.specs.Positions.{is_whole}
use Rattle.control.specs.Questions.{may_send, may_withdraw}
use Rattle.control.specs.declared.Deferred.{Deferred}
use Rattle.transitions.specs.Transitions.{deferred, withdrawn}
use Rattle.answers.specs.FirstNo.{first_no}
use Rattle.answers.specs.Answers.{BAD_RECORD, WRONG_STATE, UNFINISHED_RECORD}
use Rattle.end.specs.Record.{record_good}
use Rattle.end.specs.Outcome.{nothing, Decision, accept, decided, done_of, with_control}
use Rattle.end.specs.declared.End.{End}
use Rattle.end.specs.declared.Done.{Done}
use Rattle.answers.specs.declared.Answer.{Answer}

-- ---- prepare

abbrev pub defer_questions : End → List (Bool × ℕ)
defer_questions e = (record_good e, BAD_RECORD) ∷ (may_send e.control, WRONG_STATE) ∷ (is_whole e.sending.given, UNFINISHED_RECORD) ∷ []

unfoldable pub defer_refusal : End → ℕ
defer_refusal e = first_no (defer_questions e)

unfoldable pub defer_decision : End → Deferred → Decision
defer_decision e d = decided (defer_refusal e) e (accept (with_control (deferred d e.control) e) nothing)

unfoldable pub defer : Deferred → End → Done Answer
defer d e = done_of (defer_decision e d)

-- ---- withdraw

abbrev pub withdraw_questions : End → List (Bool × ℕ)
withdraw_questions e = (record_good e, BAD_RECORD) ∷ (may_withdraw e.control, WRONG_STATE) ∷ []

unfoldable pub withdraw_refusal : End → ℕ
withdraw_refusal e = first_no (withdraw_questions e)

unfoldable pub withdraw_decision : End → Decision
withdraw_decision e = decided (withdraw_refusal e) e (accept (with_control (withdrawn e.control) e) nothing)

unfoldable pub withdraw : End → Done Answer
withdraw e = done_of (withdraw_decision e)
