-- Pace: a pacing answer, numbered 0; owed off, open up by W.
-- Assumes nothing.
use Rattle.std.specs.Prelude.{ℕ, Bool, List, [], ◌∷◌, length}
use Rattle.header.specs.declared.Header.TheVariants.{PacingResponse}
use Rattle.answers.specs.FirstNo.{first_no}
use Rattle.answers.specs.Answers.{BAD_BUFFER, BAD_RECORD, NOTHING_TO_PACE}
use Rattle.receiving.specs.Receiving.{may_answer_pacing, window_answered}
use Rattle.end.specs.Record.{record_good, unit_lent}
use Rattle.end.specs.Outcome.{a_unit, Decision, accept, decided, Made, made, with_receiving}
use Rattle.end.specs.declared.End.{End}

abbrev pub send_pacing_response_questions : End → ℕ → List (Bool × ℕ)
send_pacing_response_questions e n = (unit_lent e n, BAD_BUFFER) ∷ (record_good e, BAD_RECORD) ∷ (may_answer_pacing e.receiving, NOTHING_TO_PACE) ∷ []

unfoldable pub send_pacing_response_refusal : End → ℕ → ℕ
send_pacing_response_refusal e n = first_no (send_pacing_response_questions e n)

unfoldable pub send_pacing_response_decision : End → ℕ → Decision
send_pacing_response_decision e n =
    decided (send_pacing_response_refusal e n) e (accept (with_receiving (window_answered e.receiving) e) (a_unit 0 PacingResponse []))

unfoldable pub send_pacing_response : End → List ℕ → Made
send_pacing_response e cells = made (send_pacing_response_decision e (length cells)) cells
