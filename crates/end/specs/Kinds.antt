-- Take, cut where its code is cut: what is asked of the end alone; and, of a unit whose header is read, the rest by its kind.
-- Assumes nothing.
use Rattle.std.specs.Prelude.{ℕ, List}
use Rattle.header.specs.declared.Header.{Header}
use Rattle.answers.specs.FirstNo.{first_no}
use Rattle.end.specs.Outcome.{Decision, decided}
use Rattle.end.specs.ReceiveUnit.{end_questions, kind_questions, kind_received}
use Rattle.end.specs.declared.End.{End}

-- the first three of the row, before a byte of the unit is read
unfoldable pub end_refusal : End → ℕ → ℕ → ℕ
end_refusal e inbox unit = first_no (end_questions e inbox unit)

-- the part of the row that the kind decides
unfoldable pub kind_refusal : End → Header → ℕ → List ℕ → ℕ
kind_refusal e h n ru = first_no (kind_questions e h n ru)

unfoldable pub kind_decision : End → Header → ℕ → List ℕ → Decision
kind_decision e h n ru = decided (kind_refusal e h n ru) e (kind_received e h n ru)
