-- Send error, in Owes: the confirmation of the number owed is refused, with the sense that an error header follows; flush makes that. It asks what confirmed
-- asks.
-- Assumes nothing.
use Rattle.std.specs.Prelude.{ℕ, List, length}
use Rattle.unit.specs.Ru.{negative_confirmation_ru}
use Rattle.header.specs.declared.Header.TheVariants.{NegativeConfirmation}
use Rattle.transitions.specs.Transitions.{confirmation_denied}
use Rattle.end.specs.Confirmed.{confirmed_refusal}
use Rattle.end.specs.Outcome.{a_unit, Decision, accept, decided, Made, made, with_control}
use Rattle.end.specs.declared.End.{End}

-- what follows and the number owed keep their values
unfoldable pub send_error_decision : End → ℕ → Decision
send_error_decision e n =
    decided (confirmed_refusal e n) e
    (accept (with_control (confirmation_denied e.control) e) (a_unit e.owed NegativeConfirmation negative_confirmation_ru))

unfoldable pub send_error : End → List ℕ → Made
send_error e cells = made (send_error_decision e (length cells)) cells
