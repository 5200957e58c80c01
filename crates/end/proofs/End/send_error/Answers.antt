-- `end::End::send_error` meets its contract. `write_made` writes what `send_error_decision` decided: a negative confirmation, or nothing.
-- Assumes nothing.
use mathlib.Core.Path.{ap}
use mathlib.Core.List.{List}
use Prim.Native.Nat.{ℕ}
use lib.ListN.{length}
use Rattle.unit.specs.Ru.{negative_confirmation_ru}
use Rattle.header.specs.declared.Header.TheVariants.{NegativeConfirmation}
use Rattle.end.specs.Outcome.{done_of}
use Rattle.end.specs.Results.{made_by}
use Rattle.end.specs.SendError.{send_error_decision, send_error}
use Rattle.end.proofs.DecisionCells.{wrote}
use Rattle.end.proofs.UnitsMade.{send_error_makes}
use Rattle.end.proofs.End.send_error.Goals as goal

pub returns : goal.returns
unfolding send_error
returns c = let a = c.args in
    let d = send_error_decision a.self (length a.unit.now) in
    rw (c.write_made.ensures, c.send_error_decision-done.ensures)
    (ap (λ (cells : List ℕ). made_by (done_of d) cells) (wrote d a.self.owed NegativeConfirmation negative_confirmation_ru a.unit.now (send_error_makes a.self (length a.unit.now))))
