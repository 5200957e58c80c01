-- `end::End::confirmed` meets its contract. `write_made` writes what `confirmed_decision` decided: a confirmation, or nothing.
-- Assumes nothing.
use mathlib.Core.Path.{ap}
use mathlib.Core.List.{List, []}
use Prim.Native.Nat.{ℕ}
use lib.ListN.{length}
use Rattle.header.specs.declared.Header.TheVariants.{Confirmation}
use Rattle.end.specs.Outcome.{done_of}
use Rattle.end.specs.Results.{made_by}
use Rattle.end.specs.Confirmed.{confirmed_decision, confirmed}
use Rattle.end.proofs.DecisionCells.{wrote}
use Rattle.end.proofs.UnitsMade.{confirmed_makes}
use Rattle.end.proofs.End.confirmed.Goals as goal

pub returns : goal.returns
unfolding confirmed
returns c = let a = c.args in
    let d = confirmed_decision a.self (length a.unit.now) in
    rw (c.write_made.ensures, c.confirmed_decision-done.ensures)
    (ap (λ (cells : List ℕ). made_by (done_of d) cells) (wrote d a.self.owed Confirmation [] a.unit.now (confirmed_makes a.self (length a.unit.now))))
