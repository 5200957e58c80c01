-- `end::End::allocate` meets its contract. `write_made` writes what `allocate_decision` decided: a bid, or nothing.
-- Assumes nothing.
use mathlib.Core.Path.{ap}
use mathlib.Core.List.{List}
use Prim.Native.Nat.{ℕ}
use lib.ListN.{length}
use Rattle.unit.specs.Ru.{bid_ru}
use Rattle.header.specs.declared.Header.TheVariants.{Bid}
use Rattle.pacing.specs.Pacing.{paced}
use Rattle.end.specs.Outcome.{done_of}
use Rattle.end.specs.Results.{made_by}
use Rattle.end.specs.Allocate.{allocate_decision, allocate}
use Rattle.end.proofs.DecisionCells.{wrote}
use Rattle.end.proofs.UnitsMade.{allocate_makes}
use Rattle.end.proofs.End.allocate.Goals as goal

pub returns : goal.returns
unfolding allocate
returns c = let a = c.args in
    let d = allocate_decision a.self (length a.unit.now) in
    rw (c.write_made.ensures, c.paced.ensures, c.allocate_decision-done.ensures)
    (ap (λ (cells : List ℕ). made_by (done_of d) cells)
    (wrote d d.end.bidding (Bid (paced a.self.sending.window)) bid_ru a.unit.now (allocate_makes a.self (length a.unit.now))))
