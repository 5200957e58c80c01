-- `end::End::receive_expedited` meets its contract. `write_made` writes what was decided: the response to a signal, or nothing.
-- Assumes nothing.
use mathlib.Core.Path.{ap}
use mathlib.Core.List.{List}
use Prim.Native.Nat.{ℕ}
use lib.ListN.{length}
use Rattle.end.specs.Results.{expedited_by}
use Rattle.end.specs.ReceiveExpedited.{receive_expedited_decision, expedited_done, receive_expedited}
use Rattle.end.proofs.ExpeditedCells.{take_left}
use Rattle.end.proofs.End.receive_expedited.Goals as goal

pub returns : goal.returns
unfolding receive_expedited
returns c =
    let a = c.args in
    let d = receive_expedited_decision a.self a.taken.now (length a.unit.now) in
    rw (c.write_made.ensures, c.receive_expedited_decision-done.ensures)
    (ap (λ (cells : List ℕ). expedited_by (expedited_done a.taken.now d) cells) (take_left a.self a.taken.now a.unit.now))
