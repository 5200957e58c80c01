-- `end::End::request_to_send` meets its contract. `write_made` writes what was decided: a signal, or nothing.
-- Assumes nothing.
use mathlib.Core.Path.{ap}
use mathlib.Core.List.{List}
use Prim.Native.Nat.{ℕ}
use lib.ListN.{length}
use Rattle.end.specs.Outcome.{done_of}
use Rattle.end.specs.Results.{made_by}
use Rattle.end.specs.RequestToSend.{request_decision, request_to_send}
use Rattle.end.proofs.ExpeditedCells.{request_left}
use Rattle.end.proofs.End.request_to_send.Goals as goal

pub returns : goal.returns
unfolding request_to_send
returns c =
    let a = c.args in
    let d = request_decision a.self (length a.unit.now) in
    rw (c.write_made.ensures, c.request_to_send_decision-done.ensures)
    (ap (λ (cells : List ℕ). made_by (done_of d) cells) (request_left a.self a.unit.now))
