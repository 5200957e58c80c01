-- `end::End::send_pacing_response` meets its contract. `write_made` writes what was decided: a pacing response, or nothing.
-- Assumes nothing.
use mathlib.Core.Path.{ap}
use mathlib.Core.List.{List, []}
use Prim.Native.Nat.{ℕ}
use lib.ListN.{length}
use Rattle.header.specs.declared.Header.TheVariants.{PacingResponse}
use Rattle.end.specs.Outcome.{done_of}
use Rattle.end.specs.Results.{made_by}
use Rattle.end.specs.SendPacingResponse.{send_pacing_response_decision, send_pacing_response}
use Rattle.end.proofs.DecisionCells.{wrote}
use Rattle.end.proofs.UnitsMade.{pacing_response_makes}
use Rattle.end.proofs.End.send_pacing_response.Goals as goal

pub returns : goal.returns
unfolding send_pacing_response
returns c = let a = c.args in
    let d = send_pacing_response_decision a.self (length a.unit.now) in
    rw (c.write_made.ensures, c.send_pacing_response_decision-done.ensures)
    (ap (λ (cells : List ℕ). made_by (done_of d) cells) (wrote d (0) PacingResponse [] a.unit.now (pacing_response_makes a.self (length a.unit.now))))
