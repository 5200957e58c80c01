-- `end::End::receive_expedited_decision` meets its contract: where the code stops, the row of questions stops.
-- Assumes nothing.
use Rattle.answers.proofs.Outcomes.{passed, stopped, not_passed}
use Rattle.end.proofs.ExpeditedCells.{unlooked, looked}
use Rattle.end.proofs.End.receive_expedited_decision.Goals as goal

pub returns-in-Err : goal.returns-in-Err
returns-in-Err c =
    let a = c.args in
    let q = c.lent_refusal.ensures in
    rw (c.expedited_answer.ensures, c.refuse.ensures, stopped c.in-Err.is q c.into.ensures)
    (unlooked a.self a.taken.now a.unit (not_passed c.in-Err.is q))

pub returns : goal.returns
returns c =
    let a = c.args in
    let t = c.take_unit-took in
    rw c.with_expedited.ensures
    (looked a.self a.taken.now a.unit t.result (passed c.in_default.is c.lent_refusal.ensures) t.ensures)
