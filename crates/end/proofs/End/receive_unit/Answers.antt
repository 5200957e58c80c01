-- `End::receive_unit` meets its contract: the RU joins the inbox, and a bid's answer is written, as the decision says.
-- Assumes nothing.
use mathlib.Core.Path.{ap, ◌∙◌}
use lib.ListN.{length}
use Rattle.end.specs.declared.Done.{Done}
use Rattle.answers.specs.declared.Answer.{Answer}
use Rattle.end.proofs.ReceiveUnitCells.{take_rooms, take_left}
use Rattle.end.proofs.End.receive_unit.Goals as goal

pub join-requires : goal.join-requires
join-requires c = λ x.
    let a = c.args in
    take_rooms a.self a.taken.now a.inbox.now (length a.unit.now)
    (λ z. x (ap (λ (y : Done Answer). y.end.receiving.held) c.receive_unit_decision-done.ensures ∙ z))

pub returns : goal.returns
returns c = let a = c.args in
    let d = c.receive_unit_decision-done in
    take_left a.self a.taken.now a.inbox.now a.unit.now d.result _ _ _ d.ensures c.bid_answer-answer.ensures
    c.join.ensures c.write_made.ensures
