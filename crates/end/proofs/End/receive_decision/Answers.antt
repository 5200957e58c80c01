-- `end::End::receive_decision` meets its contract: where bytes are read, every question was answered yes, and so the inbox has them.
-- Assumes nothing.
use Rattle.answers.proofs.Outcomes.{passed}
use Rattle.end.proofs.ReceiveCells.{read_room}
use Rattle.end.proofs.End.receive_decision.Goals as goal

pub bytes_decision-requires : goal.bytes_decision-requires
bytes_decision-requires c = let a = c.args in
    (c.record_rest-rest.ensures, read_room a.self a.inbox.now a.buffer (passed c.in_default.is c.receive_refusal.ensures))
