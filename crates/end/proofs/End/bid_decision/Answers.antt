-- `end::End::bid_decision` meets its contract. A request is counted, the finite part is allocated, and the length is that of a bid.
-- Assumes nothing.
use Rattle.sending.specs.Sending.{request_made}
use Rattle.end.specs.Allocate.{bid_made}
use Rattle.end.proofs.End.bid_decision.Goals as goal

pub returns : goal.returns
unfolding bid_made request_made
returns c = rw (
  c.fixed_made.ensures,
  c.with_sending-end.ensures,
  c.with_control.ensures,
  c.request_sent-next.ensures,
  c.allocated-control.ensures,
)
