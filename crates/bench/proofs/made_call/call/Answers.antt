-- `bench::made_call::call` meets its contract. Each call is the one of two joined ends, by what it ensures.
-- Assumes nothing.
use mathlib.Core.Path.{refl, sym, ap}
use mathlib.Core.Bool.{false≢true}
use Rattle.calls.specs.Calls.{called, makes, sends, signals}
use Rattle.bench.specs.CallMade.{station_of}
use Rattle.bench.proofs.CallLeaves.{deferred_left, withdrawn_left, copied_left}
use Rattle.bench.proofs.made_call.call.Goals as goal

pub returns-in-Allocate : goal.returns-in-Allocate
unfolding called
returns-in-Allocate c =
    let a = c.args in
    rw (c.in-Allocate.is, c.plain.ensures)
    record {
      acted = ap (makes (station_of a.end a.send.now a.unit.now a.inbox.now)) c.allocate.ensures;
      unread = λ n. refl;
    }

pub returns-in-Confirmed : goal.returns-in-Confirmed
unfolding called
returns-in-Confirmed c =
    let a = c.args in
    rw (c.in-Confirmed.is, c.plain-in-Confirmed.ensures)
    record {
      acted = ap (makes (station_of a.end a.send.now a.unit.now a.inbox.now)) c.confirmed.ensures;
      unread = λ n. refl;
    }

pub returns-in-SendError : goal.returns-in-SendError
unfolding called
returns-in-SendError c =
    let a = c.args in
    rw (c.in-SendError.is, c.plain-in-SendError.ensures)
    record {
      acted = ap (makes (station_of a.end a.send.now a.unit.now a.inbox.now)) c.send_error.ensures;
      unread = λ n. refl;
    }

pub returns-in-RequestToSend : goal.returns-in-RequestToSend
unfolding called
returns-in-RequestToSend c =
    let a = c.args in
    rw (c.in-RequestToSend.is, c.plain-in-RequestToSend.ensures)
    record {
      acted = ap (signals (station_of a.end a.send.now a.unit.now a.inbox.now)) c.request_to_send.ensures;
      unread = λ n. refl;
    }

pub returns-in-SendPacingResponse : goal.returns-in-SendPacingResponse
unfolding called
returns-in-SendPacingResponse c =
    let a = c.args in
    rw (c.in-SendPacingResponse.is, c.plain-in-SendPacingResponse.ensures)
    record {
      acted = ap (makes (station_of a.end a.send.now a.unit.now a.inbox.now)) c.send_pacing_response.ensures;
      unread = λ n. refl;
    }

pub returns-in-SendData : goal.returns-in-SendData
unfolding called
returns-in-SendData c =
    let a = c.args in
    rw (c.in-SendData.is, c.plain-in-SendData.ensures)
    record {
      acted = ap (sends (station_of a.end a.send.now a.unit.now a.inbox.now)) c.send_data.ensures;
      unread = λ n. refl;
    }

pub returns-in-Close : goal.returns-in-Close
unfolding called
returns-in-Close c =
    let a = c.args in
    rw (c.in-Close.is, c.plain-in-Close.ensures)
    record {
      acted = ap (makes (station_of a.end a.send.now a.unit.now a.inbox.now)) c.close.ensures;
      unread = λ n. refl;
    }

pub returns-in-Defer : goal.returns-in-Defer
unfolding called
returns-in-Defer c =
    let a = c.args in
    rw (c.in-Defer.is, c.plain-in-Defer.ensures)
    record {
      acted = deferred_left (station_of a.end a.send.now a.unit.now a.inbox.now) _ c.defer.result a.buffer.now c.defer.ensures;
      unread = λ n. refl;
    }

pub returns-in-Withdraw : goal.returns-in-Withdraw
unfolding called
returns-in-Withdraw c =
    let a = c.args in
    rw (c.in-Withdraw.is, c.plain-in-Withdraw.ensures)
    record {
      acted = withdrawn_left (station_of a.end a.send.now a.unit.now a.inbox.now) c.withdraw.result a.buffer.now c.withdraw.ensures;
      unread = λ n. refl;
    }

pub returns-in-Receive : goal.returns-in-Receive
unfolding called
returns-in-Receive c =
    let a = c.args in
    let d = c.receive in
    rw c.in-Receive.is
    record {
      acted = copied_left (station_of a.end a.send.now a.unit.now a.inbox.now) d.result d.new.inbox d.new.buffer a.buffer.now d.ensures;
      unread = λ n. absurd (false≢true (sym n));
    }
