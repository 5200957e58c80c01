-- A call on the bench is a call of two joined ends: the same end and cells, the same answer, the same unit made, on the same lane.
-- Assumes nothing.
use Rattle.std.specs.Prelude.{ℕ, Bool, true, false, cond, List, []}
use Rattle.end.specs.declared.End.{End}
use Rattle.end.specs.declared.Done.{Done}
use Rattle.answers.specs.declared.Answer.{Answer}
use Rattle.answers.specs.declared.ExpeditedAnswer.{ExpeditedAnswer}
use Rattle.answers.specs.declared.ReadAnswer.{ReadAnswer}
use Rattle.calls.specs.Calls as J
use Rattle.joined.specs.Ends.{Lane, normal, expedited}
use Rattle.script.specs.declared.Flow.{Flow}
use Rattle.script.specs.declared.Flow.TheVariants as flow
use Rattle.script.specs.declared.Verb.{Verb}
use Rattle.script.specs.declared.Verb.TheVariants.{Allocate, Confirmed, SendError, RequestToSend, SendPacingResponse, SendData, Close, Defer, Withdraw, Receive}
use Rattle.bench.specs.declared.Told.{Told}
use Rattle.calls.specs.Calls.{Called, Reply, Station, plain, units_of, taken, taken_expedited}

-- the call of two joined ends, with the bytes given and the cells of a read's buffer
abbrev pub verb_of : Verb → List ℕ → List ℕ → J.Verb
verb_of Allocate given buffer = J.allocate
verb_of Confirmed given buffer = J.confirmed
verb_of SendError given buffer = J.send_error
verb_of RequestToSend given buffer = J.request_to_send
verb_of SendPacingResponse given buffer = J.send_pacing_response
verb_of SendData given buffer = J.send_data given
verb_of (Close f b) given buffer = J.close f b
verb_of (Defer what) given buffer = J.defer what
verb_of Withdraw given buffer = J.withdraw
verb_of Receive given buffer = J.receive buffer

abbrev pub is_read : Verb → Bool
is_read Allocate = false
is_read Confirmed = false
is_read SendError = false
is_read RequestToSend = false
is_read SendPacingResponse = false
is_read SendData = false
is_read (Close f b) = false
is_read (Defer what) = false
is_read Withdraw = false
is_read Receive = true

-- ---- lanes

-- the lane that a call's unit joins: one call alone makes an expedited unit
abbrev pub verb_lane : Verb → Lane
verb_lane Allocate = normal
verb_lane Confirmed = normal
verb_lane SendError = normal
verb_lane RequestToSend = expedited
verb_lane SendPacingResponse = normal
verb_lane SendData = normal
verb_lane (Close f b) = normal
verb_lane (Defer what) = normal
verb_lane Withdraw = normal
verb_lane Receive = normal

abbrev pub flow_lane : Flow → Lane
flow_lane flow.Normal = normal
flow_lane flow.Expedited = expedited

-- units made for the lane l, as the lane k has them
abbrev pub made_on : Lane → Lane → List (List ℕ) → List (List ℕ)
made_on normal normal us = us
made_on normal expedited us = []
made_on expedited normal us = []
made_on expedited expedited us = us

-- ---- what a call leaves

abbrev pub station_of : End → List ℕ → List ℕ → List ℕ → Station
station_of e send unit inbox = record { end = e; send = send; unit = unit; inbox = inbox }

-- by what it hands back and the cells it is lent as it returns; only a read's reply has the cells of a buffer
abbrev pub acted_by : Verb → Done ReadAnswer → List ℕ → List ℕ → List ℕ → List ℕ → Called
acted_by v d send unit inbox buffer =
    let units = units_of d.answer.answer.unit unit in
    record {
      end = station_of d.end send unit inbox;
      answer = record { answer = d.answer; buffer = cond (is_read v) buffer []; signalled = false };
      sent = made_on normal (verb_lane v) units;
      expedited = made_on expedited (verb_lane v) units;
    }

-- the answer of a call that is no read: nothing copied, no record complete, no part that another follows, no mark
abbrev pub plain_done : Done Answer → Done ReadAnswer
plain_done d = record { answer = (plain d.answer).answer; end = d.end }

-- ---- what a take leaves

-- a take on the normal line tells of no signal
abbrev pub unit_told : Done Answer → Told
unit_told d = record { answer = (plain d.answer).answer; signalled = false; end = d.end }

abbrev pub signal_told : Done ExpeditedAnswer → Told
signal_told d = record { answer = (plain d.answer.answer).answer; signalled = d.answer.signalled; end = d.end }

-- by what it hands back and the cells as it returns; the send buffer is not lent
abbrev pub taken_by : Flow → Told → List ℕ → List ℕ → List ℕ → Called
taken_by f t send unit inbox =
    let units = units_of t.answer.answer.unit unit in
    record {
      end = station_of t.end send unit inbox;
      answer = record { answer = t.answer; buffer = []; signalled = t.signalled };
      sent = made_on normal (flow_lane f) units;
      expedited = made_on expedited (flow_lane f) units;
    }

-- the take of two joined ends
abbrev pub taken_on : Flow → Station → List ℕ → Called
taken_on flow.Normal s u = taken s u
taken_on flow.Expedited s u = taken_expedited s u
