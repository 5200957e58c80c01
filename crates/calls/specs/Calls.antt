-- The calls of an end, each as one function of the end with the cells lent to it at opening: the definitions that the contracts of crate `end` cite, side
-- by side.
-- Assumes nothing.
use Rattle.std.specs.Prelude.{ℕ, Bool, true, false, cond, List, [], ◌∷◌, eqb, take}
use Rattle.header.specs.declared.Follows.{Follows}
use Rattle.header.specs.declared.Follows.TheVariants.{Stay, ChangeDirection, EndBracket}
use Rattle.control.specs.declared.WhatReceived.TheVariants as mark
use Rattle.control.specs.declared.Deferred.{Deferred}
use Rattle.answers.specs.declared.Answer.{Answer}
use Rattle.answers.specs.declared.ReadAnswer.{ReadAnswer}
use Rattle.answers.specs.declared.ExpeditedAnswer.{ExpeditedAnswer}
use Rattle.end.specs.Allocate as A
use Rattle.end.specs.SendData as S
use Rattle.end.specs.Close as C
use Rattle.end.specs.Defer as D
use Rattle.end.specs.Confirmed as F
use Rattle.end.specs.SendError as E
use Rattle.end.specs.RequestToSend as Q
use Rattle.end.specs.ReceiveUnit as T
use Rattle.end.specs.ReceiveExpedited as X
use Rattle.end.specs.Receive as R
use Rattle.end.specs.SendPacingResponse as P
use Rattle.end.specs.Outcome.{Made, Sent, Taken, TakenExpedited, Copied}
use Rattle.end.specs.declared.End.{End}
use Rattle.end.specs.declared.Done.{Done}

-- An end with the buffers that were lent to it at opening, which nobody else writes.
pub record Station : Type 0 where
  pub end : End
  pub send : List ℕ
  pub unit : List ℕ
  pub inbox : List ℕ

-- A call with all that its caller chooses: the bytes given; of a closing call what follows, and whether confirmation is asked; what is prepared; the
-- read's buffer with its former cells.
pub data Verb : Type 0 where
  allocate confirmed send_error send_pacing_response request_to_send withdraw : Verb
  send_data : List ℕ → Verb
  close : Follows → Bool → Verb
  defer : Deferred → Verb
  receive : List ℕ → Verb

-- the four closing calls by their names; document 01 says turn and end for the last two
abbrev pub flush : Verb
flush = close Stay false

abbrev pub confirm : Verb
confirm = close Stay true

abbrev pub prepare_to_receive : Bool → Verb
prepare_to_receive asked = close ChangeDirection asked

abbrev pub deallocate : Bool → Verb
deallocate asked = close EndBracket asked

-- An answer, with what a read adds to it and the cells of its buffer, and what a take on the expedited line adds.
pub record Reply : Type 0 where
  pub answer : ReadAnswer
  pub buffer : List ℕ
  pub signalled : Bool

abbrev pub plain : Answer → Reply
plain a = record { answer = record { answer = a; copied = 0; complete = false; more = false; mark = mark.Nothing }; buffer = []; signalled = false }

-- a read's
abbrev pub read_reply : ReadAnswer → List ℕ → Reply
read_reply a buffer = record { answer = a; buffer = buffer; signalled = false }

-- that of a take on the expedited line
abbrev pub expedited_reply : ExpeditedAnswer → Reply
expedited_reply a = record { answer = (plain a.answer).answer; buffer = []; signalled = a.signalled }

-- the refusal number of a reply
abbrev pub refusal_in : Reply → ℕ
refusal_in r = r.answer.answer.refusal

-- the unit made, as the bytes at the front of the unit buffer; 0 for none
abbrev pub units_of : ℕ → List ℕ → List (List ℕ)
units_of n cells = cond (eqb n 0) [] (take n cells ∷ [])

-- What a call leaves: the end with its cells, its answer, and the unit made, if there is one, by the line that it is for.
pub record Called : Type 0 where
  pub end : Station
  pub answer : Reply
  pub sent : List (List ℕ)
  pub expedited : List (List ℕ)

-- a call that is lent nothing makes no unit
abbrev pub hands : Station → Done Answer → Called
hands s d =
    record {
      end = record { end = d.end; send = s.send; unit = s.unit; inbox = s.inbox };
      answer = plain d.answer;
      sent = [];
      expedited = [];
    }

-- a call that is lent the unit buffer, and the send buffer only to be read
abbrev pub makes : Station → Made → Called
makes s m =
    record {
      end = record { end = m.done.end; send = s.send; unit = m.unit; inbox = s.inbox };
      answer = plain m.done.answer;
      sent = units_of m.done.answer.unit m.unit;
      expedited = [];
    }

-- .. and makes its unit for the expedited line
abbrev pub signals : Station → Made → Called
signals s m =
    record {
      end = record { end = m.done.end; send = s.send; unit = m.unit; inbox = s.inbox };
      answer = plain m.done.answer;
      sent = [];
      expedited = units_of m.done.answer.unit m.unit;
    }

abbrev pub sends : Station → Sent → Called
sends s m =
    record {
      end = record { end = m.done.end; send = m.send; unit = m.unit; inbox = s.inbox };
      answer = plain m.done.answer;
      sent = units_of m.done.answer.unit m.unit;
      expedited = [];
    }

abbrev pub copies : Station → Copied → Called
copies s m =
    record {
      end = record { end = m.done.end; send = s.send; unit = s.unit; inbox = m.inbox };
      answer = read_reply m.done.answer m.buffer;
      sent = [];
      expedited = [];
    }

unfoldable pub called : Station → Verb → Called
called s allocate = makes s (A.allocate s.end s.unit)
called s (send_data bytes) = sends s (S.send_data s.end bytes s.send s.unit)
called s (close f b) = makes s (C.close f b s.end s.send s.unit)
called s (defer d) = hands s (D.defer d s.end)
called s withdraw = hands s (D.withdraw s.end)
called s confirmed = makes s (F.confirmed s.end s.unit)
called s send_error = makes s (E.send_error s.end s.unit)
called s request_to_send = signals s (Q.request_to_send s.end s.unit)
called s (receive buffer) = copies s (R.receive s.end s.inbox buffer)
called s send_pacing_response = makes s (P.send_pacing_response s.end s.unit)

-- a take of the unit u
unfoldable pub taken : Station → List ℕ → Called
taken s u =
    let t : Taken = T.receive_unit s.end u s.inbox s.unit in
    record {
      end = record { end = t.done.end; send = s.send; unit = t.unit; inbox = t.inbox };
      answer = plain t.done.answer;
      sent = units_of t.done.answer.unit t.unit;
      expedited = [];
    }

-- a take of the unit u on the expedited line
unfoldable pub taken_expedited : Station → List ℕ → Called
taken_expedited s u =
    let t : TakenExpedited = X.receive_expedited s.end u s.unit in
    record {
      end = record { end = t.done.end; send = s.send; unit = t.unit; inbox = s.inbox };
      answer = expedited_reply t.done.answer;
      sent = [];
      expedited = units_of t.done.answer.answer.unit t.unit;
    }
