-- A turn or an end that is prepared and then carried out or withdrawn (document 02, S-7). W 3 and M 64 unless said.
-- Assumes nothing.
use Rattle.std.specs.Prelude.{ℕ, ◌≡◌, false, true, List, [], ◌∷◌}
use Rattle.control.specs.FieldChanged.{set_state}
use Rattle.control.specs.declared.State.{State}
use Rattle.control.specs.declared.State.TheVariants.{Reset, Send, Receive, ConfirmAwaited, DeferTurn, DeferEnd}
use Rattle.control.specs.declared.Deferred.{Deferred}
use Rattle.control.specs.declared.Deferred.TheVariants as deferral
use Rattle.control.specs.declared.WhatReceived.{WhatReceived}
use Rattle.control.specs.declared.WhatReceived.TheVariants as mark
use Rattle.end.specs.Outcome.{with_control}
use Rattle.calls.specs.Calls as J
use Rattle.calls.specs.Calls.{Station, Verb, plain}
use Rattle.joined.specs.Joined.{At, first, second, act, take}
use Rattle.joined.specs.Ends.{Lane, normal, acts, on_normal, opened_with}
use Rattle.joined.specs.Histories as H
use Rattle.worked_examples.specs.Stations.{zeros, session, first_speaker, after, makes, refuses, taking, after_taking, joined, runs, shortest_record, a_bid, a_pacing_answer, sending, one_sent, receiving}
use Rattle.worked_examples.specs.Table.{eight_given, two_more, two_gone}
use Rattle.worked_examples.specs.Breaches.{Refused, Accepted, owes, waits, without_bb}
use Rattle.worked_examples.specs.Conversations.{a_record, numbers, state_of}
use Rattle.worked_examples.specs.Parts.{RefusedCall, given, part_given}

-- a first speaker with 00 05 41 42 43 given
abbrev pub record_given : Station
record_given = given (Verb.send_data a_record)

-- prepare, a turn or an end; and what it leaves at s
abbrev pub prepares : Deferred → Verb
prepares d = Verb.defer d

abbrev pub prepared : Deferred → Station → Station
prepared d s = after s (prepares d ∷ [])

-- s in another state, with nothing else changed
abbrev pub in_state : State → Station → Station
in_state state s =
    record { end = with_control (set_state state s.end.control) s.end; send = s.send; unit = s.unit; inbox = s.inbox }

-- a call at s is accepted, makes no unit and leaves t
abbrev pub Leaves : Station → Verb → Station → Type 0
Leaves s v t =
    acts s v ≡ record { end = t; answer = plain (record { refusal = 0; sense = 0; rule = 0; unit = 0 }); sent = on_normal [] }

-- ---- "Preparing a turn or end in Send, with the last record whole, only notes it in the record."

pub record OnlyNoted : Type 0 where
  pub turn : Leaves record_given (prepares deferral.Turn) (in_state DeferTurn record_given)
  pub end : Leaves record_given (prepares deferral.End) (in_state DeferEnd record_given)
  -- nothing given: BB is due still
  pub nothing_given : Leaves sending (prepares deferral.Turn) (in_state DeferTurn sending)
  -- M 8, with a chain open and two bytes held
  pub chain_open : Leaves (after eight_given (two_more ∷ [])) (prepares deferral.End) (in_state DeferEnd (after eight_given (two_more ∷ [])))

-- neither can be prepared at s: refused with this number
pub record NotPrepared (s : Station) (number : ℕ) : Type 0 where
  pub turn : RefusedCall s (prepares deferral.Turn) number
  pub end : RefusedCall s (prepares deferral.End) number

pub record PreparedWhere : Type 0 where
  -- the last record is not whole: three bytes of five given, or sent; the first LL byte; a part that says that another follows
  pub in_record : NotPrepared (given (Verb.send_data (0x00 ∷ 0x05 ∷ 0x41 ∷ []))) 9
  pub in_record_sent : NotPrepared (after (given (Verb.send_data (0x00 ∷ 0x05 ∷ 0x41 ∷ []))) (J.flush ∷ [])) 9
  pub in_length : NotPrepared (given (Verb.send_data (0x00 ∷ []))) 9
  pub after_part : NotPrepared part_given 9
  -- in every state but Send
  pub in_reset : NotPrepared (first_speaker 3 64) 7
  pub in_receive : NotPrepared receiving 7
  pub in_owes : NotPrepared owes 7
  pub in_waits : NotPrepared waits 7
  pub in_defer_turn : NotPrepared (prepared deferral.Turn record_given) 7
  pub in_defer_end : NotPrepared (prepared deferral.End record_given) 7

-- ---- "Withdrawing it drops the note and gives back Send, with nothing else changed."

pub record Withdrawn : Type 0 where
  pub turn : Leaves (prepared deferral.Turn record_given) Verb.withdraw record_given
  pub end : Leaves (prepared deferral.End record_given) Verb.withdraw record_given
  -- the end sends on: a record more is given, and both go out
  pub sends_on :
      makes (after record_given (prepares deferral.Turn ∷ Verb.withdraw ∷ Verb.send_data shortest_record ∷ [])) J.flush
      ≡ (0x00 ∷ 0x01 ∷ 0x03 ∷ 0x91 ∷ 0x80 ∷ 0x00 ∷ 0x05 ∷ 0x41 ∷ 0x42 ∷ 0x43 ∷ 0x00 ∷ 0x02 ∷ []) ∷ []
  -- nothing is prepared: in Send and the other states
  pub in_send_lem : RefusedCall record_given Verb.withdraw 7
  pub twice : RefusedCall (after record_given (prepares deferral.End ∷ Verb.withdraw ∷ [])) Verb.withdraw 7
  pub in_reset : RefusedCall (first_speaker 3 64) Verb.withdraw 7
  pub in_receive : RefusedCall receiving Verb.withdraw 7
  pub in_owes : RefusedCall owes Verb.withdraw 7
  pub in_waits : RefusedCall waits Verb.withdraw 7

-- ---- "Flush or confirm then carries it out as document 01's turn or end would."

pub record CarriedOut : Type 0 where
  -- the unit: CD; a confirmation requested and CD; CEB; a confirmation requested and CEB
  pub turn :
      makes (prepared deferral.Turn record_given) J.flush ≡ (0x00 ∷ 0x01 ∷ 0x03 ∷ 0x91 ∷ 0xA0 ∷ 0x00 ∷ 0x05 ∷ 0x41 ∷ 0x42 ∷ 0x43 ∷ []) ∷ []
  pub confirm_turn_lem :
      makes (prepared deferral.Turn record_given) J.confirm ≡ (0x00 ∷ 0x01 ∷ 0x03 ∷ 0x21 ∷ 0xA0 ∷ 0x00 ∷ 0x05 ∷ 0x41 ∷ 0x42 ∷ 0x43 ∷ []) ∷ []
  pub end :
      makes (prepared deferral.End record_given) J.flush ≡ (0x00 ∷ 0x01 ∷ 0x03 ∷ 0x91 ∷ 0x81 ∷ 0x00 ∷ 0x05 ∷ 0x41 ∷ 0x42 ∷ 0x43 ∷ []) ∷ []
  pub confirm_end :
      makes (prepared deferral.End record_given) J.confirm ≡ (0x00 ∷ 0x01 ∷ 0x03 ∷ 0x21 ∷ 0x81 ∷ 0x00 ∷ 0x05 ∷ 0x41 ∷ 0x42 ∷ 0x43 ∷ []) ∷ []
  -- the answer, the unit, the record and every cell are those of turn and end
  pub as_turn : acts (prepared deferral.Turn record_given) J.flush ≡ acts record_given (J.prepare_to_receive false)
  pub as_confirm_turn : acts (prepared deferral.Turn record_given) J.confirm ≡ acts record_given (J.prepare_to_receive true)
  pub as_end : acts (prepared deferral.End record_given) J.flush ≡ acts record_given (J.deallocate false)
  pub as_confirm_end : acts (prepared deferral.End record_given) J.confirm ≡ acts record_given (J.deallocate true)
  -- a flush with no byte held makes a unit too
  pub nothing_given : makes (prepared deferral.Turn sending) J.flush ≡ (0x00 ∷ 0x01 ∷ 0x03 ∷ 0x91 ∷ 0xA0 ∷ []) ∷ []
  pub nothing_held : makes (prepared deferral.Turn one_sent) J.flush ≡ (0x00 ∷ 0x02 ∷ 0x03 ∷ 0x90 ∷ 0x20 ∷ []) ∷ []
  -- M 8: the last unit of the chain that is open
  pub chain_open :
      makes (prepared deferral.End (after eight_given (two_more ∷ []))) J.flush ≡ (0x00 ∷ 0x02 ∷ 0x01 ∷ 0x90 ∷ 0x01 ∷ 0x37 ∷ 0x38 ∷ []) ∷ []

-- ---- "There only take, read, pace, flush, confirm and withdrawing are allowed"

-- the other calls, at a deferring end
pub record RefusedInDefer (s : Station) : Type 0 where
  pub send : RefusedCall s (Verb.send_data shortest_record) 7
  -- 6 is asked before 7
  pub send_none : RefusedCall s (Verb.send_data []) 6
  pub turn : RefusedCall s (J.prepare_to_receive false) 7
  pub confirm_turn_lem : RefusedCall s (J.prepare_to_receive true) 7
  pub end : RefusedCall s (J.deallocate false) 7
  pub confirm_end : RefusedCall s (J.deallocate true) 7
  pub allocate : RefusedCall s Verb.allocate 7
  pub confirmed : RefusedCall s Verb.confirmed 7
  -- data is no more taken than in Send; with nothing held there is nothing to read, and with no answer owed none to make
  pub data_taken : Refused s without_bb 26 0x20040000
  pub read : refuses s (Verb.receive (zeros 4)) ≡ 12
  pub pace : RefusedCall s Verb.send_pacing_response 11

-- "in any other state it makes a bid refusal": a bid that a deferring end takes. M 8 and an inbox of 64, so that there is room for more than a window
abbrev pub bid_met : Station
bid_met =
    let roomy = (opened_with (session 0 3 8) (record { send = zeros 8; unit = zeros 13; inbox = zeros 64 })).end in
    after_taking (prepared deferral.Turn (after roomy (Verb.allocate ∷ Verb.send_data a_record ∷ []))) (a_bid ∷ [])

abbrev pub a_bid_refusal : List ℕ
a_bid_refusal = 0x00 ∷ 0x01 ∷ 0xCF ∷ 0x90 ∷ 0x00 ∷ 0x08 ∷ 0x13 ∷ 0x00 ∷ 0x00 ∷ 0x04 ∷ []

pub record BidMet : Type 0 where
  -- a turn is prepared and bytes are held; an end is prepared and nothing was given
  pub at_turn : (taking (prepared deferral.Turn record_given) a_bid).sent normal ≡ a_bid_refusal ∷ []
  pub at_end : (taking (prepared deferral.End sending) a_bid).sent normal ≡ a_bid_refusal ∷ []
  -- the turn stays prepared; the answer that the bid's pacing bit asks for is made; the turn is carried out
  pub prepared_still : bid_met.end.control.state ≡ DeferTurn
  pub paces : makes bid_met Verb.send_pacing_response ≡ a_pacing_answer ∷ []
  pub turn :
      makes (after bid_met (Verb.send_pacing_response ∷ [])) J.flush
      ≡ (0x00 ∷ 0x01 ∷ 0x03 ∷ 0x91 ∷ 0xA0 ∷ 0x00 ∷ 0x05 ∷ 0x41 ∷ 0x42 ∷ 0x43 ∷ []) ∷ []

-- W 2: two units have gone, 00 02 is held, and an end is prepared
abbrev pub no_credit : Station
no_credit = prepared deferral.End two_gone

pub record WaitsForCredit : Type 0 where
  -- the end stays prepared
  pub flush : RefusedCall no_credit J.flush 10
  pub confirm : RefusedCall no_credit J.confirm 10
  -- the pacing answer is taken, and the end goes
  pub answer_taken : Accepted no_credit a_pacing_answer
  pub end : makes (after_taking no_credit (a_pacing_answer ∷ [])) J.flush ≡ (0x00 ∷ 0x03 ∷ 0x03 ∷ 0x91 ∷ 0x01 ∷ 0x00 ∷ 0x02 ∷ []) ∷ []

-- ---- two joined ends

-- the first speaker gives a record, prepares d and carries it out by v; the bidder takes the unit
abbrev pub carrying : Deferred → Verb → List (At Lane Verb)
carrying d v =
    first (act Verb.allocate)
    ∷ first (act (Verb.send_data a_record))
    ∷ first (act (prepares d))
    ∷ first (act v)
    ∷ second (take normal)
    ∷ []

-- the mark is left at the bidder, and the first speaker is then in this state
pub record Marked (d : Deferred) (v : Verb) (m : WhatReceived) (state : State) : Type 0 where
  pub mark : (runs (joined 3 64) (carrying d v)).two.end.end.control.mark ≡ m
  pub speaker : state_of (runs (joined 3 64) (carrying d v)).one ≡ state

pub record FarEnd : Type 0 where
  pub turn : Marked deferral.Turn J.flush mark.Turn Receive
  pub end : Marked deferral.End J.flush mark.End Reset
  pub confirm_turn_lem : Marked deferral.Turn J.confirm mark.ConfirmTurn ConfirmAwaited
  pub confirm_end : Marked deferral.End J.confirm mark.ConfirmEnd ConfirmAwaited

-- a bid crosses the first speaker's calls and meets it deferring; the turn is then carried out by confirm, read and confirmed
abbrev pub bid_and_confirm : List (At Lane Verb)
bid_and_confirm =
    second (act Verb.allocate)
    ∷ first (act Verb.allocate)
    ∷ first (act (Verb.send_data a_record))
    ∷ first (act (prepares deferral.Turn))
    ∷ first (take normal)
    ∷ first (act (Verb.send_data shortest_record))
    ∷ first (act J.confirm)
    ∷ second (take normal)
    ∷ second (take normal)
    ∷ second (act (Verb.receive (zeros 64)))
    ∷ second (act (Verb.receive (zeros 64)))
    ∷ second (act Verb.confirmed)
    ∷ first (take normal)
    ∷ []

pub record BidAndConfirm : Type 0 where
  -- what is given in Defer is refused with 7, and is not sent
  pub speaker_answers : numbers (runs (joined 3 64) bid_and_confirm).one.log ≡ 0 ∷ 0 ∷ 0 ∷ 0 ∷ 7 ∷ 0 ∷ 0 ∷ []
  pub bidder_answers : numbers (runs (joined 3 64) bid_and_confirm).two.log ≡ 0 ∷ 0 ∷ 0 ∷ 0 ∷ 0 ∷ 0 ∷ []
  pub record_read : H.bytes_read (runs (joined 3 64) bid_and_confirm).two.log ≡ a_record
  pub flag_off : (runs (joined 3 64) bid_and_confirm).two.end.end.control.bid ≡ false
  pub speaker_receives : state_of (runs (joined 3 64) bid_and_confirm).one ≡ Receive
  pub bidder_sends : state_of (runs (joined 3 64) bid_and_confirm).two ≡ Send

pub record Prepared : Type 0 where
  pub only_noted : OnlyNoted
  pub prepared_where : PreparedWhere
  pub withdrawn : Withdrawn
  pub carried_out : CarriedOut
  pub in_defer_turn : RefusedInDefer (prepared deferral.Turn record_given)
  pub in_defer_end : RefusedInDefer (prepared deferral.End record_given)
  pub bid_met_lem : BidMet
  pub waits_for_credit : WaitsForCredit
  pub far_end : FarEnd
  pub bid_and_confirm_lem : BidAndConfirm
