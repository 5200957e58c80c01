-- No confirmation, with a cause (document 02, S-9). W 3 and M 64 unless said.
-- Assumes nothing.
use Rattle.std.specs.Prelude.{ℕ, ◌≡◌, Bool, true, false, List, [], ◌∷◌, ◌++◌}
use Rattle.control.specs.FieldChanged.{set_state, set_due, set_error}
use Rattle.control.specs.declared.Control.{Control}
use Rattle.control.specs.declared.State.TheVariants.{Send, Receive, DeferTurn}
use Rattle.control.specs.declared.Deferred.TheVariants as deferral
use Rattle.control.specs.declared.WhatReceived.TheVariants as mark
use Rattle.end.specs.Outcome.{with_control, with_sending}
use Rattle.calls.specs.Calls as J
use Rattle.calls.specs.Calls.{Station, Verb}
use Rattle.joined.specs.Joined.{At, first, second, act, take}
use Rattle.joined.specs.Ends.{Lane, normal, acts}
use Rattle.joined.specs.Histories as H
use Rattle.joined.specs.Denials.{units_taken}
use Rattle.worked_examples.specs.Stations.{zeros, first_speaker, bidder, after, makes, refuses, taking, after_taking, joined, runs, shortest_record}
use Rattle.worked_examples.specs.Stations.{second_unit, a_bid, a_pacing_answer, sending, has_bid, receiving}
use Rattle.worked_examples.specs.Breaches.{Refused, Names, Accepted, in_chain, owes, waits, state_of}
use Rattle.worked_examples.specs.Conversations.{a_record, numbers}
use Rattle.worked_examples.specs.Parts.{RefusedCall}
use Rattle.worked_examples.specs.Prepared.{prepares, in_state}

-- ---- the units

abbrev pub error_bytes : List ℕ
error_bytes = 0x07 ∷ 0x07 ∷ 0x08 ∷ 0x89 ∷ 0x00 ∷ 0x00 ∷ 0x00 ∷ []

-- an error header under the number n, with the pacing bit and without
abbrev pub error_paced : ℕ → List ℕ
error_paced n = 0x00 ∷ n ∷ 0x0B ∷ 0x91 ∷ 0x00 ∷ error_bytes

abbrev pub error_header : ℕ → List ℕ
error_header n = 0x00 ∷ n ∷ 0x0B ∷ 0x90 ∷ 0x00 ∷ error_bytes

-- a negative confirmation of the number n
abbrev pub negative : ℕ → List ℕ
negative n = 0x00 ∷ n ∷ 0x87 ∷ 0x30 ∷ 0x00 ∷ 0x08 ∷ 0x46 ∷ 0x00 ∷ 0x00 ∷ []

-- ---- the ends

-- s in Owes, once it has taken u and read a record of two bytes and the mark
abbrev pub owing : Station → List ℕ → Station
owing s u = after (after_taking s (u ∷ [])) (Verb.receive (zeros 2) ∷ Verb.receive (zeros 2) ∷ [])

-- a bidder in Owes, a turn to follow, and an end
abbrev pub owes_turn : Station
owes_turn = owing (bidder 3 64) (0x00 ∷ 0x01 ∷ 0x03 ∷ 0x21 ∷ 0xA0 ∷ 0x00 ∷ 0x02 ∷ [])

abbrev pub owes_end : Station
owes_end = owing (bidder 3 64) (0x00 ∷ 0x01 ∷ 0x03 ∷ 0x21 ∷ 0x81 ∷ 0x00 ∷ 0x02 ∷ [])

-- a bidder whose bid, under number 1, crossed the data that asks to be confirmed; with W 1 no credit is left
abbrev pub bid_owes : Station
bid_owes = owing has_bid (0x00 ∷ 0x01 ∷ 0x03 ∷ 0x21 ∷ 0x80 ∷ 0x00 ∷ 0x02 ∷ [])

abbrev pub bid_owes_poor : Station
bid_owes_poor = owing (after (bidder 1 64) (Verb.allocate ∷ [])) (0x00 ∷ 0x01 ∷ 0x03 ∷ 0x21 ∷ 0x80 ∷ 0x00 ∷ 0x02 ∷ [])

-- a first speaker in Owes, once it granted a bid
abbrev pub speaker_owes : Station
speaker_owes = owing (after_taking (first_speaker 3 64) (a_bid ∷ [])) (0x00 ∷ 0x02 ∷ 0x03 ∷ 0x20 ∷ 0x00 ∷ 0x00 ∷ 0x02 ∷ [])

-- what send error leaves, and then flush
abbrev pub denied : Station → Station
denied s = after s (Verb.send_error ∷ [])

abbrev pub told : Station → Station
told s = after s (Verb.send_error ∷ J.flush ∷ [])

-- s with its finite part changed
abbrev pub changed : (Control → Control) → Station → Station
changed f s = record { end = with_control (f s.end.control) s.end; send = s.send; unit = s.unit; inbox = s.inbox }

abbrev pub error_due : Station → Bool
error_due s = s.end.control.error

-- ---- "In Owes, the new call makes 87 30 00 with the owed number and RU 08 46 00 00. Its end becomes Send, whatever was to follow"

pub record Denies : Type 0 where
  pub stay : makes owes Verb.send_error ≡ negative 1 ∷ []
  pub turn : makes owes_turn Verb.send_error ≡ negative 1 ∷ []
  pub end : makes owes_end Verb.send_error ≡ negative 1 ∷ []
  -- nothing else of the finite part changes, what follows neither
  pub after_stay : (denied owes).end ≡ (changed (λ c. set_error true (set_state Send c)) owes).end
  pub after_turn : (denied owes_turn).end ≡ (changed (λ c. set_error true (set_state Send c)) owes_turn).end
  pub after_end : (denied owes_end).end ≡ (changed (λ c. set_error true (set_state Send c)) owes_end).end
  -- no credit is needed
  pub no_credit : makes bid_owes_poor Verb.send_error ≡ negative 1 ∷ []
  -- in the other states
  pub in_reset : RefusedCall (bidder 3 64) Verb.send_error 7
  pub in_send_lem : RefusedCall sending Verb.send_error 7
  pub in_receive : RefusedCall receiving Verb.send_error 7
  pub in_waits : RefusedCall waits Verb.send_error 7
  pub in_defer_lem : RefusedCall (after sending (prepares deferral.Turn ∷ [])) Verb.send_error 7
  pub twice : RefusedCall (denied owes) Verb.send_error 7

-- ---- "and the far end becomes Receive."

-- a first speaker in Waits, a turn to follow, and an end
abbrev pub waits_turn : Station
waits_turn = after sending (Verb.send_data shortest_record ∷ J.prepare_to_receive true ∷ [])

abbrev pub waits_end : Station
waits_end = after sending (Verb.send_data shortest_record ∷ J.deallocate true ∷ [])

pub record FarReceives : Type 0 where
  pub stay : (taking waits (negative 1)).end ≡ changed (set_state Receive) waits
  pub turn : (taking waits_turn (negative 1)).end ≡ changed (set_state Receive) waits_turn
  pub end : (taking waits_end (negative 1)).end ≡ changed (set_state Receive) waits_end
  -- 22: its RU; 28: is a confirmation awaited, and is the number the last sent?
  pub wrong_ru : Refused waits (0x00 ∷ 0x01 ∷ 0x87 ∷ 0x30 ∷ 0x00 ∷ 0x08 ∷ 0x46 ∷ 0x00 ∷ 0x01 ∷ []) 22 0x10020000
  pub no_ru : Refused waits (0x00 ∷ 0x01 ∷ 0x87 ∷ 0x30 ∷ 0x00 ∷ []) 22 0x10020000
  pub another_number : Refused waits (negative 2) 28 0x200E0000
  pub not_awaited : Refused receiving (negative 1) 28 0x200E0000

-- ---- "The refuser's next request must be the error header alone, .. with the pacing bit as usual, and flush makes it."

pub record Flushes : Type 0 where
  pub at_place_0 : makes (denied owes) J.flush ≡ error_paced 1 ∷ []
  pub behind_a_bid : makes (denied bid_owes) J.flush ≡ error_header 2 ∷ []
  -- it is in Send and may send: a chain of its own has gone
  pub sends : (state_of (told owes) ≡ Send) × (error_due (told owes) ≡ false)
  pub sends_on : makes (after (told owes) (Verb.send_data shortest_record ∷ [])) J.flush ≡ second_unit ∷ []
  pub nothing_more : makes (told owes) J.flush ≡ []
  -- W 1 and the bid unanswered: 10, and the error stays due until a pacing answer is taken
  pub waits_for_credit : RefusedCall (denied bid_owes_poor) J.flush 10
  pub credit_taken : makes (after_taking (denied bid_owes_poor) (a_pacing_answer ∷ [])) J.flush ≡ error_paced 2 ∷ []

-- ---- "Until it has gone, every other call that needs Send is refused with 7."

pub record Until : Type 0 where
  pub send : RefusedCall (denied owes) (Verb.send_data shortest_record) 7
  -- 6 is asked before 7
  pub send_none : RefusedCall (denied owes) (Verb.send_data []) 6
  pub confirm : RefusedCall (denied owes) J.confirm 7
  pub turn : RefusedCall (denied owes) (J.prepare_to_receive false) 7
  pub confirm_turn_lem : RefusedCall (denied owes) (J.prepare_to_receive true) 7
  pub end : RefusedCall (denied owes) (J.deallocate false) 7
  pub confirm_end : RefusedCall (denied owes) (J.deallocate true) 7
  pub prepare_turn : RefusedCall (denied owes) (prepares deferral.Turn) 7
  pub prepare_end : RefusedCall (denied owes) (prepares deferral.End) 7
  -- units are taken as in Send: the refusal of a bid that crossed; a bid, which no joined end can make then
  pub bid_refusal : Accepted (denied bid_owes) (0x00 ∷ 0x01 ∷ 0xCF ∷ 0x90 ∷ 0x00 ∷ 0x08 ∷ 0x13 ∷ 0x00 ∷ 0x00 ∷ 0x04 ∷ [])
  pub forged_bid :
      (taking (denied speaker_owes) (0x00 ∷ 0x03 ∷ 0x4B ∷ 0x80 ∷ 0x80 ∷ 0x04 ∷ 0x00 ∷ 0x06 ∷ 0x00 ∷ 0x00 ∷ [])).sent normal
      ≡ (0x00 ∷ 0x03 ∷ 0xCF ∷ 0x90 ∷ 0x00 ∷ 0x08 ∷ 0x13 ∷ 0x00 ∷ 0x00 ∷ 0x04 ∷ []) ∷ []
  pub data_taken : Refused (denied owes) second_unit 26 0x20040000
  pub nothing_read : refuses (denied owes) (Verb.receive (zeros 4)) ≡ 12

-- ---- "H1, H2, 22, 26 and 28 take in the two new headers; 23, 24, 25 and 27 read the error header as data, and 29 asks of it only that the record is whole."

pub record ErrorTaken : Type 0 where
  pub taken : Accepted receiving (error_header 2)
  -- H2: DR1 without the exception bit; BB; a confirmation's byte 1; a byte 2
  pub no_exception : Names receiving (0x00 ∷ 0x02 ∷ 0x0B ∷ 0x80 ∷ 0x00 ∷ error_bytes) 2
  pub with_bb : Names receiving (0x00 ∷ 0x02 ∷ 0x0B ∷ 0x90 ∷ 0x80 ∷ error_bytes) 2
  pub positive : Names waits (0x00 ∷ 0x01 ∷ 0x87 ∷ 0x20 ∷ 0x00 ∷ 0x08 ∷ 0x46 ∷ 0x00 ∷ 0x00 ∷ []) 2
  pub with_ceb : Names waits (0x00 ∷ 0x01 ∷ 0x87 ∷ 0x30 ∷ 0x01 ∷ 0x08 ∷ 0x46 ∷ 0x00 ∷ 0x00 ∷ []) 2
  -- H1: the format bit without the chain's
  pub not_last : Names receiving (0x00 ∷ 0x02 ∷ 0x0A ∷ 0x90 ∷ 0x00 ∷ error_bytes) 1
  pub wrong_ru : Refused receiving (0x00 ∷ 0x02 ∷ 0x0B ∷ 0x90 ∷ 0x00 ∷ 0x07 ∷ 0x07 ∷ 0x08 ∷ 0x89 ∷ 0x00 ∷ 0x00 ∷ []) 22 0x10020000
  pub pacing_on : Refused receiving (error_paced 2) 27 0x20110000
  pub one_left_out : Refused receiving (error_header 3) 23 0x20010000
  pub in_chain_lem : Refused in_chain (error_header 2) 24 0x20020000
  pub bidder_in_reset : Refused (bidder 3 64) (error_paced 1) 25 0x20030000
  pub speaker_in_reset : Refused (first_speaker 3 64) (error_paced 1) 26 0x20040000
  pub in_send_lem : Refused sending (error_paced 1) 26 0x20040000
  pub in_owes : Refused owes (error_header 2) 26 0x20040000
  pub in_waits : Refused waits (error_paced 1) 26 0x20040000
  -- inside a record, and behind a part that says that another follows
  pub in_record : Refused (after_taking receiving ((0x00 ∷ 0x02 ∷ 0x03 ∷ 0x90 ∷ 0x00 ∷ 0x00 ∷ 0x05 ∷ 0x41 ∷ []) ∷ [])) (error_header 3) 29 0
  pub after_part : Refused (after_taking receiving ((0x00 ∷ 0x02 ∷ 0x03 ∷ 0x90 ∷ 0x00 ∷ 0x80 ∷ 0x02 ∷ []) ∷ [])) (error_header 3) 29 0

-- ---- "The error header waits in the inbox's place as a mark of its own; reading it keeps the state Receive."

-- a bidder in Receive that has read all, with the error header taken
abbrev pub marked_error : Station
marked_error = after_taking (after receiving (Verb.receive (zeros 2) ∷ [])) (error_header 2 ∷ [])

pub record MarkRead : Type 0 where
  pub left : marked_error.end.control.mark ≡ mark.Error
  -- none of its bytes is in the inbox
  pub none_held : marked_error.end.receiving.held ≡ 0
  -- it blocks takes
  pub unread : Refused marked_error (0x00 ∷ 0x03 ∷ 0x03 ∷ 0x90 ∷ 0x00 ∷ 0x00 ∷ 0x02 ∷ []) 13 0
  pub answered : (acts marked_error (Verb.receive (zeros 4))).answer.answer.mark ≡ mark.Error
  pub receives_on : state_of (after marked_error (Verb.receive (zeros 4) ∷ [])) ≡ Receive
  pub none_left : refuses (after marked_error (Verb.receive (zeros 4) ∷ [])) (Verb.receive (zeros 4)) ≡ 12
  -- behind bytes it waits
  pub bytes_first : (acts (after_taking receiving (error_header 2 ∷ [])) (Verb.receive (zeros 4))).answer.answer.mark ≡ mark.Nothing

-- ---- "The record gains an error-due flag, on only in Send, not in Defer, with nothing held and BB-due off."

-- a byte is held though an error is due
abbrev pub holding_one : Station
holding_one =
    let s = denied owes in
    let o = s.end.sending in
    record {
      end = with_sending (record { window = o.window; max = o.max; held = 1; number = o.number; given = o.given }) s.end;
      send = s.send;
      unit = s.unit;
      inbox = s.inbox;
    }

pub record OnlyThere : Type 0 where
  pub in_receive : RefusedCall (in_state Receive (denied owes)) J.flush 5
  pub in_defer_lem : RefusedCall (in_state DeferTurn (denied owes)) J.flush 5
  pub bytes_held : RefusedCall holding_one J.flush 5
  pub bb_due : RefusedCall (changed (set_due true) (denied speaker_owes)) J.flush 5
  -- each of them but for that is a record that calls can leave
  pub good : makes (denied speaker_owes) J.flush ≡ error_paced 1 ∷ []

-- ---- two joined ends: a card is given, not confirmed, told why, and given again

abbrev pub card_denied : List (At Lane Verb)
card_denied =
    first (act Verb.allocate)
    ∷ first (act (Verb.send_data a_record))
    ∷ first (act J.confirm)
    ∷ second (take normal)
    ∷ second (act (Verb.receive (zeros 64)))
    ∷ second (act (Verb.receive (zeros 64)))
    ∷ second (act Verb.send_error)
    ∷ first (take normal)
    ∷ second (act J.flush)
    ∷ second (act (J.prepare_to_receive false))
    ∷ first (take normal)
    ∷ first (take normal)
    ∷ first (act (Verb.receive (zeros 64)))
    ∷ first (take normal)
    ∷ first (act (Verb.receive (zeros 64)))
    ∷ first (act (Verb.send_data a_record))
    ∷ first (act J.flush)
    ∷ []

pub record CardDenied : Type 0 where
  -- the take under the unread mark of the error is refused with 13
  pub speaker_answers : numbers (runs (joined 3 64) card_denied).one.log ≡ 0 ∷ 0 ∷ 0 ∷ 0 ∷ 0 ∷ 13 ∷ 0 ∷ 0 ∷ 0 ∷ 0 ∷ 0 ∷ []
  pub units_taken_lem :
      units_taken (runs (joined 3 64) card_denied).one.log ≡ negative 1 ∷ error_paced 1 ∷ (0x00 ∷ 0x02 ∷ 0x03 ∷ 0x90 ∷ 0x20 ∷ []) ∷ []
  pub given_twice : H.bytes_accepted (runs (joined 3 64) card_denied).one.log ≡ a_record ++ a_record
  -- error bytes are not read
  pub none_read : H.bytes_read (runs (joined 3 64) card_denied).one.log ≡ []
  pub speaker_sends : state_of (runs (joined 3 64) card_denied).one.end ≡ Send
  pub bidder_receives : state_of (runs (joined 3 64) card_denied).two.end ≡ Receive

pub record Denied : Type 0 where
  pub denies : Denies
  pub far_receives : FarReceives
  pub flushes : Flushes
  pub until : Until
  pub error_taken : ErrorTaken
  pub mark_read_lem : MarkRead
  pub only_there : OnlyThere
  pub card_denied_lem : CardDenied
