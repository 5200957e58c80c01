-- Document 01's table 'Proved examples', a row a field, W 3 and M 64 unless said. One statement, proved by computation.
-- Assumes nothing.
use Rattle.std.specs.Prelude.{ℕ, ◌≡◌, Bool, true, false, List, [], ◌∷◌, take}
use Rattle.logical_record.specs.Records.{whole_records}
use Rattle.logical_record.specs.declared.Position.TheVariants.{Between}
use Rattle.header.specs.Rules.{bytes, header_good}
use Rattle.control.specs.FieldChanged.{set_state}
use Rattle.control.specs.declared.State.TheVariants.{ConfirmOwed}
use Rattle.control.specs.declared.WhatReceived.TheVariants as mark
use Rattle.end.specs.Outcome.{with_control, with_owed}
use Rattle.calls.specs.Calls as J
use Rattle.joined.specs.Ends.{normal, acts}
use Rattle.joined.specs.Histories.{bytes_in_send_buffer}
use Rattle.worked_examples.specs.Stations.{zeros, first_speaker, bidder, after, makes, refuses, taking, take_refuses, shortest_record, flushed, a_bid, sending, receiving}
use Rattle.calls.specs.Calls.{Station, Verb}

-- a record in Owes, stay, number owed 7
abbrev pub owing : Station
owing =
    let s = first_speaker 3 64 in
    record { end = with_owed 7 (with_control (set_state ConfirmOwed s.end.control) s.end); send = s.send; unit = s.unit; inbox = s.inbox }

-- M 8: gives 00 0A 31 to 36; eight bytes are kept
abbrev pub eight_given : Station
eight_given =
    after (first_speaker 3 8)
    (Verb.allocate ∷ Verb.send_data (0x00 ∷ 0x0A ∷ 0x31 ∷ 0x32 ∷ 0x33 ∷ 0x34 ∷ 0x35 ∷ 0x36 ∷ []) ∷ [])

abbrev pub two_more : Verb
two_more = Verb.send_data (0x37 ∷ 0x38 ∷ [])

-- second units at a bidder, empty: the header 03 90 20, and 03 90 21
abbrev pub good_unit : List ℕ
good_unit = 0x00 ∷ 0x02 ∷ 0x03 ∷ 0x90 ∷ 0x20 ∷ []

abbrev pub bad_unit : List ℕ
bad_unit = 0x00 ∷ 0x02 ∷ 0x03 ∷ 0x90 ∷ 0x21 ∷ []

-- an LL alone: 2, and 1
abbrev pub length2 : List ℕ
length2 = 0x00 ∷ 0x02 ∷ []

abbrev pub length1 : List ℕ
length1 = 0x00 ∷ 0x01 ∷ []

abbrev pub length2_given : Station
length2_given = after sending (Verb.send_data length2 ∷ [])

-- W 2: two units have gone, and bytes for a third are held
abbrev pub two_gone : Station
two_gone =
    after (after (after (after (first_speaker 2 64) (Verb.allocate ∷ [])) flushed) flushed) (Verb.send_data shortest_record ∷ [])

-- a bidder whose inbox holds 00 05 41 42 43 00, by a take
abbrev pub holding : Station
holding = (taking (bidder 3 64) (0x00 ∷ 0x01 ∷ 0x02 ∷ 0x91 ∷ 0x80 ∷ 0x00 ∷ 0x05 ∷ 0x41 ∷ 0x42 ∷ 0x43 ∷ 0x00 ∷ [])).end

abbrev pub read4 : Verb
read4 = Verb.receive (zeros 4)

-- what a read copies, and whether it says complete
abbrev pub copied : Station → Verb → List ℕ
copied s v = take (acts s v).answer.answer.copied (acts s v).answer.buffer

abbrev pub complete : Station → Verb → Bool
complete s v = (acts s v).answer.answer.complete

pub record Table : Type 0 where
  -- fresh bidder allocates
  pub bid : makes (bidder 3 64) Verb.allocate ≡ a_bid ∷ []
  -- fresh first speaker takes it
  pub grant : (taking (first_speaker 3 64) a_bid).sent normal ≡ (0x00 ∷ 0x01 ∷ 0xCB ∷ 0x80 ∷ 0x00 ∷ 0x04 ∷ []) ∷ []
  -- the same, already in Send
  pub refusal : (taking sending a_bid).sent normal ≡ (0x00 ∷ 0x01 ∷ 0xCF ∷ 0x90 ∷ 0x00 ∷ 0x08 ∷ 0x13 ∷ 0x00 ∷ 0x00 ∷ 0x04 ∷ []) ∷ []
  -- confirmed, number owed 7
  pub confirmation : makes owing Verb.confirmed ≡ (0x00 ∷ 0x07 ∷ 0x83 ∷ 0x20 ∷ 0x00 ∷ []) ∷ []
  -- first speaker allocates, gives 00 05 41 42 43, ends
  pub ends :
      makes (after sending (Verb.send_data (0x00 ∷ 0x05 ∷ 0x41 ∷ 0x42 ∷ 0x43 ∷ []) ∷ [])) (J.deallocate false)
      ≡ (0x00 ∷ 0x01 ∷ 0x03 ∷ 0x91 ∷ 0x81 ∷ 0x00 ∷ 0x05 ∷ 0x41 ∷ 0x42 ∷ 0x43 ∷ []) ∷ []
  -- M 8: gives 00 0A 31 to 36, then 37 38
  pub cut :
      makes eight_given two_more
      ≡ (0x00 ∷ 0x01 ∷ 0x02 ∷ 0x91 ∷ 0x80 ∷ 0x00 ∷ 0x0A ∷ 0x31 ∷ 0x32 ∷ 0x33 ∷ 0x34 ∷ 0x35 ∷ 0x36 ∷ []) ∷ []
  -- then confirm
  pub confirm : makes (after eight_given (two_more ∷ [])) J.confirm ≡ (0x00 ∷ 0x02 ∷ 0x01 ∷ 0x20 ∷ 0x00 ∷ 0x37 ∷ 0x38 ∷ []) ∷ []
  -- header 03 90 20 is good: a unit of it is taken where it fits, and leaves the mark of a turn
  pub good_header : header_good (bytes 0x03 0x90 0x20) ≡ true
  pub good_taken : take_refuses receiving good_unit ≡ 0
  pub good_mark : (taking receiving good_unit).end.end.control.mark ≡ mark.Turn
  -- header 03 90 21, there: 21, and the rule is H5
  pub bad_header : (taking receiving bad_unit).answer.answer.answer ≡ record { refusal = 21; sense = 0; rule = 5; unit = 0 }
  -- LL 00 02 given: accepted, a whole record; the place is between records, no other part follows, and the end carries the record
  pub good_length : refuses sending (Verb.send_data length2) ≡ 0
  pub whole_record : whole_records (bytes_in_send_buffer length2_given) ≡ (0x00 ∷ 0x02 ∷ []) ∷ []
  pub whole_place : length2_given.end.sending.given ≡ Between false
  pub whole_carried : makes length2_given (J.deallocate false) ≡ (0x00 ∷ 0x01 ∷ 0x03 ∷ 0x91 ∷ 0x81 ∷ 0x00 ∷ 0x02 ∷ []) ∷ []
  -- LL 00 01 given: 8
  pub bad_length : refuses sending (Verb.send_data length1) ≡ 8
  -- W 2: third unit before a pacing answer
  pub no_credit : refuses two_gone J.flush ≡ 10
  -- inbox 00 05 41 42 43 00, read 4, 4, 4
  pub read_first : copied holding read4 ≡ 0x00 ∷ 0x05 ∷ 0x41 ∷ 0x42 ∷ []
  pub not_complete : complete holding read4 ≡ false
  pub read_second : copied (after holding (read4 ∷ [])) read4 ≡ 0x43 ∷ []
  pub is_complete : complete (after holding (read4 ∷ [])) read4 ≡ true
  pub read_third : copied (after holding (read4 ∷ read4 ∷ [])) read4 ≡ 0x00 ∷ []
  pub not_complete_again : complete (after holding (read4 ∷ read4 ∷ [])) read4 ≡ false
