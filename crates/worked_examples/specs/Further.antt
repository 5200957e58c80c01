-- Rows beside document 01's table, each an outcome that its words fix; W 3 and M 64 unless said. One statement, proved by computation.
-- Assumes nothing.
use Rattle.std.specs.Prelude.{ℕ, ◌≡◌, Bool, true, false, List, [], ◌∷◌, ◌++◌}
use Rattle.end.specs.Record.{credit_of, open_of}
use Rattle.end.specs.Outcome.{with_sending, with_receiving}
use Rattle.calls.specs.Calls as J
use Rattle.joined.specs.Ends.{opened_with}
use Rattle.worked_examples.specs.Stations.{zeros, session, first_speaker, bidder, after, makes, units_made, refuses, taking, take_refuses, after_taking, takes_refuse, flushed, first_unit, second_unit, third_unit, a_bid, a_pacing_answer, sending, one_sent, two_sent, has_bid, receiving}
use Rattle.worked_examples.specs.Breaches.{Breaches, MarkFirst}
use Rattle.worked_examples.specs.RulesNamed.{RulesNamed}
use Rattle.worked_examples.specs.Parts.{Parts}
use Rattle.worked_examples.specs.Prepared.{Prepared}
use Rattle.worked_examples.specs.Denied.{Denied}
use Rattle.worked_examples.specs.Signalled.{Signalled}
use Rattle.worked_examples.specs.FromBytes.{FromBytes}
use Rattle.calls.specs.Calls.{Station, Verb}

-- ---- "Last sequence number sent and last taken, from 0; the number after 65,535 is 0."

-- the end with another last number sent, and with another last number taken
abbrev pub last_sent : ℕ → Station → Station
last_sent n s =
    let t = s.end.sending in
    record {
      end = with_sending (record { window = t.window; max = t.max; held = t.held; number = n; given = t.given }) s.end;
      send = s.send;
      unit = s.unit;
      inbox = s.inbox;
    }

abbrev pub last_taken : ℕ → Station → Station
last_taken n s =
    let t = s.end.receiving in
    record {
      end =
          with_receiving
          (record { window = t.window; max = t.max; inbox = t.inbox; held = t.held; number = n; taken = t.taken; read = t.read })
          s.end;
      send = s.send;
      unit = s.unit;
      inbox = s.inbox;
    }

-- three requests, numbered 65,534, 65,535 and 0
abbrev pub three_requests : List (List ℕ)
three_requests =
    (0xFF ∷ 0xFE ∷ 0x03 ∷ 0x91 ∷ 0x80 ∷ 0x00 ∷ 0x02 ∷ [])
    ∷ (0xFF ∷ 0xFF ∷ 0x03 ∷ 0x90 ∷ 0x00 ∷ 0x00 ∷ 0x02 ∷ [])
    ∷ (0x00 ∷ 0x00 ∷ 0x03 ∷ 0x90 ∷ 0x00 ∷ 0x00 ∷ 0x02 ∷ [])
    ∷ []

pub record Numbers : Type 0 where
  pub made : units_made (last_sent 65533 sending) (flushed ++ (flushed ++ flushed)) ≡ three_requests
  pub taken : takes_refuse (last_taken 65533 (bidder 3 64)) three_requests ≡ 0 ∷ 0 ∷ 0 ∷ []
  pub last_taken_lem : (after_taking (last_taken 65533 (bidder 3 64)) three_requests).end.receiving.number ≡ 0
  -- a bid takes a number as data does
  pub bid_made :
      makes (last_sent 65535 (bidder 3 64)) Verb.allocate ≡ (0x00 ∷ 0x00 ∷ 0x4B ∷ 0x81 ∷ 0x80 ∷ 0x04 ∷ 0x00 ∷ 0x06 ∷ 0x00 ∷ 0x00 ∷ []) ∷ []

-- ---- "Credit (sending) and open (receiving) are each W if that way's flag is off, else 0, plus W less the place if the place is not 0."

abbrev pub credit_at : Station → ℕ
credit_at s = credit_of s.end

abbrev pub unanswered : Station → Bool
unanswered s = s.end.sending.window.pending

-- "Pacing answer: credit rises by W, unanswered off."
pub record CreditRaised : Type 0 where
  pub as_opened : credit_at sending ≡ 3
  pub left_at_1 : credit_at one_sent ≡ 2
  pub left_at_2 : credit_at two_sent ≡ 1
  pub left_at_0 : credit_at (after two_sent flushed) ≡ 0
  pub unanswered_on : (unanswered sending ≡ false) × (unanswered one_sent ≡ true) × (unanswered two_sent ≡ true)
  pub taken_at_1 : take_refuses one_sent a_pacing_answer ≡ 0
  pub raised_at_1 : credit_at (taking one_sent a_pacing_answer).end ≡ 5
  pub off_at_1 : unanswered (taking one_sent a_pacing_answer).end ≡ false
  pub taken_at_2 : take_refuses two_sent a_pacing_answer ≡ 0
  pub raised_at_2 : credit_at (taking two_sent a_pacing_answer).end ≡ 4
  pub off_at_2 : unanswered (taking two_sent a_pacing_answer).end ≡ false

-- M 8 and an inbox of 64, so that there is room for more than a window
abbrev pub roomy : Station
roomy = (opened_with (session 1 3 8) (record { send = zeros 8; unit = zeros 13; inbox = zeros 64 })).end

-- one unit is taken, and two
abbrev pub one_taken : Station
one_taken = after_taking roomy (first_unit ∷ [])

abbrev pub two_taken : Station
two_taken = after_taking roomy (first_unit ∷ second_unit ∷ [])

abbrev pub open_at : Station → ℕ
open_at s = open_of s.end

abbrev pub owed : Station → Bool
owed s = s.end.receiving.window.pending

-- "Each request lowers open by 1; its pacing bit .. sets the owed flag"; "Pace: a pacing answer, numbered 0; owed off, open up by W."
pub record OpenRaised : Type 0 where
  pub as_opened : open_at roomy ≡ 3
  pub left_at_1 : open_at one_taken ≡ 2
  pub left_at_2 : open_at two_taken ≡ 1
  pub left_at_0 : open_at (after_taking two_taken (third_unit ∷ [])) ≡ 0
  pub owed_on : (owed roomy ≡ false) × (owed one_taken ≡ true) × (owed two_taken ≡ true)
  pub paced_at_1 : makes one_taken Verb.send_pacing_response ≡ a_pacing_answer ∷ []
  pub raised_at_1 : open_at (after one_taken (Verb.send_pacing_response ∷ [])) ≡ 5
  pub off_at_1 : owed (after one_taken (Verb.send_pacing_response ∷ [])) ≡ false
  pub paced_at_2 : makes two_taken Verb.send_pacing_response ≡ a_pacing_answer ∷ []
  pub raised_at_2 : open_at (after two_taken (Verb.send_pacing_response ∷ [])) ≡ 4
  pub off_at_2 : owed (after two_taken (Verb.send_pacing_response ∷ [])) ≡ false
  -- "is an answer owed, and is held + (open+W)×M within the inbox?" Answered twice; and where the inbox has no room for a window more
  pub paced_once : refuses (after one_taken (Verb.send_pacing_response ∷ [])) Verb.send_pacing_response ≡ 11
  pub no_room : refuses receiving Verb.send_pacing_response ≡ 11
  -- a bid is a request too, granted or refused
  pub bid_before : open_at (first_speaker 3 64) ≡ 3
  pub bid_granted : open_at (taking (first_speaker 3 64) a_bid).end ≡ 2
  pub bid_refused : open_at (taking sending a_bid).end ≡ 2
  pub bid_owes : owed (taking (first_speaker 3 64) a_bid).end ≡ true

-- ---- "Allocate, in Reset. .. Bidder, only with the bid flag off": a second one is 7

pub record SecondAllocate : Type 0 where
  pub at_bidder : refuses has_bid Verb.allocate ≡ 7
  pub at_speaker : refuses sending Verb.allocate ≡ 7

-- ---- "For confirm, turn, end: is the last record whole? 9."

-- three bytes of a record of five are given
abbrev pub in_record : Station
in_record = after sending (Verb.send_data (0x00 ∷ 0x05 ∷ 0x41 ∷ []) ∷ [])

pub record Unfinished : Type 0 where
  pub turn : refuses in_record (J.prepare_to_receive false) ≡ 9
  pub confirm_turn_lem : refuses in_record (J.prepare_to_receive true) ≡ 9
  pub end : refuses in_record (J.deallocate false) ≡ 9
  pub confirm_end : refuses in_record (J.deallocate true) ≡ 9
  pub confirm : refuses in_record J.confirm ≡ 9
  -- a flush is accepted, and the record is unfinished still
  pub flush : makes in_record J.flush ≡ (0x00 ∷ 0x01 ∷ 0x03 ∷ 0x91 ∷ 0x80 ∷ 0x00 ∷ 0x05 ∷ 0x41 ∷ []) ∷ []
  pub turn_flushed : refuses (after in_record (J.flush ∷ [])) (J.prepare_to_receive false) ≡ 9
  -- the last two bytes, and the turn is made
  pub turn_whole : refuses (after in_record (J.flush ∷ Verb.send_data (0x42 ∷ 0x43 ∷ []) ∷ [])) (J.prepare_to_receive false) ≡ 0

pub record FurtherRows : Type 0 where
  pub numbers : Numbers
  pub credit_raised : CreditRaised
  pub open_raised : OpenRaised
  pub second_allocate : SecondAllocate
  pub unfinished : Unfinished
  pub breaches : Breaches
  pub mark_first : MarkFirst
  pub rules : RulesNamed
  pub parts : Parts
  pub prepared : Prepared
  pub denied : Denied
  pub signalled : Signalled
  pub from_bytes : FromBytes
