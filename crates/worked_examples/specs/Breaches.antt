-- Forged units, W 3 and M 64 unless said: for each of 20 to 29 units that are refused with that number and its sense, in the order in which document
-- 01 asks. Beside them stand units that are taken there. 13, under an unread mark, comes before all of them.
-- Assumes nothing.
use Rattle.std.specs.Prelude.{ℕ, ◌≡◌, false, List, [], ◌∷◌}
use Rattle.control.specs.declared.State.{State}
use Rattle.control.specs.declared.State.TheVariants.{Reset, Send, Receive, ConfirmOwed, ConfirmAwaited, DeferTurn, DeferEnd}
use Rattle.control.specs.declared.Deferred.TheVariants as deferral
use Rattle.answers.specs.declared.Answer.{Answer}
use Rattle.calls.specs.Calls as J
use Rattle.joined.specs.Ends.{normal, takes, on_normal}
use Rattle.worked_examples.specs.Stations.{zeros, first_speaker, bidder, after, take_refuses, after_taking, shortest_record, first_unit, second_unit, third_unit, a_bid, a_pacing_answer, sending, one_sent, has_bid, receiving}
use Rattle.calls.specs.Calls.{Station, Verb, plain}

-- a take of u at s is refused with this answer: the record and every lent cell are as before, no unit is made, and u stays on its line
abbrev pub RefusedWith : Station → List ℕ → Answer → Type 0
RefusedWith s u answer = takes normal s u ≡ record { end = s; answer = plain answer; sent = on_normal []; removed = false }

-- with this number and sense
abbrev pub Refused : Station → List ℕ → ℕ → ℕ → Type 0
Refused s u number sense = RefusedWith s u (record { refusal = number; sense = sense; rule = 0; unit = 0 })

-- with 21, which names this rule
abbrev pub Names : Station → List ℕ → ℕ → Type 0
Names s u rule = RefusedWith s u (record { refusal = 21; sense = 0; rule = rule; unit = 0 })

abbrev pub Accepted : Station → List ℕ → Type 0
Accepted s u = take_refuses s u ≡ 0

-- ---- the ends

-- a bidder that has taken the first unit of a chain, not last; and a first speaker that has, once it granted a bid
abbrev pub in_chain : Station
in_chain = after_taking (bidder 3 64) ((0x00 ∷ 0x01 ∷ 0x02 ∷ 0x91 ∷ 0x80 ∷ 0x00 ∷ 0x02 ∷ []) ∷ [])

abbrev pub speaker_in_chain : Station
speaker_in_chain = after_taking (first_speaker 3 64) (a_bid ∷ (0x00 ∷ 0x02 ∷ 0x02 ∷ 0x90 ∷ 0x00 ∷ 0x00 ∷ 0x02 ∷ []) ∷ [])

-- a bidder that has taken a whole window: open is 0; and once it has read all and paced
abbrev pub none_open : Station
none_open = after_taking receiving (second_unit ∷ third_unit ∷ [])

abbrev pub open_again : Station
open_again = after none_open (Verb.receive (zeros 2) ∷ Verb.receive (zeros 2) ∷ Verb.receive (zeros 2) ∷ Verb.send_pacing_response ∷ [])

-- a bidder in Owes: a unit with a confirmation request taken, its record and its mark read
abbrev pub owes : Station
owes =
    after (after_taking (bidder 3 64) ((0x00 ∷ 0x01 ∷ 0x03 ∷ 0x21 ∷ 0x80 ∷ 0x00 ∷ 0x02 ∷ []) ∷ []))
    (Verb.receive (zeros 2) ∷ Verb.receive (zeros 2) ∷ [])

-- a first speaker in Waits, for a confirmation of number 1
abbrev pub waits : Station
waits = after sending (Verb.send_data shortest_record ∷ J.confirm ∷ [])

-- a first speaker in Defer: a turn is prepared, and an end
abbrev pub defers_turn : Station
defers_turn = after sending (Verb.defer deferral.Turn ∷ [])

abbrev pub defers_end : Station
defers_end = after sending (Verb.defer deferral.End ∷ [])

-- a bidder that has taken a unit with CD and has not read it: the mark is turn
abbrev pub marked : Station
marked = after_taking (bidder 3 64) ((0x00 ∷ 0x01 ∷ 0x03 ∷ 0x91 ∷ 0xA0 ∷ 0x00 ∷ 0x02 ∷ []) ∷ [])

-- the first data unit but for BB
abbrev pub without_bb : List ℕ
without_bb = 0x00 ∷ 0x01 ∷ 0x03 ∷ 0x91 ∷ 0x00 ∷ 0x00 ∷ 0x02 ∷ []

abbrev pub state_of : Station → State
state_of s = s.end.control.state

pub record Breaches : Type 0 where
  -- the unit that is next is taken
  pub next_unit : Accepted receiving second_unit
  -- has the unit at least 5 bytes?
  pub four_bytes : Refused receiving (0x00 ∷ 0x02 ∷ 0x03 ∷ 0x90 ∷ []) 20 0x40050000
  pub no_byte_lem : Refused receiving [] 20 0x40050000
  -- do H1 to H6 hold? H5 is broken
  pub cd_and_ceb : Names receiving (0x00 ∷ 0x02 ∷ 0x03 ∷ 0x90 ∷ 0x21 ∷ 0x00 ∷ 0x02 ∷ []) 5
  -- is the RU as above? Empty without a mark; with one it is good; longer than M; a bid's, a grant's and a confirmation's own
  pub empty_ru : Refused receiving (0x00 ∷ 0x02 ∷ 0x03 ∷ 0x90 ∷ 0x00 ∷ []) 22 0x10020000
  pub empty_with_mark : Accepted receiving (0x00 ∷ 0x02 ∷ 0x03 ∷ 0x90 ∷ 0x01 ∷ [])
  pub nine_of_8 :
      Refused (bidder 3 8) (0x00 ∷ 0x01 ∷ 0x03 ∷ 0x91 ∷ 0x80 ∷ 0x00 ∷ 0x09 ∷ 0x31 ∷ 0x32 ∷ 0x33 ∷ 0x34 ∷ 0x35 ∷ 0x36 ∷ 0x37 ∷ []) 22 0x10020000
  pub eight_of_8 : Accepted (bidder 3 8) (0x00 ∷ 0x01 ∷ 0x03 ∷ 0x91 ∷ 0x80 ∷ 0x00 ∷ 0x08 ∷ 0x31 ∷ 0x32 ∷ 0x33 ∷ 0x34 ∷ 0x35 ∷ 0x36 ∷ [])
  pub bid_ru :
      Refused (first_speaker 3 64) (0x00 ∷ 0x01 ∷ 0x4B ∷ 0x81 ∷ 0x80 ∷ 0x04 ∷ 0x00 ∷ 0x06 ∷ 0x00 ∷ 0x01 ∷ []) 22 0x10020000
  pub grant_ru : Refused has_bid (0x00 ∷ 0x01 ∷ 0xCB ∷ 0x80 ∷ 0x00 ∷ 0x05 ∷ []) 22 0x10020000
  pub confirmation_ru : Refused waits (0x00 ∷ 0x01 ∷ 0x83 ∷ 0x20 ∷ 0x00 ∷ 0x00 ∷ []) 22 0x10020000
  -- is open above 0 and the pacing bit right? On past place 0, off at place 0; at place 0 with none open
  pub pacing_on : Refused receiving (0x00 ∷ 0x02 ∷ 0x03 ∷ 0x91 ∷ 0x00 ∷ 0x00 ∷ 0x02 ∷ []) 27 0x20110000
  pub pacing_off : Refused (first_speaker 3 64) (0x00 ∷ 0x01 ∷ 0x4B ∷ 0x80 ∷ 0x80 ∷ 0x04 ∷ 0x00 ∷ 0x06 ∷ 0x00 ∷ 0x00 ∷ []) 27 0x20110000
  pub none_open_lem : Refused none_open (0x00 ∷ 0x04 ∷ 0x03 ∷ 0x91 ∷ 0x00 ∷ 0x00 ∷ 0x02 ∷ []) 27 0x20110000
  pub open_again_lem : Accepted open_again (0x00 ∷ 0x04 ∷ 0x03 ∷ 0x91 ∷ 0x00 ∷ 0x00 ∷ 0x02 ∷ [])
  -- a pacing answer: is one unanswered?
  pub none_unanswered : Refused sending a_pacing_answer 27 0x20110000
  pub one_unanswered : Accepted one_sent a_pacing_answer
  -- is a request's number the next one, a pacing answer's 0?
  pub one_left_out : Refused receiving third_unit 23 0x20010000
  pub same_again : Refused receiving (0x00 ∷ 0x01 ∷ 0x03 ∷ 0x90 ∷ 0x00 ∷ 0x00 ∷ 0x02 ∷ []) 23 0x20010000
  pub pacing_numbered_1 : Refused one_sent (0x00 ∷ 0x01 ∷ 0x83 ∷ 0x01 ∷ 0x00 ∷ []) 23 0x20010000
  -- 27 is asked before 23
  pub bit_and_number : Refused receiving (0x00 ∷ 0x03 ∷ 0x03 ∷ 0x91 ∷ 0x00 ∷ 0x00 ∷ 0x02 ∷ []) 27 0x20110000
  -- is "first" on exactly when no chain is open?
  pub first_in_chain : Refused in_chain second_unit 24 0x20020000
  pub last_in_chain : Accepted in_chain (0x00 ∷ 0x02 ∷ 0x01 ∷ 0x90 ∷ 0x00 ∷ 0x00 ∷ 0x02 ∷ [])
  pub no_first : Refused receiving (0x00 ∷ 0x02 ∷ 0x01 ∷ 0x90 ∷ 0x00 ∷ 0x00 ∷ 0x02 ∷ []) 24 0x20020000
  pub bid_in_chain : Refused speaker_in_chain (0x00 ∷ 0x03 ∷ 0x4B ∷ 0x80 ∷ 0x80 ∷ 0x04 ∷ 0x00 ∷ 0x06 ∷ 0x00 ∷ 0x00 ∷ []) 24 0x20020000
  -- is a bid at role 0 only, and data's BB on exactly at a bidder in Reset?
  pub bid_at_bidder : Refused (bidder 3 64) a_bid 25 0x20030000
  pub bb_in_receive : Refused receiving (0x00 ∷ 0x02 ∷ 0x03 ∷ 0x90 ∷ 0x80 ∷ 0x00 ∷ 0x02 ∷ []) 25 0x20030000
  pub bb_at_speaker : Refused (first_speaker 3 64) first_unit 25 0x20030000
  pub bb_in_reset : Accepted (bidder 3 64) first_unit
  pub no_bb_in_reset : Refused (bidder 3 64) without_bb 25 0x20030000
  -- data: is the state Receive, or Reset made Receive by BB? In each of the other states
  pub states :
      (state_of (first_speaker 3 64) ≡ Reset)
      × (state_of sending ≡ Send)
      × (state_of receiving ≡ Receive)
      × (state_of owes ≡ ConfirmOwed)
      × (state_of waits ≡ ConfirmAwaited)
      × (state_of defers_turn ≡ DeferTurn)
      × (state_of defers_end ≡ DeferEnd)
  pub data_in_reset : Refused (first_speaker 3 64) without_bb 26 0x20040000
  pub data_in_send : Refused sending without_bb 26 0x20040000
  pub data_in_owes : Refused owes second_unit 26 0x20040000
  pub data_in_waits : Refused waits without_bb 26 0x20040000
  pub data_in_defer_turn : Refused defers_turn without_bb 26 0x20040000
  pub data_in_defer_end : Refused defers_end without_bb 26 0x20040000
  -- is every LL good, and at a mark nothing unfinished? (behind a part that says that another follows: Parts)
  pub length_1 : Refused receiving (0x00 ∷ 0x02 ∷ 0x03 ∷ 0x90 ∷ 0x00 ∷ 0x00 ∷ 0x01 ∷ []) 29 0
  pub unfinished_at_mark : Refused receiving (0x00 ∷ 0x02 ∷ 0x03 ∷ 0x90 ∷ 0x20 ∷ 0x00 ∷ 0x05 ∷ 0x41 ∷ []) 29 0
  pub unfinished_without_mark : Accepted receiving (0x00 ∷ 0x02 ∷ 0x03 ∷ 0x90 ∷ 0x00 ∷ 0x00 ∷ 0x05 ∷ 0x41 ∷ [])
  -- grant, refusal, confirmation: does it fit state or flag, and is its number the bid's or, for a confirmation, the last sent?
  pub another_grant : Refused has_bid (0x00 ∷ 0x02 ∷ 0xCB ∷ 0x80 ∷ 0x00 ∷ 0x04 ∷ []) 28 0x200E0000
  pub its_grant : Accepted has_bid (0x00 ∷ 0x01 ∷ 0xCB ∷ 0x80 ∷ 0x00 ∷ 0x04 ∷ [])
  pub grant_without_bid : Refused (bidder 3 64) (0x00 ∷ 0x00 ∷ 0xCB ∷ 0x80 ∷ 0x00 ∷ 0x04 ∷ []) 28 0x200E0000
  pub another_refusal : Refused has_bid (0x00 ∷ 0x02 ∷ 0xCF ∷ 0x90 ∷ 0x00 ∷ 0x08 ∷ 0x13 ∷ 0x00 ∷ 0x00 ∷ 0x04 ∷ []) 28 0x200E0000
  pub its_refusal : Accepted has_bid (0x00 ∷ 0x01 ∷ 0xCF ∷ 0x90 ∷ 0x00 ∷ 0x08 ∷ 0x13 ∷ 0x00 ∷ 0x00 ∷ 0x04 ∷ [])
  pub another_confirmation : Refused waits (0x00 ∷ 0x02 ∷ 0x83 ∷ 0x20 ∷ 0x00 ∷ []) 28 0x200E0000
  pub its_confirmation : Accepted waits (0x00 ∷ 0x01 ∷ 0x83 ∷ 0x20 ∷ 0x00 ∷ [])
  pub confirmation_in_send : Refused one_sent (0x00 ∷ 0x01 ∷ 0x83 ∷ 0x20 ∷ 0x00 ∷ []) 28 0x200E0000

-- is the mark none? 13, asked before all of these and of every kind of unit
pub record MarkFirst : Type 0 where
  pub next_unit : Refused marked second_unit 13 0
  pub no_byte_lem : Refused marked [] 13 0
  pub four_bytes : Refused marked (0x00 ∷ 0x02 ∷ 0x03 ∷ 0x90 ∷ []) 13 0
  pub bad_header : Refused marked (0xFF ∷ 0xFF ∷ 0xFF ∷ 0xFF ∷ 0xFF ∷ 0xFF ∷ []) 13 0
  pub empty_ru : Refused marked (0x00 ∷ 0x02 ∷ 0x03 ∷ 0x90 ∷ 0x00 ∷ []) 13 0
  pub none_unanswered : Refused marked a_pacing_answer 13 0
  pub another_number : Refused marked (0x00 ∷ 0x05 ∷ 0x03 ∷ 0x90 ∷ 0x00 ∷ 0x00 ∷ 0x02 ∷ []) 13 0
  pub no_first : Refused marked (0x00 ∷ 0x02 ∷ 0x01 ∷ 0x90 ∷ 0x00 ∷ 0x00 ∷ 0x02 ∷ []) 13 0
  pub bb_in_receive : Refused marked (0x00 ∷ 0x02 ∷ 0x03 ∷ 0x90 ∷ 0x80 ∷ 0x00 ∷ 0x02 ∷ []) 13 0
  pub length_1 : Refused marked (0x00 ∷ 0x02 ∷ 0x03 ∷ 0x90 ∷ 0x00 ∷ 0x00 ∷ 0x01 ∷ []) 13 0
  pub no_confirmation_awaited : Refused marked (0x00 ∷ 0x01 ∷ 0x83 ∷ 0x20 ∷ 0x00 ∷ []) 13 0
