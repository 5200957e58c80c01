-- Whole conversations run on two joined ends, by computation: the definitions alive.
-- Assumes nothing.
use Rattle.std.specs.Prelude.{ℕ, ◌≡◌, true, false, List, [], ◌∷◌, ◌++◌}
use Rattle.logical_record.specs.Records.{whole_records}
use Rattle.control.specs.declared.State.{State}
use Rattle.control.specs.declared.State.TheVariants.{Reset, Send, Receive}
use Rattle.end.specs.Record.{credit_of}
use Rattle.joined.specs.Joined.{At, first, second, act, take, acted, took, Side, Both}
use Rattle.calls.specs.Calls as J
use Rattle.joined.specs.Ends.{Lane, normal, opened_both}
use Rattle.joined.specs.Histories as H
use Rattle.joined.specs.Histories.{Log, pacing_responses_taken, requests_made}
use Rattle.worked_examples.specs.Stations.{zeros, session, joined, runs}
use Rattle.calls.specs.Calls.{Reply, Station, Verb, refusal_in}

-- the refusal numbers of an end's calls, in order
abbrev pub numbers : Log → List ℕ
numbers [] = []
numbers (acted v r us ∷ es) = numbers es ++ (refusal_in r ∷ [])
numbers (took l u r us ∷ es) = numbers es ++ (refusal_in r ∷ [])

abbrev pub state_of : Side Lane Station Verb Reply (List ℕ) → State
state_of s = s.end.end.control.state

-- ---- a bid crosses the first speaker's data

abbrev pub a_record : List ℕ
a_record = 0x00 ∷ 0x05 ∷ 0x41 ∷ 0x42 ∷ 0x43 ∷ []

-- the bidder bids while the first speaker begins, sends a record and ends; the bid is granted once the bracket has ended, but the bidder reads
-- the record and its end before it takes the grant
abbrev pub race : List (At Lane Verb)
race =
    second (act Verb.allocate)
    ∷ first (act Verb.allocate)
    ∷ first (act (Verb.send_data a_record))
    ∷ first (act (J.deallocate false))
    ∷ first (take normal)
    ∷ second (take normal)
    ∷ second (act (Verb.receive (zeros 3)))
    ∷ second (act (Verb.receive (zeros 64)))
    ∷ second (take normal)
    ∷ second (act (Verb.receive (zeros 64)))
    ∷ second (take normal)
    ∷ first (take normal)
    ∷ []

pub record Race : Type 0 where
  pub speaker_answers : numbers (runs (joined 3 64) race).one.log ≡ 0 ∷ 0 ∷ 0 ∷ 0 ∷ []
  -- the take of the grant is refused with 13 until the mark is read
  pub bidder_answers : numbers (runs (joined 3 64) race).two.log ≡ 0 ∷ 0 ∷ 0 ∷ 0 ∷ 13 ∷ 0 ∷ 0 ∷ []
  pub record_read : H.bytes_read (runs (joined 3 64) race).two.log ≡ a_record
  pub speaker_receives : state_of (runs (joined 3 64) race).one ≡ Receive
  pub bidder_sends : state_of (runs (joined 3 64) race).two ≡ Send

-- ---- the bid comes too late

-- the same, but the first speaker takes the bid while it still sends: the bid is refused, and the bidder has the turn by reading CD
abbrev pub refused : List (At Lane Verb)
refused =
    second (act Verb.allocate)
    ∷ first (act Verb.allocate)
    ∷ first (act (Verb.send_data a_record))
    ∷ first (take normal)
    ∷ first (act (J.prepare_to_receive false))
    ∷ second (take normal)
    ∷ second (take normal)
    ∷ second (act (Verb.receive (zeros 64)))
    ∷ second (act (Verb.receive (zeros 1)))
    ∷ []

pub record Refused : Type 0 where
  pub bidder_answers : numbers (runs (joined 3 64) refused).two.log ≡ 0 ∷ 0 ∷ 0 ∷ 0 ∷ 0 ∷ []
  pub record_read : H.bytes_read (runs (joined 3 64) refused).two.log ≡ a_record
  pub flag_off : (runs (joined 3 64) refused).two.end.end.control.bid ≡ false
  pub speaker_receives : state_of (runs (joined 3 64) refused).one ≡ Receive
  pub bidder_sends : state_of (runs (joined 3 64) refused).two ≡ Send

-- ---- a record over three units, with a pacing answer that crosses the second

abbrev pub eight : List ℕ
eight = 0x00 ∷ 0x14 ∷ 0x01 ∷ 0x02 ∷ 0x03 ∷ 0x04 ∷ 0x05 ∷ 0x06 ∷ []

abbrev pub sixteen : List ℕ
sixteen = 0x07 ∷ 0x08 ∷ 0x09 ∷ 0x0A ∷ 0x0B ∷ 0x0C ∷ 0x0D ∷ 0x0E ∷ []

abbrev pub four : List ℕ
four = 0x0F ∷ 0x10 ∷ 0x11 ∷ 0x12 ∷ []

-- W 2, M 8, and an inbox of 32, so that the receiving end may answer before its inbox is empty
abbrev pub cut_ends : Both Lane Station Verb Reply (List ℕ)
cut_ends =
    opened_both (session 0 2 8) (session 1 2 8) (record { send = zeros 8; unit = zeros 13; inbox = zeros 32 })
    (record { send = zeros 8; unit = zeros 13; inbox = zeros 32 })

abbrev pub cut : List (At Lane Verb)
cut =
    first (act Verb.allocate)
    ∷ first (act (Verb.send_data eight))
    ∷ first (act (Verb.send_data sixteen))
    ∷ second (take normal)
    ∷ second (act Verb.send_pacing_response)
    ∷ first (act (Verb.send_data four))
    ∷ first (act (J.deallocate false))
    ∷ first (take normal)
    ∷ first (act (J.deallocate false))
    ∷ second (act (Verb.receive (zeros 5)))
    ∷ second (take normal)
    ∷ second (take normal)
    ∷ second (act (Verb.receive (zeros 32)))
    ∷ second (act (Verb.receive (zeros 32)))
    ∷ []

pub record Cut : Type 0 where
  -- the end waits for credit: 10 until the pacing answer is taken
  pub speaker_answers : numbers (runs cut_ends cut).one.log ≡ 0 ∷ 0 ∷ 0 ∷ 0 ∷ 10 ∷ 0 ∷ 0 ∷ []
  pub bidder_answers : numbers (runs cut_ends cut).two.log ≡ 0 ∷ 0 ∷ 0 ∷ 0 ∷ 0 ∷ 0 ∷ 0 ∷ []
  pub one_record : whole_records (H.bytes_read (runs cut_ends cut).two.log) ≡ (eight ++ (sixteen ++ four)) ∷ []
  pub three_requests : requests_made (runs cut_ends cut).one.log ≡ 3
  pub one_answer : pacing_responses_taken (runs cut_ends cut).one.log ≡ 1
  pub credit_left : credit_of (runs cut_ends cut).one.end.end ≡ 1
  pub both_reset : (state_of (runs cut_ends cut).one ≡ Reset) × (state_of (runs cut_ends cut).two ≡ Reset)

-- ---- confirm-turn

abbrev pub confirm_turn : List (At Lane Verb)
confirm_turn =
    first (act Verb.allocate)
    ∷ first (act (Verb.send_data a_record))
    ∷ first (act (J.prepare_to_receive true))
    ∷ second (take normal)
    ∷ second (act (Verb.receive (zeros 8)))
    ∷ second (act (Verb.receive (zeros 8)))
    ∷ second (act Verb.confirmed)
    ∷ first (take normal)
    ∷ []

pub record ConfirmTurn : Type 0 where
  pub speaker_answers : numbers (runs (joined 3 64) confirm_turn).one.log ≡ 0 ∷ 0 ∷ 0 ∷ 0 ∷ []
  pub bidder_answers : numbers (runs (joined 3 64) confirm_turn).two.log ≡ 0 ∷ 0 ∷ 0 ∷ 0 ∷ []
  pub speaker_receives : state_of (runs (joined 3 64) confirm_turn).one ≡ Receive
  pub bidder_sends : state_of (runs (joined 3 64) confirm_turn).two ≡ Send

pub record Conversations : Type 0 where
  pub race : Race
  pub refused : Refused
  pub cut : Cut
  pub confirm_turn_lem : ConfirmTurn
