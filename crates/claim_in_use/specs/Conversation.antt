-- One conversation, with the claim read off it: a turn that is prepared and carried out by confirm, a bid that is refused and pacing answers that cross
-- meanwhile, as a signal does, which is told and answered; a table of two parts cut over three units and by a read, no confirmation of it and the error header
-- that says so, a signal that is on the line, and a way back that is under way. What the claim says of it is written out in bytes and numbers.
-- Assumes nothing.
use Rattle.std.specs.Prelude.{ℕ, ◌+◌, ◌*◌, ◌≡◌, true, false, List, [], ◌∷◌, ◌++◌, Ok}
use Rattle.logical_record.specs.Positions.{start, is_whole}
use Rattle.logical_record.specs.Walk.{walk}
use Rattle.logical_record.specs.RecordClaims.{CanEnd}
use Rattle.logical_record.specs.declared.Position.TheVariants.{Between, Remaining}
use Rattle.control.specs.StateTests.{is_send, holds_send}
use Rattle.control.specs.declared.State.TheVariants.{Send, Receive}
use Rattle.control.specs.declared.Deferred.TheVariants as deferral
use Rattle.end.specs.Record.{record_good, credit_of}
use Rattle.session.specs.declared.Session.{Session}
use Rattle.joined.specs.Joined as J
use Rattle.joined.specs.Joined.{first, second, act, AllFed, run}
use Rattle.joined.specs.Ends.{Lane, normal, expedited, same_lane, Buffers, JoinedOpenings, opened_both, acts, takes}
use Rattle.joined.specs.Histories.{bytes_accepted, bytes_read, bytes_in_inbox, bytes_on_line, bytes_in_send_buffer, requests_made, pacing_responses_taken, breaches}
use Rattle.joined.specs.Histories.{refused_with, bad_reads, CompleteIsRight, MoreIsRight, NoneCrosses}
use Rattle.joined.specs.Signals.{signals_made, signals_told}
use Rattle.joined.specs.Claim.{Pair}
use Rattle.worked_examples.specs.Stations.{zeros, session}
use Rattle.calls.specs.Calls.{Verb, flush, confirm}

-- ---- the calls

-- W 2 and M 8 each way, inboxes of 32
abbrev pub speaker : Session
speaker = session 0 2 8

abbrev pub bidder : Session
bidder = session 1 2 8

abbrev pub lent : Buffers
lent = record { send = zeros 8; unit = zeros 13; inbox = zeros 32 }

abbrev pub ends : Pair
ends = opened_both speaker bidder lent lent

-- the table that goes out: two parts, of which the first says that another follows
abbrev pub part1 : List ℕ
part1 = 0x80 ∷ 0x0B ∷ 0x01 ∷ 0x02 ∷ 0x03 ∷ 0x04 ∷ 0x05 ∷ 0x06 ∷ 0x07 ∷ 0x08 ∷ 0x09 ∷ []

abbrev pub part2 : List ℕ
part2 = 0x00 ∷ 0x09 ∷ 0x0A ∷ 0x0B ∷ 0x0C ∷ 0x0D ∷ 0x0E ∷ 0x0F ∷ 0x10 ∷ []

-- as it is given: the second call has the end of the first part and the beginning of the second
abbrev pub given1 : List ℕ
given1 = 0x80 ∷ 0x0B ∷ 0x01 ∷ 0x02 ∷ 0x03 ∷ 0x04 ∷ 0x05 ∷ 0x06 ∷ []

abbrev pub given2 : List ℕ
given2 = 0x07 ∷ 0x08 ∷ 0x09 ∷ 0x00 ∷ 0x09 ∷ 0x0A ∷ 0x0B ∷ 0x0C ∷ []

abbrev pub given3 : List ℕ
given3 = 0x0D ∷ 0x0E ∷ 0x0F ∷ 0x10 ∷ []

-- and what comes back: a table of two parts, one of one part, and the beginning of a part of a third
abbrev pub reply1 : List ℕ
reply1 = 0x80 ∷ 0x06 ∷ 0x20 ∷ 0x21 ∷ 0x22 ∷ 0x23 ∷ []

abbrev pub reply2 : List ℕ
reply2 = 0x00 ∷ 0x05 ∷ 0x30 ∷ 0x31 ∷ 0x32 ∷ []

abbrev pub reply3 : List ℕ
reply3 = 0x00 ∷ 0x02 ∷ []

abbrev pub reply4 : List ℕ
reply4 = 0xAB ∷ 0x01 ∷ 0x02 ∷ 0x03 ∷ 0x04 ∷ 0x05 ∷ 0x06 ∷ 0x07 ∷ 0x08 ∷ []

-- the first signal of an end
abbrev pub a_signal : List ℕ
a_signal = 0x00 ∷ 0x01 ∷ 0x4B ∷ 0x80 ∷ 0x00 ∷ 0xC9 ∷ 0x00 ∷ 0x01 ∷ 0x00 ∷ 0x00 ∷ []

-- the bidder makes its bid, and the first speaker gives all of its table
abbrev pub begun : List (J.At Lane Verb)
begun =
    second (act Verb.allocate)
    ∷ first (act Verb.allocate)
    ∷ first (act (Verb.send_data given1))
    ∷ first (act (Verb.send_data given2))
    ∷ first (act (Verb.send_data given3))
    ∷ []

-- and prepares the turn, with no credit left to give it
abbrev pub early : List (J.At Lane Verb)
early = begun ++ (first (act (Verb.defer deferral.Turn)) ∷ [])

-- while the turn is prepared: the bid is refused, a pacing answer is made, and the bidder takes a unit
abbrev pub crossing : List (J.At Lane Verb)
crossing =
    first (J.take normal)
    ∷ first (act Verb.send_pacing_response)
    ∷ second (J.take normal)
    ∷ []

-- the bidder, which receives, asks for the turn
abbrev pub requesting : List (J.At Lane Verb)
requesting = second (act Verb.request_to_send) ∷ []

-- the first speaker is told of it, in Defer, and its end answers
abbrev pub signalling : List (J.At Lane Verb)
signalling = first (J.take expedited) ∷ []

-- the response passes a pacing answer and the data
abbrev pub settling : List (J.At Lane Verb)
settling =
    second (act Verb.send_pacing_response)
    ∷ second (J.take expedited)
    ∷ second (act (Verb.receive (zeros 5)))
    ∷ first (J.take normal)
    ∷ []

abbrev pub meanwhile : List (J.At Lane Verb)
meanwhile = crossing ++ (requesting ++ (signalling ++ settling))

-- the turn is carried out, with a confirmation requested, and the bidder reads all
abbrev pub asking : List (J.At Lane Verb)
asking =
    first (act confirm)
    ∷ second (J.take normal)
    ∷ second (J.take normal)
    ∷ second (J.take normal)
    ∷ second (J.take normal)
    ∷ second (act (Verb.receive (zeros 32)))
    ∷ second (act (Verb.receive (zeros 32)))
    ∷ second (act (Verb.receive (zeros 32)))
    ∷ []

-- it does not confirm
abbrev pub denying : List (J.At Lane Verb)
denying = second (act Verb.send_error) ∷ []

-- the error header is made, and the first speaker takes the negative confirmation before it
abbrev pub telling : List (J.At Lane Verb)
telling = second (act flush) ∷ first (J.take normal) ∷ []

-- and then the error header, which it reads, and asks for the turn while the bidder replies
abbrev pub late : List (J.At Lane Verb)
late =
    first (J.take normal)
    ∷ first (act (Verb.receive (zeros 64)))
    ∷ first (act Verb.request_to_send)
    ∷ second (act (Verb.send_data (0x80 ∷ 0x06 ∷ 0x20 ∷ 0x21 ∷ 0x22 ∷ 0x23 ∷ 0x00 ∷ 0x05 ∷ [])))
    ∷ second (act (Verb.send_data (0x30 ∷ 0x31 ∷ 0x32 ∷ 0x00 ∷ 0x02 ∷ 0xAB ∷ [])))
    ∷ first (J.take normal)
    ∷ first (act (Verb.receive (zeros 64)))
    ∷ second (act (Verb.send_data (0x01 ∷ 0x02 ∷ 0x03 ∷ 0x04 ∷ 0x05 ∷ 0x06 ∷ 0x07 ∷ 0x08 ∷ [])))
    ∷ []

abbrev pub calls : List (J.At Lane Verb)
calls = early ++ (meanwhile ++ (asking ++ (denying ++ (telling ++ late))))

-- the same calls at each end, in another order between the ends
abbrev pub reordered : List (J.At Lane Verb)
reordered =
    first (act Verb.allocate)
    ∷ first (act (Verb.send_data given1))
    ∷ first (act (Verb.send_data given2))
    ∷ second (act Verb.allocate)
    ∷ second (J.take normal)
    ∷ second (act Verb.request_to_send)
    ∷ second (act Verb.send_pacing_response)
    ∷ first (act (Verb.send_data given3))
    ∷ first (act (Verb.defer deferral.Turn))
    ∷ first (J.take normal)
    ∷ first (act Verb.send_pacing_response)
    ∷ first (J.take expedited)
    ∷ second (J.take expedited)
    ∷ second (act (Verb.receive (zeros 5)))
    ∷ second (J.take normal)
    ∷ second (J.take normal)
    ∷ second (J.take normal)
    ∷ first (J.take normal)
    ∷ first (act confirm)
    ∷ second (J.take normal)
    ∷ second (act (Verb.receive (zeros 32)))
    ∷ second (act (Verb.receive (zeros 32)))
    ∷ second (act (Verb.receive (zeros 32)))
    ∷ second (act Verb.send_error)
    ∷ first (J.take normal)
    ∷ second (act flush)
    ∷ second (act (Verb.send_data (0x80 ∷ 0x06 ∷ 0x20 ∷ 0x21 ∷ 0x22 ∷ 0x23 ∷ 0x00 ∷ 0x05 ∷ [])))
    ∷ second (act (Verb.send_data (0x30 ∷ 0x31 ∷ 0x32 ∷ 0x00 ∷ 0x02 ∷ 0xAB ∷ [])))
    ∷ second (act (Verb.send_data (0x01 ∷ 0x02 ∷ 0x03 ∷ 0x04 ∷ 0x05 ∷ 0x06 ∷ 0x07 ∷ 0x08 ∷ [])))
    ∷ first (J.take normal)
    ∷ first (act (Verb.receive (zeros 64)))
    ∷ first (act Verb.request_to_send)
    ∷ first (J.take normal)
    ∷ first (act (Verb.receive (zeros 64)))
    ∷ []

abbrev pub talked : Pair
talked = run same_lane acts takes ends calls

-- ---- what happened, by computation

pub record Happened : Type 0 where
  pub given_out : bytes_accepted talked.one.log ≡ part1 ++ part2
  pub read_out : bytes_read talked.two.log ≡ part1 ++ part2
  pub given_back : bytes_accepted talked.two.log ≡ reply1 ++ (reply2 ++ (reply3 ++ reply4))
  -- back: one part is read; two bytes are in the inbox, a unit of eight on the line, six bytes in the send buffer
  pub read_back : bytes_read talked.one.log ≡ reply1
  pub inbox_back : bytes_in_inbox talked.one.end ≡ 0x00 ∷ 0x05 ∷ []
  pub line_back : bytes_on_line (talked.one.waiting normal) ≡ 0x30 ∷ 0x31 ∷ 0x32 ∷ 0x00 ∷ 0x02 ∷ 0xAB ∷ 0x01 ∷ 0x02 ∷ []
  pub held_back : bytes_in_send_buffer talked.two.end ≡ 0x03 ∷ 0x04 ∷ 0x05 ∷ 0x06 ∷ 0x07 ∷ 0x08 ∷ []
  -- at each end: the requests made, the credit left, the pacing answers taken
  pub counts_one : (requests_made talked.one.log ≡ 3) × (credit_of talked.one.end.end ≡ 1) × (pacing_responses_taken talked.one.log ≡ 1)
  pub counts_two : (requests_made talked.two.log ≡ 4) × (credit_of talked.two.end.end ≡ 0) × (pacing_responses_taken talked.two.log ≡ 1)
  -- the signal of each: the bidder's was told and answered, the first speaker's is on the line
  pub signals_one : (signals_made talked.one.log ≡ 1) × (signals_told talked.two.log ≡ 0) × (talked.two.waiting expedited ≡ a_signal ∷ [])
  pub signals_two : (signals_made talked.two.log ≡ 1) × (signals_told talked.one.log ≡ 1) × (talked.one.waiting expedited ≡ [])
  pub flags : (talked.one.end.end.expedited.unanswered ≡ true) × (talked.two.end.end.expedited.unanswered ≡ false)
  -- the bidder has the turn, the first speaker waits
  pub state_one : talked.one.end.end.control.state ≡ Receive
  pub state_two : talked.two.end.end.control.state ≡ Send

-- ---- what the claim asks, by computation

pub record Asked : Type 0 where
  pub openings : JoinedOpenings speaker bidder lent lent
  pub fed : AllFed same_lane acts takes ends calls
  pub fed_reordered : AllFed same_lane acts takes ends reordered

-- ---- what the claim says, in bytes and numbers

pub record Said : Type 0 where
  pub not_both : holds_send Receive ≡ true → holds_send Send ≡ true → ⊥
  pub no_breach_one : breaches talked.one.log ≡ 0
  pub no_breach_two : breaches talked.two.log ≡ 0
  -- read, in the inbox, on the line, in the send buffer
  pub bytes_out : part1 ++ part2 ≡ (part1 ++ part2) ++ ([] ++ ([] ++ []))
  pub bytes_back :
      reply1 ++ (reply2 ++ (reply3 ++ reply4))
      ≡ reply1
      ++ ((0x00 ∷ 0x05 ∷ [])
      ++ ((0x30 ∷ 0x31 ∷ 0x32 ∷ 0x00 ∷ 0x02 ∷ 0xAB ∷ 0x01 ∷ 0x02 ∷ [])
      ++ (0x03 ∷ 0x04 ∷ 0x05 ∷ 0x06 ∷ 0x07 ∷ 0x08 ∷ [])))
  -- one answer at each end, W 2: after three requests one credit is left, after four, the error header among them, none
  pub credit_one : 3 + 1 ≡ 2 * (1 + 1)
  pub credit_two : 4 + 0 ≡ 2 * (1 + 1)
  -- signals made = told + on the line; unanswered = on the line + the response on the line back
  pub signals_out : 1 ≡ 0 + 1
  pub signals_back : 1 ≡ 1 + 0
  pub unanswered_one : 1 ≡ 1 + 0
  pub unanswered_two : 0 ≡ 0 + 0
  -- the same outcome
  pub same : talked ≡ run same_lane acts takes ends reordered
  -- the records read are the first of those given
  pub to_come_out : List (List ℕ)
  pub records_out : part1 ∷ part2 ∷ [] ≡ (part1 ∷ part2 ∷ []) ++ to_come_out
  pub to_come_back : List (List ℕ)
  pub records_back : reply1 ∷ reply2 ∷ reply3 ∷ [] ≡ (reply1 ∷ []) ++ to_come_back
  -- so are the tables: out the one given has been read; back none yet, since the part read says that another follows
  pub tables_to_come_out : List (List (List ℕ))
  pub tables_out : (part1 ∷ part2 ∷ []) ∷ [] ≡ ((part1 ∷ part2 ∷ []) ∷ []) ++ tables_to_come_out
  pub tables_to_come_back : List (List (List ℕ))
  pub tables_back : (reply1 ∷ reply2 ∷ []) ∷ (reply3 ∷ []) ∷ [] ≡ [] ++ tables_to_come_back
  -- the places: the fourth record given is unfinished; the second is begun in the inbox, behind a part that says that another follows
  pub given_two : walk start (reply1 ++ (reply2 ++ (reply3 ++ reply4))) ≡ Ok (Remaining true 11000)
  pub read_one : walk start reply1 ≡ Ok (Between true)
  pub inbox_one : walk (Between true) (0x00 ∷ 0x05 ∷ []) ≡ Ok (Remaining false 3)
  pub whole_one : is_send Receive ≡ false → is_whole (Between false) ≡ true
  pub given_one : walk start (part1 ++ part2) ≡ Ok (Between false)
  pub read_two : walk start (part1 ++ part2) ≡ Ok (Between false)
  pub inbox_two : walk (Between false) [] ≡ Ok (Between false)
  pub whole_two : is_send Send ≡ false → is_whole (Remaining true 11000) ≡ true
  -- some bytes finish that fourth record and its table
  pub ends_two : CanEnd (Remaining true 11000)
  pub complete_one : CompleteIsRight talked.one.log
  pub complete_two : CompleteIsRight talked.two.log
  pub more_one : MoreIsRight talked.one.log
  pub more_two : MoreIsRight talked.two.log
  pub apart_one : NoneCrosses talked.one.log
  pub apart_two : NoneCrosses talked.two.log
  pub never_8_one : bad_reads talked.one.log ≡ 0
  pub never_8_two : bad_reads talked.two.log ≡ 0
  -- question 5
  pub good_one : record_good talked.one.end.end ≡ true
  pub good_two : record_good talked.two.end.end ≡ true
  pub never_5_one : refused_with 5 talked.one.log ≡ 0
  pub never_5_two : refused_with 5 talked.two.log ≡ 0

pub record OneConversation : Type 0 where
  pub happened : Happened
  pub asked : Asked
  pub said : Said
