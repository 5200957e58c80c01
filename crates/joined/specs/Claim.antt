-- Demand 3: what is claimed of two joined ends after every list of calls.
-- Assumes nothing.
use Rattle.std.specs.Prelude.{ℕ, ◌+◌, ◌*◌, ◌≡◌, true, false, List, [], ◌∷◌, ◌++◌, Ok}
use Rattle.logical_record.specs.Positions.{start, is_whole}
use Rattle.logical_record.specs.Walk.{walk}
use Rattle.logical_record.specs.Records.{whole_records, whole_tables}
use Rattle.control.specs.StateTests.{holds_send}
use Rattle.control.specs.Questions.{may_send}
use Rattle.answers.specs.Answers.{BAD_RECORD}
use Rattle.end.specs.Record.{record_good, credit_of}
use Rattle.session.specs.declared.Session.{Session}
use Rattle.joined.specs.Joined.{Call, act, take, At, first, second, Side, Both, firsts, seconds, run, AllFed}
use Rattle.joined.specs.Ends.{Lane, normal, same_lane, Buffers, OpeningAccepted, JoinedOpenings, opened_both, acts, takes}
use Rattle.joined.specs.Histories.{bytes_accepted, bytes_read, bytes_on_line, bytes_in_inbox, bytes_in_send_buffer, requests_made, pacing_responses_taken, breaches}
use Rattle.joined.specs.Histories.{refused_with, bad_reads, CompleteIsRight, MoreIsRight, NoneCrosses}
use Rattle.calls.specs.Calls.{Reply, Station, Verb}
use Rattle.calls.specs.Laws.{AllBytes, BytesOf}

abbrev pub Pair : Type 0
Pair = Both Lane Station Verb Reply (List ℕ)

abbrev pub JoinedEnd : Type 0
JoinedEnd = Side Lane Station Verb Reply (List ℕ)

-- the two ends as opened, after the list of calls
abbrev pub after : Session → Session → Buffers → Buffers → List (At Lane Verb) → Pair
after s t b c l = run same_lane acts takes (opened_both s t b c) l

-- One way, from x to y: the bytes accepted for sending are exactly the bytes read at the other end, then those held in its inbox, then the data RUs
-- on the normal lane, then those held in the sender's buffer.
abbrev pub BytesConserved : JoinedEnd → JoinedEnd → Type 0
BytesConserved x y =
    bytes_accepted x.log ≡ bytes_read y.log ++ (bytes_in_inbox y.end ++ (bytes_on_line (y.waiting normal) ++ bytes_in_send_buffer x.end))

-- requests made plus credit left = sending W × (1 + pacing answers taken)
abbrev pub CreditCounted : ℕ → JoinedEnd → Type 0
CreditCounted w x = requests_made x.log + credit_of x.end.end ≡ w * (1 + pacing_responses_taken x.log)

pub record Joint (s t : Session) (p : Pair) : Type 0 where
  -- never do both hold send state, Send or Defer
  pub not_both : holds_send p.one.end.end.control.state ≡ true → holds_send p.two.end.end.control.state ≡ true → ⊥
  -- no take was refused as a breach of protocol
  pub no_breach_one : breaches p.one.log ≡ 0
  pub no_breach_two : breaches p.two.log ≡ 0
  -- bytes are conserved in order, each way
  pub bytes_out : BytesConserved p.one p.two
  pub bytes_back : BytesConserved p.two p.one
  -- the credit count, at each end
  pub credit_one : CreditCounted s.outwindow p.one
  pub credit_two : CreditCounted t.outwindow p.two

-- Every other list that starts alike, with the same calls in the same order at each end, where neither list takes with nothing waiting: the same
-- records, every lent cell, lines and each end's answers in order.
abbrev pub SameOutcome : Pair → List (At Lane Verb) → Type 0
SameOutcome p l =
    (m : List (At Lane Verb))
    → firsts l ≡ firsts m
    → seconds l ≡ seconds m
    → AllFed same_lane acts takes p l
    → AllFed same_lane acts takes p m
    → run same_lane acts takes p l ≡ run same_lane acts takes p m

-- THE CLAIM: for every two accepted openings that are joined, and every list of calls
abbrev pub Claim : Type 0
Claim =
    (s t : Session) (b c : Buffers) (l : List (At Lane Verb))
    → JoinedOpenings s t b c
    → Joint s t (after s t b c l) × SameOutcome (opened_both s t b c) l

-- ---- the records

-- Cut the bytes accepted at x into logical records by LL: the whole records read at y are exactly the first of these, in order, byte for byte.
pub record RecordsArrive (x y : JoinedEnd) : Type 0 where
  pub still_to_come : List (List ℕ)
  pub first_are_read : whole_records (bytes_accepted x.log) ≡ whole_records (bytes_read y.log) ++ still_to_come

-- Join these records into tables, up to each that says that no other part follows: the whole tables read at y are exactly the first of these, in
-- order, each with its records.
pub record TablesArrive (x y : JoinedEnd) : Type 0 where
  pub still_to_come : List (List (List ℕ))
  pub first_are_read : whole_tables (bytes_accepted x.log) ≡ whole_tables (bytes_read y.log) ++ still_to_come

-- What reads hand out is cut exactly at record ends; and the places that the end keeps are those of the bytes given and read.
pub record ReadsRight (x : JoinedEnd) : Type 0 where
  -- the bytes accepted so far walk to the given place
  pub given : walk start (bytes_accepted x.log) ≡ Ok x.end.end.sending.given
  -- the bytes read so far walk to the read place, and the inbox walks from there to the taken place
  pub read : walk start (bytes_read x.log) ≡ Ok x.end.end.receiving.read
  pub inbox : walk x.end.end.receiving.read (bytes_in_inbox x.end) ≡ Ok x.end.end.receiving.taken
  -- 'complete' is said exactly when the bytes read so far are whole records
  pub complete : CompleteIsRight x.log
  -- 'more' beside it exactly when the record completed says that another part follows
  pub more : MoreIsRight x.log
  -- no read crosses a record's end
  pub apart : NoneCrosses x.log
  -- no read is refused with 8
  pub never_8 : bad_reads x.log ≡ 0
  -- outside Send, in Defer too, and while an error is due, nothing given is unfinished, neither a record nor a table
  pub whole : may_send x.end.end.control ≡ false → is_whole x.end.end.sending.given ≡ true

pub record Records (p : Pair) : Type 0 where
  pub out : RecordsArrive p.one p.two
  pub back : RecordsArrive p.two p.one
  pub tables_out : TablesArrive p.one p.two
  pub tables_back : TablesArrive p.two p.one
  pub one : ReadsRight p.one
  pub two : ReadsRight p.two

-- THE RECORDS: wherever units, sends and reads cut them and whichever end began
abbrev pub TheRecords : Type 0
TheRecords =
    (s t : Session) (b c : Buffers) (l : List (At Lane Verb))
    → JoinedOpenings s t b c
    → Records (after s t b c l)

-- ---- question 5

-- the cells lent at opening are bytes
pub record LentBytes (b : Buffers) : Type 0 where
  pub send : AllBytes b.send
  pub inbox : AllBytes b.inbox

-- the bytes that the calls of a list give are bytes
abbrev pub BytesIn : Call Lane Verb → Type 0
BytesIn (act v) = BytesOf v
BytesIn (take l) = Unit {0}

abbrev pub BytesAt : At Lane Verb → Type 0
BytesAt (first c) = BytesIn c
BytesAt (second c) = BytesIn c

abbrev pub BytesOfAll : List (At Lane Verb) → Type 0
BytesOfAll [] = Unit {0}
BytesOfAll (c ∷ l) = BytesAt c × BytesOfAll l

-- both records are within the section 'The end's record', and no call was refused with 5
pub record BothGood (p : Pair) : Type 0 where
  pub one : record_good p.one.end.end ≡ true
  pub two : record_good p.two.end.end ≡ true
  pub never_5_one : refused_with BAD_RECORD p.one.log ≡ 0
  pub never_5_two : refused_with BAD_RECORD p.two.log ≡ 0

-- THE RECORD IS NEVER REFUSED: after every list of calls from two accepted openings, joined or not
abbrev pub AlwaysGood : Type 0
AlwaysGood =
    (s t : Session) (b c : Buffers) (l : List (At Lane Verb))
    → OpeningAccepted s b
    → OpeningAccepted t c
    → LentBytes b
    → LentBytes c
    → BytesOfAll l
    → BothGood (after s t b c l)
