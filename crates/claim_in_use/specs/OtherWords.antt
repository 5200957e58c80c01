-- The claim about two joined ends once more, in other words: from the numbers of two sessions, by what the calls answered, oldest first. It cites of crate
-- joined only the ends and how a list of calls runs on them; so that a claim that is thinned, or that asks more of the openings, no longer proves it.
-- Assumes nothing.
use Rattle.std.specs.Prelude.{ℕ, ◌+◌, ◌-◌, ◌*◌, ◌≤◌, ◌<◌, ◌≡◌, true, false, not, cond, ◌&&◌, List, [], ◌∷◌, ◌++◌, eqb, leb, length, take, drop, get_or, Ok}
use Rattle.header.specs.Weights.{on}
use Rattle.logical_record.specs.Positions.{start, is_whole}
use Rattle.logical_record.specs.Walk.{walk}
use Rattle.logical_record.specs.Records.{whole_records, ended, last_bit, whole_tables}
use Rattle.logical_record.specs.RecordClaims.{CanEnd}
use Rattle.pacing.specs.declared.Window.{Window}
use Rattle.control.specs.declared.State.{State}
use Rattle.control.specs.declared.State.TheVariants.{Send, Receive, DeferTurn, DeferEnd}
use Rattle.control.specs.declared.WhatReceived.TheVariants as mark
use Rattle.end.specs.Record.{record_good}
use Rattle.session.specs.declared.Session.{Session}
use Rattle.joined.specs.Lanes.{Lines}
use Rattle.joined.specs.Joined as J
use Rattle.joined.specs.Joined.{Call, At, first, second, Event, acted, took, Side, Both, run}
use Rattle.joined.specs.Ends.{Lane, normal, expedited, same_lane, Buffers, acts, takes, opened_both}
use Rattle.calls.specs.Calls.{Reply, Station, Verb}

-- ---- two sessions that are joined, by their numbers

-- windows and maximum RUs from the first speaker to the bidder, and back
pub record Numbers : Type 0 where
  pub window_out : ℕ
  pub max_out : ℕ
  pub window_back : ℕ
  pub max_back : ℕ

abbrev pub speaker : Numbers → Session
speaker n = record { role = 0; outwindow = n.window_out; inwindow = n.window_back; outmax = n.max_out; inmax = n.max_back }

abbrev pub bidder : Numbers → Session
bidder n = record { role = 1; outwindow = n.window_back; inwindow = n.window_out; outmax = n.max_back; inmax = n.max_out }

-- a window is 1 to 63, a maximum RU 8 to 1,024
abbrev pub WindowIs : ℕ → Type 0
WindowIs w = (1 ≤ w) × (w ≤ 63)

abbrev pub MaximumIs : ℕ → Type 0
MaximumIs m = (8 ≤ m) × (m ≤ 1024)

-- One session in range: the role is 0 or 1; the send buffer holds M bytes and the unit buffer 5 more; the inbox holds all that may come before a pacing
-- answer.
pub record Opens (s : Session) (b : Buffers) : Type 0 where
  pub role : s.role ≤ 1
  pub window_out : WindowIs s.outwindow
  pub window_in : WindowIs s.inwindow
  pub max_out : MaximumIs s.outmax
  pub max_in : MaximumIs s.inmax
  pub send : s.outmax ≤ length b.send
  pub unit : s.outmax + 5 ≤ length b.unit
  pub inbox : s.inwindow * s.inmax ≤ length b.inbox
  pub least : length b.inbox ≤ 65535

pub record InRange (n : Numbers) (b c : Buffers) : Type 0 where
  pub one : Opens (speaker n) b
  pub two : Opens (bidder n) c

-- ---- what an end's program saw

abbrev pub Seen : Type 0
Seen = Event Lane Verb Reply (List ℕ)

-- oldest first
abbrev pub story : List Seen → List Seen
story [] = []
story (e ∷ es) = story es ++ (e ∷ [])

-- what each item leads to, joined
abbrev pub each : {A B : Type 0} → (A → List B) → List A → List B
each f [] = []
each f (x ∷ xs) = f x ++ each f xs

-- it holds of each item
abbrev pub All : {A : Type 0} → (A → Type 0) → List A → Type 0
All P [] = Unit {0}
All P (x ∷ xs) = P x × All P xs

abbrev pub number_of : Reply → ℕ
number_of r = r.answer.answer.refusal

-- the bytes of a send data
abbrev pub bytes_of : Verb → List ℕ
bytes_of Verb.allocate = []
bytes_of Verb.confirmed = []
bytes_of Verb.send_error = []
bytes_of Verb.send_pacing_response = []
bytes_of Verb.request_to_send = []
bytes_of Verb.withdraw = []
bytes_of (Verb.send_data bytes) = bytes
bytes_of (Verb.close f b) = []
bytes_of (Verb.defer d) = []
bytes_of (Verb.receive buffer) = []

-- the bytes that an accepted call gave
abbrev pub gave : Seen → List ℕ
gave (acted v r us) = cond (eqb (number_of r) 0) (bytes_of v) []
gave (took l u r us) = []

-- the bytes that a call copied for its program
abbrev pub copied : Seen → List ℕ
copied (acted v r us) = take r.answer.copied r.buffer
copied (took l u r us) = []

-- the units that a call made on the normal lane
abbrev pub made : Seen → List (List ℕ)
made (acted v r us) = us normal
made (took l u r us) = us normal

abbrev pub answer : Seen → List Reply
answer (acted v r us) = r ∷ []
answer (took l u r us) = r ∷ []

-- the answer of a take
abbrev pub take_answer : Seen → List Reply
take_answer (acted v r us) = []
take_answer (took l u r us) = r ∷ []

-- the answer of a read
abbrev pub of_read : Verb → Reply → List Reply
of_read Verb.allocate r = []
of_read Verb.confirmed r = []
of_read Verb.send_error r = []
of_read Verb.send_pacing_response r = []
of_read Verb.request_to_send r = []
of_read Verb.withdraw r = []
of_read (Verb.send_data bytes) r = []
of_read (Verb.close f b) r = []
of_read (Verb.defer d) r = []
of_read (Verb.receive buffer) r = r ∷ []

abbrev pub read_answer : Seen → List Reply
read_answer (acted v r us) = of_read v r
read_answer (took l u r us) = []

-- a request has no weight 80 in header byte 0, which is the unit's third
abbrev pub request : List ℕ → List (List ℕ)
request u = cond (not (on 0x80 (get_or u 2 0))) (u ∷ []) []

-- a unit that was taken on the normal lane, if its header is 83 01 00
abbrev pub pacing_answer : Seen → List (List ℕ)
pacing_answer (acted v r us) = []
pacing_answer (took expedited u r us) = []
pacing_answer (took normal u r us) =
    cond (eqb (number_of r) 0 && (eqb (get_or u 2 0) 0x83 && (eqb (get_or u 3 0) 0x01 && eqb (get_or u 4 0) 0x00))) (u ∷ []) []

-- the RU of a data unit, whose header begins with 00, 01, 02 or 03
abbrev pub data_bytes : List ℕ → List ℕ
data_bytes u = cond (leb (get_or u 2 0) 3) (drop 5 u) []

-- credit: W if the flag is off, plus W less the place if the place is not 0
abbrev pub credit_left : Window → ℕ
credit_left w = cond w.pending 0 w.size + cond (eqb w.position 0) 0 (w.size - w.position)

-- ---- the claim

abbrev pub Ends : Type 0
Ends = Both Lane Station Verb Reply (List ℕ)

abbrev pub OneEnd : Type 0
OneEnd = Side Lane Station Verb Reply (List ℕ)

-- what the program gave at x
abbrev pub given : OneEnd → List ℕ
given x = each gave (story x.log)

-- what the program has read at x
abbrev pub has_read : OneEnd → List ℕ
has_read x = each copied (story x.log)

-- of one end: takes, credit and reads
pub record AtOneEnd (w : ℕ) (x : OneEnd) : Type 0 where
  -- no take was answered with a number from 20 to 29
  pub no_breach : All (λ r. 20 ≤ number_of r → number_of r ≤ 29 → ⊥) (each take_answer (story x.log))
  -- each request made has cost one, and each pacing answer given W
  pub credit :
      length (each request (each made (story x.log))) + credit_left x.end.end.sending.window
      ≡ w * (1 + length (each pacing_answer (story x.log)))
  -- what was given and not finished is what the end keeps; there is none outside Send, and none where a turn or an end is prepared
  pub unfinished : walk start (given x) ≡ Ok x.end.end.sending.given
  pub finished : (x.end.end.control.state ≡ Send → ⊥) → is_whole x.end.end.sending.given ≡ true
  -- and none where an error header is due
  pub finished_first : x.end.end.control.error ≡ true → is_whole x.end.end.sending.given ≡ true
  -- whatever was given, some bytes finish it
  pub can_finish : CanEnd x.end.end.sending.given
  -- what was read ends at the place read, and what the inbox holds goes on from there to the place taken
  pub read_so_far : walk start (has_read x) ≡ Ok x.end.end.receiving.read
  pub in_inbox : walk x.end.end.receiving.read (take x.end.end.receiving.held x.end.inbox) ≡ Ok x.end.end.receiving.taken
  -- no read was answered with 8
  pub no_bad_record : All (λ r. number_of r ≡ 8 → ⊥) (each read_answer (story x.log))
  -- a call said complete exactly if it copied bytes and the bytes read until then end a record; and fewer of its bytes would not have ended one
  pub cut : (later earlier : List Seen) (v : Verb) (r : Reply) (us : Lines Lane (List ℕ)) → x.log ≡ later ++ (acted v r us ∷ earlier)
      → (r.answer.complete ≡ true → ended (walk start (each copied (story (acted v r us ∷ earlier)))) ≡ true)
      × (0 < r.answer.copied → ended (walk start (each copied (story (acted v r us ∷ earlier)))) ≡ true → r.answer.complete ≡ true)
      × ((n : ℕ) → 0 < n → n < r.answer.copied → ended (walk start (each copied (story earlier) ++ take n r.buffer)) ≡ false)
  -- and more exactly if it said complete and the last record read until then says that another part follows
  pub parts : (later earlier : List Seen) (v : Verb) (r : Reply) (us : Lines Lane (List ℕ)) → x.log ≡ later ++ (acted v r us ∷ earlier)
      → r.answer.more ≡ (r.answer.complete && last_bit (whole_records (each copied (story (acted v r us ∷ earlier)))))
  -- no take said complete, nor more
  pub takes_none : All (λ r. r.answer.complete ≡ false) (each take_answer (story x.log))
  pub takes_no_more : All (λ r. r.answer.more ≡ false) (each take_answer (story x.log))

-- of one direction, from x to y: bytes, records and tables
pub record OneWay (x y : OneEnd) : Type 0 where
  pub bytes :
      given x
      ≡ has_read y
      ++ (take y.end.end.receiving.held y.end.inbox
      ++ (each data_bytes (y.waiting normal) ++ take x.end.end.sending.held x.end.send))
  -- the records read are the first of those given
  pub to_come : List (List ℕ)
  pub records : whole_records (given x) ≡ whole_records (has_read y) ++ to_come
  -- and the tables
  pub tables_to_come : List (List (List ℕ))
  pub tables : whole_tables (given x) ≡ whole_tables (has_read y) ++ tables_to_come

-- an end that may send, or has a turn or an end prepared
pub data HasTurn : State → Type 0 where
  sends : HasTurn Send
  prepared_turn : HasTurn DeferTurn
  prepared_end : HasTurn DeferEnd

pub record Agree (n : Numbers) (p : Ends) : Type 0 where
  pub one_sends : HasTurn p.one.end.end.control.state → HasTurn p.two.end.end.control.state → ⊥
  pub at_one : AtOneEnd n.window_out p.one
  pub at_two : AtOneEnd n.window_back p.two
  pub out : OneWay p.one p.two
  pub back : OneWay p.two p.one

-- ---- orders

-- the list is made of the calls xs at the first end and ys at the second, in some order between them
pub data Interleaves : List (Call Lane Verb) → List (Call Lane Verb) → List (At Lane Verb) → Type 0 where
  none : Interleaves [] [] []
  at_first : {c : Call Lane Verb} {xs ys : List (Call Lane Verb)} {l : List (At Lane Verb)} → Interleaves xs ys l → Interleaves (c ∷ xs) ys (first c ∷ l)
  at_second : {c : Call Lane Verb} {xs ys : List (Call Lane Verb)} {l : List (At Lane Verb)} → Interleaves xs ys l → Interleaves xs (c ∷ ys) (second c ∷ l)

abbrev pub after : Numbers → Buffers → Buffers → List (At Lane Verb) → Ends
after n b c l = run same_lane acts takes (opened_both (speaker n) (bidder n) b c) l

-- wherever the list takes, a unit waits on that lane
pub record TakesFind (p : Ends) (l : List (At Lane Verb)) : Type 0 where
  pub one : (k : Lane) (before behind : List (At Lane Verb)) → l ≡ before ++ (first (J.take k) ∷ behind)
      → (run same_lane acts takes p before).one.waiting k ≡ [] → ⊥
  pub two : (k : Lane) (before behind : List (At Lane Verb)) → l ≡ before ++ (second (J.take k) ∷ behind)
      → (run same_lane acts takes p before).two.waiting k ≡ [] → ⊥

-- records, every lent cell, lines and answers in order
pub record SameEnd (x y : OneEnd) : Type 0 where
  pub end : x.end ≡ y.end
  pub waiting : x.waiting ≡ y.waiting
  pub answers : each answer (story x.log) ≡ each answer (story y.log)

-- ---- question 5

abbrev pub AreBytes : List ℕ → Type 0
AreBytes bs = All (λ b. b < 256) bs

-- the bytes that a call of a list gives
abbrev pub offered : At Lane Verb → List ℕ
offered (first (J.act v)) = bytes_of v
offered (first (J.take k)) = []
offered (second (J.act v)) = bytes_of v
offered (second (J.take k)) = []

-- the record keeps its rules, and no call and no take was answered with 5
pub record KeepsRules (x : OneEnd) : Type 0 where
  pub record_good_lem : record_good x.end.end ≡ true
  pub never_5 : All (λ r. number_of r ≡ 5 → ⊥) (each answer (story x.log))

-- ---- no confirmation, and its cause

-- a unit that was taken on the normal lane
abbrev pub took_unit : Seen → List (List ℕ)
took_unit (acted v r us) = []
took_unit (took expedited u r us) = []
took_unit (took normal u r us) = cond (eqb (number_of r) 0) (u ∷ []) []

-- it refuses a confirmation: its header is 87 30 00
abbrev pub Denies : List ℕ → Type 0
Denies u = (get_or u 2 0 ≡ 0x87) × (get_or u 3 0 ≡ 0x30) × (get_or u 4 0 ≡ 0x00)

-- it is the error header, whole
abbrev pub IsCause : List ℕ → Type 0
IsCause u = (get_or u 2 0 ≡ 0x0B) × (drop 5 u ≡ 0x07 ∷ 0x07 ∷ 0x08 ∷ 0x89 ∷ 0x00 ∷ 0x00 ∷ 0x00 ∷ [])

-- among these units the first request behind each that refuses a confirmation is the error header
abbrev pub CauseNext : List (List ℕ) → Type 0
CauseNext us =
    (before between behind : List (List ℕ)) (n r : List ℕ) → us ≡ before ++ (n ∷ (between ++ (r ∷ behind)))
    → Denies n → each request between ≡ [] → on 0x80 (get_or r 2 0) ≡ false → IsCause r

-- One way, from x to y: among all units that x made; among those that y took; and while it is still to come there, y receives and has no mark.
pub record Causes (x y : OneEnd) : Type 0 where
  pub made_so : CauseNext (each made (story x.log))
  pub taken_so : CauseNext (each took_unit (story y.log))
  pub waits_for_it : (before between : List (List ℕ)) (n : List ℕ) → each took_unit (story y.log) ≡ before ++ (n ∷ between)
      → Denies n → each request between ≡ [] → (y.end.end.control.state ≡ Receive) × (y.end.end.control.mark ≡ mark.Nothing)
  -- what x has made is what y has taken and what is on the line
  pub each_once : each made (story x.log) ≡ each took_unit (story y.log) ++ y.waiting normal

-- ---- signals

-- the units that a call made on the expedited lane
abbrev pub made_expedited : Seen → List (List ℕ)
made_expedited (acted v r us) = us expedited
made_expedited (took l u r us) = us expedited

-- a signal, whose header is 4B 80 00, and the response to one, CB 80 00
abbrev pub signal : List ℕ → List (List ℕ)
signal u = cond (eqb (get_or u 2 0) 0x4B && (eqb (get_or u 3 0) 0x80 && eqb (get_or u 4 0) 0x00)) (u ∷ []) []

abbrev pub response : List ℕ → List (List ℕ)
response u = cond (eqb (get_or u 2 0) 0xCB && (eqb (get_or u 3 0) 0x80 && eqb (get_or u 4 0) 0x00)) (u ∷ []) []

-- an answer that told the program of a signal
abbrev pub told : Seen → List Reply
told (acted v r us) = cond r.signalled (r ∷ []) []
told (took l u r us) = cond r.signalled (r ∷ []) []

-- One way, of the signals of x: each was told at y, or is on the line; and x waits for an answer while its signal or the response to it is on a line.
pub record SignalsTold (x y : OneEnd) : Type 0 where
  pub each_told :
      length (each signal (each made_expedited (story x.log))) ≡ length (each told (story y.log)) + length (each signal (y.waiting expedited))
  pub waits_for_answer : x.end.end.expedited.unanswered ≡ true
      → length (each signal (y.waiting expedited)) + length (each response (x.waiting expedited)) ≡ 1
  pub has_answer : x.end.end.expedited.unanswered ≡ false
      → (each signal (y.waiting expedited) ≡ []) × (each response (x.waiting expedited) ≡ [])

-- ---- the whole, of every two sessions, buffers and lists

pub record InOtherWords : Type 0 where
  pub agree : (n : Numbers) (b c : Buffers) → InRange n b c → (l : List (At Lane Verb)) → Agree n (after n b c l)
  pub same : (n : Numbers) (b c : Buffers) → InRange n b c → (xs ys : List (Call Lane Verb)) (l m : List (At Lane Verb))
      → Interleaves xs ys l
      → Interleaves xs ys m
      → TakesFind (opened_both (speaker n) (bidder n) b c) l
      → TakesFind (opened_both (speaker n) (bidder n) b c) m
      → SameEnd (after n b c l).one (after n b c m).one × SameEnd (after n b c l).two (after n b c m).two
  -- of sessions that are joined or not, if all that is lent to the ends and given at them are bytes
  pub rules : (s t : Session) (b c : Buffers) → Opens s b → Opens t c → (l : List (At Lane Verb))
      → AreBytes (b.send ++ (b.inbox ++ (c.send ++ (c.inbox ++ each offered l))))
      → (let p = run same_lane acts takes (opened_both s t b c) l in KeepsRules p.one × KeepsRules p.two)
  -- of these too: who refuses a confirmation says why, and next
  pub causes : (s t : Session) (b c : Buffers) → Opens s b → Opens t c → (l : List (At Lane Verb))
      → (let p = run same_lane acts takes (opened_both s t b c) l in Causes p.one p.two × Causes p.two p.one)
  -- and each signal is told once
  pub signals : (s t : Session) (b c : Buffers) → Opens s b → Opens t c → (l : List (At Lane Verb))
      → (let p = run same_lane acts takes (opened_both s t b c) l in SignalsTold p.one p.two × SignalsTold p.two p.one)
