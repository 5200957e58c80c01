-- A table sent as several logical records (document 02, S-2): the top bit of LL says that another part follows, and the other 15 bits are the length.
-- W 3 and M 64 unless said.
-- Assumes nothing.
use Rattle.std.specs.Prelude.{ℕ, ◌+◌, ◌≡◌, Bool, true, false, not, cond, List, [], ◌∷◌, ◌++◌, eqb, length, take}
use Rattle.logical_record.specs.Positions.{remaining}
use Rattle.logical_record.specs.Records.{whole_records, whole_tables}
use Rattle.logical_record.specs.declared.Position.TheVariants.{Between, AfterFirst}
use Rattle.control.specs.declared.State.TheVariants.{Send, Receive}
use Rattle.control.specs.declared.WhatReceived.TheVariants as mark
use Rattle.answers.specs.Answers.{read_accepted}
use Rattle.calls.specs.Calls as J
use Rattle.calls.specs.Calls.{Reply, Station, Verb, plain, refusal_in}
use Rattle.calls.specs.UnitCounts.{count}
use Rattle.joined.specs.Joined as L
use Rattle.joined.specs.Joined.{At, first, second, act, acted, took, Both}
use Rattle.joined.specs.Ends.{Lane, normal, acts, on_normal}
use Rattle.joined.specs.Histories as H
use Rattle.joined.specs.Histories.{Log}
use Rattle.worked_examples.specs.Stations.{zeros, bidder, after, makes, refuses, after_taking, joined, runs, sending, receiving}
use Rattle.worked_examples.specs.Table.{copied}
use Rattle.worked_examples.specs.Breaches.{Refused, Accepted}
use Rattle.worked_examples.specs.Conversations.{state_of}

-- a call at s is refused with this number: the record and every lent cell are as before, and no unit is made
abbrev pub RefusedCall : Station → Verb → ℕ → Type 0
RefusedCall s v number =
    acts s v ≡ record { end = s; answer = plain (record { refusal = number; sense = 0; rule = 0; unit = 0 }); sent = on_normal [] }

-- a read into n cells at s copies these bytes, and says whether a record is complete and whether more parts follow
pub record Reads (s : Station) (n : ℕ) (bs : List ℕ) (complete more : Bool) : Type 0 where
  pub copies : copied s (Verb.receive (zeros n)) ≡ bs
  pub answers : (acts s (Verb.receive (zeros n))).answer.answer ≡ read_accepted (length bs) complete more mark.Nothing

-- ---- LL with the top bit, given

-- a first speaker in Send after this call
abbrev pub given : Verb → Station
given v = after sending (v ∷ [])

-- two bytes given: an LL, high byte first
abbrev pub giving : ℕ → ℕ → Verb
giving high low = Verb.send_data (high ∷ low ∷ [])

pub record Lengths : Type 0 where
  -- 80 02 is good, a length of 2
  pub part_2 : refuses sending (giving 0x80 0x02) ≡ 0
  -- the part is complete at once, and another follows
  pub part_2_place : (given (giving 0x80 0x02)).end.sending.given ≡ Between true
  -- 80 01 is a length of 1, which is bad
  pub part_1 : RefusedCall sending (giving 0x80 0x01) 8
  -- 80 00 is a length of 0
  pub part_0 : RefusedCall sending (giving 0x80 0x00) 8
  -- 80 alone is no LL yet
  pub first_byte_lem : (given (Verb.send_data (0x80 ∷ []))).end.sending.given ≡ AfterFirst 0x80
  -- with 01 behind it LL is bad
  pub then_1 : RefusedCall (given (Verb.send_data (0x80 ∷ []))) (Verb.send_data (0x01 ∷ [])) 8
  -- with 02 it is good
  pub then_2 : refuses (given (Verb.send_data (0x80 ∷ []))) (Verb.send_data (0x02 ∷ [])) ≡ 0
  -- FF FF is good, a length of 32,767
  pub part_32767 : refuses sending (giving 0xFF 0xFF) ≡ 0
  -- 32,765 bytes are left of the part, and another follows
  pub part_32767_place : (given (giving 0xFF 0xFF)).end.sending.given ≡ remaining 32765 true

-- ---- one part alone

-- 80 02 is given; and flushed
abbrev pub part_given : Station
part_given = given (giving 0x80 0x02)

abbrev pub part_sent : Station
part_sent = after part_given (J.flush ∷ [])

abbrev pub part_unit : List ℕ
part_unit = 0x00 ∷ 0x01 ∷ 0x03 ∷ 0x91 ∷ 0x80 ∷ 0x80 ∷ 0x02 ∷ []

-- 00 02, a last part, is given too
abbrev pub last_given : Station
last_given = after part_given (giving 0x00 0x02 ∷ [])

pub record PartAlone : Type 0 where
  -- it goes out alone
  pub flushed : makes part_given J.flush ≡ part_unit ∷ []
  -- it is taken
  pub taken : Accepted (bidder 3 64) part_unit
  -- its read says complete, and more
  pub read : Reads (after_taking (bidder 3 64) (part_unit ∷ [])) 64 (0x80 ∷ 0x02 ∷ []) true true
  -- "A turn, end or confirm after a part with the bit on is refused with 9", held
  -- a turn, without confirmation and with it
  pub turn : RefusedCall part_given (J.prepare_to_receive false) 9
  pub turn_confirm : RefusedCall part_given (J.prepare_to_receive true) 9
  -- an end, without and with
  pub end : RefusedCall part_given (J.deallocate false) 9
  pub end_confirm : RefusedCall part_given (J.deallocate true) 9
  -- a confirm
  pub confirm : RefusedCall part_given J.confirm 9
  -- or sent: a turn, an end and a confirm with nothing held
  pub turn_sent : RefusedCall part_sent (J.prepare_to_receive false) 9
  pub end_sent : RefusedCall part_sent (J.deallocate false) 9
  pub confirm_sent : RefusedCall part_sent J.confirm 9
  -- with a last part behind it the three are accepted, and the unit has both parts: CD
  pub turn_whole : makes last_given (J.prepare_to_receive false) ≡ (0x00 ∷ 0x01 ∷ 0x03 ∷ 0x91 ∷ 0xA0 ∷ 0x80 ∷ 0x02 ∷ 0x00 ∷ 0x02 ∷ []) ∷ []
  -- CEB
  pub end_whole : makes last_given (J.deallocate false) ≡ (0x00 ∷ 0x01 ∷ 0x03 ∷ 0x91 ∷ 0x81 ∷ 0x80 ∷ 0x02 ∷ 0x00 ∷ 0x02 ∷ []) ∷ []
  -- a confirmation requested
  pub confirm_whole : makes last_given J.confirm ≡ (0x00 ∷ 0x01 ∷ 0x03 ∷ 0x21 ∷ 0x80 ∷ 0x80 ∷ 0x02 ∷ 0x00 ∷ 0x02 ∷ []) ∷ []

-- ---- forged units, at a bidder that takes number 2 next

-- a unit with header 03 b1 b2, which leaves a mark: with the RU 80 02 it is refused with 29, with 00 02 it is accepted
pub record MarkAsksWhole (b1 b2 : ℕ) : Type 0 where
  pub part : Refused receiving (0x00 ∷ 0x02 ∷ 0x03 ∷ b1 ∷ b2 ∷ 0x80 ∷ 0x02 ∷ []) 29 0
  pub last : Accepted receiving (0x00 ∷ 0x02 ∷ 0x03 ∷ b1 ∷ b2 ∷ 0x00 ∷ 0x02 ∷ [])

-- 80 02 has been taken, without a mark
abbrev pub part_taken : Station
part_taken = after_taking receiving ((0x00 ∷ 0x02 ∷ 0x03 ∷ 0x90 ∷ 0x00 ∷ 0x80 ∷ 0x02 ∷ []) ∷ [])

pub record Forged : Type 0 where
  -- CD
  pub turn : MarkAsksWhole 0x90 0x20
  -- CEB
  pub end : MarkAsksWhole 0x90 0x01
  -- a confirmation requested
  pub confirm : MarkAsksWhole 0x20 0x00
  -- and CD
  pub confirm_turn_lem : MarkAsksWhole 0x20 0x20
  -- and CEB
  pub confirm_end : MarkAsksWhole 0x20 0x01
  -- without a mark 80 02 is taken
  pub no_mark : Accepted receiving (0x00 ∷ 0x02 ∷ 0x03 ∷ 0x90 ∷ 0x00 ∷ 0x80 ∷ 0x02 ∷ [])
  -- CD in the next unit, which has no byte
  pub empty_turn : Refused part_taken (0x00 ∷ 0x03 ∷ 0x03 ∷ 0x90 ∷ 0x20 ∷ []) 29 0
  -- CD in the next unit, which has the last part
  pub last_turn : Accepted part_taken (0x00 ∷ 0x03 ∷ 0x03 ∷ 0x90 ∷ 0x20 ∷ 0x00 ∷ 0x02 ∷ [])
  -- without a mark 80 01 is a bad LL
  pub part_1 : Refused receiving (0x00 ∷ 0x02 ∷ 0x03 ∷ 0x90 ∷ 0x00 ∷ 0x80 ∷ 0x01 ∷ []) 29 0
  -- and 80 00
  pub part_0 : Refused receiving (0x00 ∷ 0x02 ∷ 0x03 ∷ 0x90 ∷ 0x00 ∷ 0x80 ∷ 0x00 ∷ []) 29 0

-- ---- a table of three parts, M 8

abbrev pub part1 : List ℕ
part1 = 0x80 ∷ 0x05 ∷ 0x41 ∷ 0x42 ∷ 0x43 ∷ []

abbrev pub part2 : List ℕ
part2 = 0x80 ∷ 0x02 ∷ []

abbrev pub part3 : List ℕ
part3 = 0x00 ∷ 0x04 ∷ 0x44 ∷ 0x45 ∷ []

-- what a read copied, and what it said of it
pub record Piece : Type 0 where
  pub bytes : List ℕ
  pub complete : Bool
  pub more : Bool

abbrev pub piece : List ℕ → Bool → Bool → Piece
piece bs complete more = record { bytes = bs; complete = complete; more = more }

-- no piece where nothing was copied
abbrev pub piece_of : Reply → List Piece
piece_of r =
    cond (eqb r.answer.copied 0) [] (piece (take r.answer.copied r.buffer) r.answer.complete r.answer.more ∷ [])

-- what was read at an end, in order; and the units that were taken there
abbrev pub pieces : Log → List Piece
pieces [] = []
pieces (acted v r us ∷ es) = pieces es ++ piece_of r
pieces (took l u r us ∷ es) = pieces es

abbrev pub units_taken : Log → List (List ℕ)
units_taken [] = []
units_taken (acted v r us ∷ es) = units_taken es
units_taken (took l u r us ∷ es) = units_taken es ++ (u ∷ [])

-- the calls: the first speaker gives, flushes and turns; the bidder takes and reads
abbrev pub allocates : At Lane Verb
allocates = first (act Verb.allocate)

abbrev pub gives : List ℕ → At Lane Verb
gives bs = first (act (Verb.send_data bs))

abbrev pub flushes : At Lane Verb
flushes = first (act J.flush)

abbrev pub turns : At Lane Verb
turns = first (act (J.prepare_to_receive false))

abbrev pub takes : At Lane Verb
takes = second (L.take normal)

abbrev pub reads : ℕ → At Lane Verb
reads n = second (act (Verb.receive (zeros n)))

-- the calls and takes that were refused
abbrev pub refusals : Log → ℕ
refusals [] = 0
refusals (acted v r us ∷ es) = count (not (eqb (refusal_in r) 0)) + refusals es
refusals (took l u r us ∷ es) = count (not (eqb (refusal_in r) 0)) + refusals es

-- no call was refused, the whole tables read are the one table given, and the turn has been read
pub record TableRead (s : Both Lane Station Verb Reply (List ℕ)) : Type 0 where
  pub none_refused : (refusals s.one.log ≡ 0) × (refusals s.two.log ≡ 0)
  pub tables_given : whole_tables (H.bytes_accepted s.one.log) ≡ (part1 ∷ part2 ∷ part3 ∷ []) ∷ []
  pub tables_read : whole_tables (H.bytes_read s.two.log) ≡ (part1 ∷ part2 ∷ part3 ∷ []) ∷ []
  pub turned : (state_of s.one ≡ Receive) × (state_of s.two ≡ Send)

-- each part is given whole; the unit of 8 bytes is full between the two LL bytes of the third
abbrev pub by_maximum : List (At Lane Verb)
by_maximum =
    allocates
    ∷ gives part1
    ∷ gives part2
    ∷ gives part3
    ∷ turns
    ∷ takes
    ∷ reads 8
    ∷ reads 8
    ∷ reads 8
    ∷ takes
    ∷ reads 8
    ∷ reads 8
    ∷ []

pub record CutByMaximum : Type 0 where
  -- first in its chain and not last; then last, with CD
  pub units :
      units_taken (runs (joined 3 8) by_maximum).two.log
      ≡ (0x00 ∷ 0x01 ∷ 0x02 ∷ 0x91 ∷ 0x80 ∷ 0x80 ∷ 0x05 ∷ 0x41 ∷ 0x42 ∷ 0x43 ∷ 0x80 ∷ 0x02 ∷ 0x00 ∷ [])
      ∷ (0x00 ∷ 0x02 ∷ 0x01 ∷ 0x90 ∷ 0x20 ∷ 0x04 ∷ 0x44 ∷ 0x45 ∷ [])
      ∷ []
  -- two parts with more to follow; one LL byte; the rest of the last part
  pub pieces_read :
      pieces (runs (joined 3 8) by_maximum).two.log
      ≡ piece part1 true true
      ∷ piece part2 true true
      ∷ piece (0x00 ∷ []) false false
      ∷ piece (0x04 ∷ 0x44 ∷ 0x45 ∷ []) true false
      ∷ []
  pub table_read : TableRead (runs (joined 3 8) by_maximum)

-- W 5: the same bytes flushed between the two LL bytes of each part, and within the first; read as they come, in pieces
abbrev pub two_parts : List (At Lane Verb)
two_parts =
    allocates
    ∷ gives (0x80 ∷ [])
    ∷ flushes
    ∷ gives (0x05 ∷ 0x41 ∷ 0x42 ∷ [])
    ∷ flushes
    ∷ gives (0x43 ∷ 0x80 ∷ [])
    ∷ flushes
    ∷ gives (0x02 ∷ 0x00 ∷ [])
    ∷ flushes
    ∷ takes
    ∷ reads 8
    ∷ takes
    ∷ reads 2
    ∷ takes
    ∷ reads 8
    ∷ reads 8
    ∷ takes
    ∷ reads 8
    ∷ []

abbrev pub last_part : List (At Lane Verb)
last_part = reads 8 ∷ gives (0x04 ∷ 0x44 ∷ 0x45 ∷ []) ∷ turns ∷ takes ∷ reads 8 ∷ reads 8 ∷ []

pub record CutByFlush : Type 0 where
  -- each is first and last in its chain; the last has CD
  pub units :
      units_taken (runs (joined 5 8) (two_parts ++ last_part)).two.log
      ≡ (0x00 ∷ 0x01 ∷ 0x03 ∷ 0x91 ∷ 0x80 ∷ 0x80 ∷ [])
      ∷ (0x00 ∷ 0x02 ∷ 0x03 ∷ 0x90 ∷ 0x00 ∷ 0x05 ∷ 0x41 ∷ 0x42 ∷ [])
      ∷ (0x00 ∷ 0x03 ∷ 0x03 ∷ 0x90 ∷ 0x00 ∷ 0x43 ∷ 0x80 ∷ [])
      ∷ (0x00 ∷ 0x04 ∷ 0x03 ∷ 0x90 ∷ 0x00 ∷ 0x02 ∷ 0x00 ∷ [])
      ∷ (0x00 ∷ 0x05 ∷ 0x03 ∷ 0x90 ∷ 0x20 ∷ 0x04 ∷ 0x44 ∷ 0x45 ∷ [])
      ∷ []
  -- complete is said where a part ends, and with it more, but for the last part
  pub pieces_read :
      pieces (runs (joined 5 8) (two_parts ++ last_part)).two.log
      ≡ piece (0x80 ∷ []) false false
      ∷ piece (0x05 ∷ 0x41 ∷ []) false false
      ∷ piece (0x42 ∷ 0x43 ∷ []) true true
      ∷ piece (0x80 ∷ []) false false
      ∷ piece (0x02 ∷ []) true true
      ∷ piece (0x00 ∷ []) false false
      ∷ piece (0x04 ∷ 0x44 ∷ 0x45 ∷ []) true false
      ∷ []
  -- before the last part two whole records have been read, and no whole table
  pub two_records : whole_records (H.bytes_read (runs (joined 5 8) two_parts).two.log) ≡ part1 ∷ part2 ∷ []
  pub no_table : whole_tables (H.bytes_read (runs (joined 5 8) two_parts).two.log) ≡ []
  pub table_read : TableRead (runs (joined 5 8) (two_parts ++ last_part))

pub record Parts : Type 0 where
  pub lengths : Lengths
  pub part_alone : PartAlone
  pub forged : Forged
  pub cut_by_maximum : CutByMaximum
  pub cut_by_flush : CutByFlush
