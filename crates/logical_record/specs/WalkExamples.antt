-- The definitions at work, each computed.
-- Assumes nothing.
use Rattle.std.specs.Prelude.{ℕ, ◌≡◌, refl, true, false, List, [], ◌∷◌, take, drop, Ok, Err}
use Rattle.logical_record.specs.Length.{bad_length}
use Rattle.logical_record.specs.Positions.{start, remaining, is_position, is_whole}
use Rattle.logical_record.specs.Walk.{then_walk, walk}
use Rattle.logical_record.specs.RestOfRecord.{rest}
use Rattle.logical_record.specs.Groups.{groups_from, left_from}
use Rattle.logical_record.specs.Records.{is_record, whole_records, pending, whole_tables, parts_left}
use Rattle.logical_record.specs.declared.Position.TheVariants.{Between, AfterFirst, Remaining}

-- LL 00 02 is a whole record at once; 00 01 is bad
shortest : walk start (0x00 ∷ 0x02 ∷ []) ≡ Ok start
unfolding then_walk
shortest = refl

too_short : walk start (0x00 ∷ 0x01 ∷ []) ≡ Err bad_length
unfolding then_walk
too_short = refl

-- with the top bit the length is the same, and another part follows: 80 02 is good, 80 00 and 80 01 are not
shortest_part : walk start (0x80 ∷ 0x02 ∷ []) ≡ Ok (Between true)
unfolding then_walk
shortest_part = refl

too_short_parts : (walk start (0x80 ∷ 0x00 ∷ []) ≡ Err bad_length) × (walk start (0x80 ∷ 0x01 ∷ []) ≡ Err bad_length)
unfolding then_walk
too_short_parts = (refl, refl)

-- 7F FF, 32,767, is the longest; FF FF is as long, with the bit
longest : (walk start (0x7F ∷ 0xFF ∷ []) ≡ Ok (remaining 32765 false)) × (walk start (0xFF ∷ 0xFF ∷ []) ≡ Ok (remaining 32765 true))
unfolding then_walk
longest = (refl, refl)

-- the bit stays to the end of its part, where a turn is not allowed, and the next part forgets it
part_then_last :
    (walk start (0x80 ∷ 0x03 ∷ 0x41 ∷ []) ≡ Ok (Between true))
    × (is_whole (Between true) ≡ false)
    × (walk start (0x80 ∷ 0x03 ∷ 0x41 ∷ 0x00 ∷ 0x02 ∷ []) ≡ Ok start)
unfolding then_walk
part_then_last = (refl, refl, refl)

-- a first byte alone is not refused; a bad LL is, whatever comes after it
first_alone : walk start (0x80 ∷ []) ≡ Ok (AfterFirst 0x80)
unfolding then_walk
first_alone = refl

bad_stays : walk start (0x00 ∷ 0x02 ∷ 0x00 ∷ 0x01 ∷ 0x00 ∷ 0x02 ∷ []) ≡ Err bad_length
unfolding then_walk
bad_stays = refl

-- a table of two parts, and a part of the next
stream : List ℕ
stream = 0x80 ∷ 0x03 ∷ 0x41 ∷ 0x00 ∷ 0x02 ∷ 0x80 ∷ 0x02 ∷ []

tables :
    (whole_tables stream ≡ ((0x80 ∷ 0x03 ∷ 0x41 ∷ []) ∷ (0x00 ∷ 0x02 ∷ []) ∷ []) ∷ [])
    × (parts_left (whole_records stream) ≡ (0x80 ∷ 0x02 ∷ []) ∷ [])
unfolding groups_from left_from stream
tables = (refl, refl)

-- the paper's row: inbox 00 05 41 42 43 00, read 4, 4, 4
inbox : List ℕ
inbox = 0x00 ∷ 0x05 ∷ 0x41 ∷ 0x42 ∷ 0x43 ∷ 0x00 ∷ []

taken_to : walk start inbox ≡ Ok (AfterFirst 0x00)
unfolding then_walk inbox
taken_to = refl

-- 00 05 41 42: four of the record's five bytes
read_1 : (rest start inbox ≡ Ok 5) × (walk start (take 4 inbox) ≡ Ok (remaining 1 false))
unfolding then_walk inbox
read_1 = (refl, refl)

-- 43 complete
read_2 : (rest (remaining 1 false) (drop 4 inbox) ≡ Ok 1) × (walk (remaining 1 false) (0x43 ∷ []) ≡ Ok start)
unfolding then_walk inbox
read_2 = (refl, refl)

-- 00: the one LL byte that is held
read_3 : (rest start (drop 5 inbox) ≡ Ok 1) × (walk start (drop 5 inbox) ≡ Ok (AfterFirst 0x00))
unfolding then_walk inbox
read_3 = (refl, refl)

-- with the first LL byte read, LL is met with the next byte, and one byte fewer is to be read
rest_after_first : (rest (AfterFirst 0x00) (0x05 ∷ 0x41 ∷ []) ≡ Ok 4) × (rest (AfterFirst 0x00) (0x01 ∷ []) ≡ Err bad_length)
rest_after_first = (refl, refl)

found : (whole_records inbox ≡ (0x00 ∷ 0x05 ∷ 0x41 ∷ 0x42 ∷ 0x43 ∷ []) ∷ []) × (pending inbox ≡ 0x00 ∷ [])
unfolding groups_from left_from inbox
found = (refl, refl)

found_records : (is_record (take 5 inbox) ≡ true) × (is_record (take 4 inbox) ≡ false) × (is_record inbox ≡ false)
unfolding inbox
found_records = (refl, refl, refl)

-- forged record places, to which no stream leads: `is_position` refuses them, and a walk from them still has an answer
forged : (is_position (Remaining true 0) ≡ false) × (is_position (Remaining false 32766) ≡ false) × (is_position (Remaining true 65535) ≡ false)
forged = (refl, refl, refl)

forged_walks : walk (Remaining true 0) (0x41 ∷ 0x00 ∷ []) ≡ Ok (AfterFirst 0x00)
unfolding then_walk
forged_walks = refl
