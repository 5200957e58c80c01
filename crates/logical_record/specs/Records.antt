-- The whole logical records of a stream of bytes, and the whole tables.
-- Assumes nothing.
use Rattle.std.specs.Prelude.{ℕ, Bool, true, false, not, ◌&&◌, List, [], ◌∷◌, eqb, length, Result, Ok, Err}
use Rattle.logical_record.specs.Length.{length_of, says_more}
use Rattle.logical_record.specs.Positions.{start, is_between}
use Rattle.logical_record.specs.Walk.{step}
use Rattle.logical_record.specs.Groups.{known, groups_from, left_from}
use Rattle.logical_record.specs.declared.BadLength.{BadLength}
use Rattle.logical_record.specs.declared.Length.{Length}
use Rattle.logical_record.specs.declared.Position.{Position}

-- ---- records

-- a good LL, and it says this length
abbrev pub says_length : ℕ → Result Length BadLength → Bool
says_length k (Ok l) = eqb k l.bytes
says_length k (Err bad) = false

-- one whole record: as long as its good LL says
abbrev pub is_record : List ℕ → Bool
is_record [] = false
is_record (high ∷ []) = false
is_record (high ∷ low ∷ data') = says_length (length (high ∷ low ∷ data')) (length_of high low)

abbrev pub are_records : List (List ℕ) → Bool
are_records [] = true
are_records (r ∷ rs) = is_record r && are_records rs

-- a record ends here
abbrev pub ended : Result Position BadLength → Bool
ended (Ok p) = is_between p
ended (Err bad) = false

-- the walk one byte further
abbrev pub further : Result Position BadLength → ℕ → Result Position BadLength
further (Ok p) b = step p b
further (Err bad) b = Err bad

-- the whole records at the front of a stream, in order; they stop at a bad LL
abbrev pub records_from : Result Position BadLength → List ℕ → List ℕ → List (List ℕ)
records_from w met bs = groups_from further ended w met bs

abbrev pub whole_records : List ℕ → List (List ℕ)
whole_records bs = records_from (Ok start) [] bs

-- the bytes that are in none of these records
abbrev pub pending : List ℕ → List ℕ
pending bs = left_from further ended (Ok start) [] bs

-- ---- tables: records up to one that says that no other part follows

-- the record's LL says that another part follows
abbrev pub part_more : List ℕ → Bool
part_more [] = false
part_more (high ∷ []) = false
part_more (high ∷ low ∷ data') = says_more (length_of high low)

-- one whole table: records, of which all but the last say that another part follows
abbrev pub is_table : List (List ℕ) → Bool
is_table [] = false
is_table (r ∷ []) = is_record r && not (part_more r)
is_table (r ∷ s ∷ rs) = (is_record r && part_more r) && is_table (s ∷ rs)

abbrev pub are_tables : List (List (List ℕ)) → Bool
are_tables [] = true
are_tables (t ∷ ts) = is_table t && are_tables ts

-- what is known of the records so far is whether the last of them says that another part follows
abbrev pub last_more : Bool → List ℕ → Bool
last_more more r = part_more r

-- the last of these records says so; no if there is none
abbrev pub last_bit : List (List ℕ) → Bool
last_bit rs = known last_more false rs

abbrev pub tables_from : List (List ℕ) → List (List ℕ) → List (List (List ℕ))
tables_from met rs = groups_from last_more not false met rs

-- the whole tables at the front of a stream, in order, each with its records
abbrev pub whole_tables : List ℕ → List (List (List ℕ))
whole_tables bs = tables_from [] (whole_records bs)

-- the whole records that are in none of these tables
abbrev pub parts_left : List (List ℕ) → List (List ℕ)
parts_left rs = left_from last_more not false [] rs
