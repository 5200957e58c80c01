-- What is claimed of the whole records and tables of a stream, and of record places. Proved in proofs/, and promised by the functions of
-- `theorems`.
-- Assumes nothing.
use Rattle.std.specs.Prelude.{ℕ, ◌<◌, ◌≡◌, true, ◌&&◌, List, ◌++◌, get_or, Ok}
use Rattle.logical_record.specs.Positions.{start, is_between, more_follows, is_whole}
use Rattle.logical_record.specs.Walk.{walk}
use Rattle.logical_record.specs.Groups.{joined}
use Rattle.logical_record.specs.Records.{are_records, whole_records, pending, last_bit, are_tables, whole_tables, parts_left}
use Rattle.logical_record.specs.declared.Position.{Position}

-- ---- records

-- what is found are records
abbrev pub RecordsAre : Type 0
RecordsAre = (bs : List ℕ) → are_records (whole_records bs) ≡ true

-- records that stand one after another are found, each as it is
abbrev pub RecordsFound : Type 0
RecordsFound = (rs : List (List ℕ)) → are_records rs ≡ true → whole_records (joined rs) ≡ rs

-- every byte stands in one of the records found, or behind them
abbrev pub NoByteLost : Type 0
NoByteLost = (bs : List ℕ) → joined (whole_records bs) ++ pending bs ≡ bs

-- ---- tables

-- what is found are tables
abbrev pub TablesAre : Type 0
TablesAre = (bs : List ℕ) → are_tables (whole_tables bs) ≡ true

-- tables that stand one after another are found, each with its records
abbrev pub TablesFound : Type 0
TablesFound = (ts : List (List (List ℕ))) → are_tables ts ≡ true → whole_tables (joined (joined ts)) ≡ ts

-- every whole record stands in one of the tables found, or behind them
abbrev pub NoRecordLost : Type 0
NoRecordLost = (bs : List ℕ) → joined (whole_tables bs) ++ parts_left (whole_records bs) ≡ whole_records bs

-- ---- record places

-- more is said exactly where a record has ended, and is what that record says: the place remembers it
abbrev pub BitRemembered : Type 0
BitRemembered = (bs : List ℕ) (p : Position) → walk start bs ≡ Ok p → more_follows p ≡ (is_between p && last_bit (whole_records bs))

-- some bytes lead from here to where nothing is unfinished
pub record CanEnd (p : Position) : Type 0 where
  pub bytes : List ℕ
  pub are_bytes : (k : ℕ) → get_or bytes k 0 < 256
  pub place : Position
  pub reached : walk p bytes ≡ Ok place
  pub whole : is_whole place ≡ true

-- whatever has been given, also a first LL byte alone, some bytes complete record and table
abbrev pub EveryPlaceCanEnd : Type 0
EveryPlaceCanEnd = (p : Position) → CanEnd p
