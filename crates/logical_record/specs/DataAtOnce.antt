-- Bytes that all belong to one record: the code passes them without a loop. What it does with them is `walk`, like everything else.
-- Assumes nothing.
use Rattle.std.specs.Prelude.{ℕ, ◌-◌, Bool, false, ◌&&◌, leb}
use Rattle.logical_record.specs.Positions.{remaining}
use Rattle.logical_record.specs.declared.Position.{Position}
use Rattle.logical_record.specs.declared.Position.TheVariants.{Between, AfterFirst, Remaining}

-- so many bytes all belong to the record that is begun
abbrev pub all_data : Position → ℕ → Bool
all_data (Between more) count = false
all_data (AfterFirst high) count = false
all_data (Remaining more n) count = leb 1 n && leb count n

-- past so many bytes of the record's data
abbrev pub past_data : Position → ℕ → Position
past_data (Between more) count = Between more
past_data (AfterFirst high) count = AfterFirst high
past_data (Remaining more n) count = remaining (n - count) more
