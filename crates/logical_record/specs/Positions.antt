-- Record places.
-- Assumes nothing.
use Rattle.std.specs.Prelude.{ℕ, ◌-◌, Bool, true, false, not, cond, ◌&&◌, eqb, leb}
use Rattle.logical_record.specs.Length.{greatest_length}
use Rattle.logical_record.specs.declared.Position.{Position}
use Rattle.logical_record.specs.declared.Position.TheVariants.{Between, AfterFirst, Remaining}

-- where a fresh stream stands: no part before says that another follows
abbrev pub start : Position
start = Between false

-- with n bytes of the record left, whose LL says whether another part follows
abbrev pub remaining : ℕ → Bool → Position
remaining n more = cond (eqb n 0) (Between more) (Remaining more n)

-- past an LL of n, which counts its own two bytes
abbrev pub after_length : ℕ → Bool → Position
after_length n more = remaining (n - 2) more

-- what is left of the longest record past its LL
abbrev pub most_remaining : ℕ
most_remaining = greatest_length - 2

-- one of the paper's record places; a first LL byte is a byte, which is always so of the code's u8
abbrev pub is_position : Position → Bool
is_position (Between more) = true
is_position (AfterFirst high) = leb high 255
is_position (Remaining more n) = leb 1 n && leb n most_remaining

-- a record is complete, whether or not another part follows
abbrev pub is_between : Position → Bool
is_between (Between more) = true
is_between (AfterFirst high) = false
is_between (Remaining more n) = false

-- the record just completed says that another part follows; no unless one is complete
abbrev pub more_follows : Position → Bool
more_follows (Between more) = more
more_follows (AfterFirst high) = false
more_follows (Remaining more n) = false

-- nothing is unfinished, neither a record nor a table: asked at a mark, and before confirm, turn and end
abbrev pub is_whole : Position → Bool
is_whole p = is_between p && not (more_follows p)
