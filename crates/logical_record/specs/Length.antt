-- LL, the two bytes in front of a logical record, high first: its length, LL counted, and whether another part of its table follows.
-- Assumes nothing.
use Rattle.std.specs.Prelude.{ℕ, ◌+◌, ◌*◌, ◌-◌, ◌%◌, Bool, false, cond, leb, Result, Ok, Err}
use Rattle.logical_record.specs.declared.BadLength.{BadLength}
use Rattle.logical_record.specs.declared.Length.{Length}

-- LL alone, a record with no data
abbrev pub least_length : ℕ
least_length = 2

-- the weight of the top bit, which says that another part follows; the other 15 bits are the length
abbrev pub more_bit : ℕ
more_bit = 32768

-- all 15 bits
abbrev pub greatest_length : ℕ
greatest_length = more_bit - 1

-- what a good LL says: a length, and whether another part follows
abbrev pub part : ℕ → Bool → Length
part n more = record { bytes = n; more = more }

abbrev pub bad_length : BadLength
bad_length = record {}

-- the one definition that all others read LL by: an error, or a length of 2 to 32,767 and whether another part follows
abbrev pub length_in : ℕ → Result Length BadLength
length_in ll = cond (leb least_length (ll % more_bit)) (Ok (part (ll % more_bit) (leb more_bit ll))) (Err bad_length)

abbrev pub length_of : ℕ → ℕ → Result Length BadLength
length_of high low = length_in (high * 256 + low)

-- what a bad LL says of more parts is of no account
abbrev pub says_more : Result Length BadLength → Bool
says_more (Ok l) = l.more
says_more (Err bad) = false
