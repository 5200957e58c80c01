-- The walk over the bytes of a stream of logical records: one byte, then any number.
-- Assumes nothing.
use Rattle.std.specs.Prelude.{ℕ, ◌-◌, Bool, true, false, List, [], ◌∷◌, Result, Ok, Err}
use Rattle.logical_record.specs.Length.{length_of}
use Rattle.logical_record.specs.Positions.{remaining, after_length}
use Rattle.logical_record.specs.declared.BadLength.{BadLength}
use Rattle.logical_record.specs.declared.Length.{Length}
use Rattle.logical_record.specs.declared.Position.{Position}
use Rattle.logical_record.specs.declared.Position.TheVariants.{Between, AfterFirst, Remaining}

-- past the two bytes of LL
abbrev pub passed : Result Length BadLength → Result Position BadLength
passed (Ok l) = Ok (after_length l.bytes l.more)
passed (Err bad) = Err bad

-- one byte; LL is met, and checked, with its second byte, so a first byte alone is never refused, and no part is asked what the one
-- before it said
abbrev pub step : Position → ℕ → Result Position BadLength
step (Between more) b = Ok (AfterFirst b)
step (AfterFirst high) b = passed (length_of high b)
step (Remaining more n) b = Ok (remaining (n - 1) more)

-- a walk taken further; after a bad LL nothing more is met
unfoldable pub then_walk : Result Position BadLength → List ℕ → Result Position BadLength
then_walk w [] = w
then_walk (Ok p) (b ∷ bs) = then_walk (step p b) bs
then_walk (Err bad) (b ∷ bs) = Err bad

abbrev pub walk : Position → List ℕ → Result Position BadLength
walk p bs = then_walk (Ok p) bs

-- every LL met is good
abbrev pub is_good : Result Position BadLength → Bool
is_good (Ok p) = true
is_good (Err bad) = false

-- the place walked to; where an LL is bad, the place before
abbrev pub place_or : Position → Result Position BadLength → Position
place_or p (Ok q) = q
place_or p (Err bad) = p
