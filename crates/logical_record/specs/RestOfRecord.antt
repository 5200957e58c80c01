-- How much of the current record a read may copy.
-- Assumes nothing.
use Rattle.std.specs.Prelude.{ℕ, ◌-◌, Bool, true, false, List, [], ◌∷◌, Result, Ok, Err}
use Rattle.logical_record.specs.Length.{length_of}
use Rattle.logical_record.specs.declared.BadLength.{BadLength}
use Rattle.logical_record.specs.declared.Length.{Length}
use Rattle.logical_record.specs.declared.Position.{Position}
use Rattle.logical_record.specs.declared.Position.TheVariants.{Between, AfterFirst, Remaining}

-- of a record with this LL, all but the k bytes that have been read
abbrev pub rest_past : ℕ → Result Length BadLength → Result ℕ BadLength
rest_past k (Ok l) = Ok (l.bytes - k)
rest_past k (Err bad) = Err bad

-- the bytes of the current record that are still to be read, LL included, by the bytes held; with one LL byte held, that byte
abbrev pub rest : Position → List ℕ → Result ℕ BadLength
rest (Between more) [] = Ok 0
rest (Between more) (high ∷ []) = Ok 1
rest (Between more) (high ∷ low ∷ bs) = rest_past 0 (length_of high low)
rest (AfterFirst high) [] = Ok 0
rest (AfterFirst high) (low ∷ bs) = rest_past 1 (length_of high low)
rest (Remaining more n) bs = Ok n

-- the LL of the current record is passed, or its second byte is held
abbrev pub length_met : Position → List ℕ → Bool
length_met (Between more) [] = false
length_met (Between more) (high ∷ []) = false
length_met (Between more) (high ∷ low ∷ bs) = true
length_met (AfterFirst high) [] = false
length_met (AfterFirst high) (low ∷ bs) = true
length_met (Remaining more n) bs = true
