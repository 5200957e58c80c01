-- Exactly 51 headers are good on the normal line.
-- Assumes nothing.
use mathlib.Core.Path.{◌≡◌, refl, ◌∙◌}
use mathlib.Core.Bool.{Bool, true, not, cond, ◌||◌}
use mathlib.Core.List.{[], ◌∷◌}
use Prim.Native.Nat.{ℕ}
use lib.Dec.{leb}
use Rattle.header.specs.Rules.{one_of, data_h3, header_good}
use Rattle.header.specs.HeaderClaims.{FiftyOne}
use Rattle.header.specs.declared.HeaderBytes.{HeaderBytes}
use Rattle.header.proofs.Candidates.{heads, brackets, all_candidates, good_at}
use Rattle.header.proofs.HeadersCounted.{guarded_below, plausible, counted_where}
use Rattle.bools.proofs.Tests.{follows_from}

-- the bytes of a good header
head : ℕ → Bool
head x = one_of x heads

answer : ℕ → ℕ → Bool
answer x y = cond (leb x 0x03) (data_h3 y) (one_of y (0x01 ∷ 0x20 ∷ 0x30 ∷ 0x80 ∷ 0x81 ∷ 0x90 ∷ 0x91 ∷ []))

bracket : ℕ → Bool
bracket z = one_of z brackets

abbrev here : HeaderBytes → Bool
here h = plausible header_good head answer bracket h

-- a candidate that is good is plausible, so every good header is
good_plausible : HeaderBytes → Bool
good_plausible h = not (header_good h) || here h

all_plausible : all_candidates good_plausible ≡ true
unfolding good_plausible header_good head answer bracket
all_plausible = refl

plausible_is : (h : HeaderBytes) → header_good h ≡ true → here h ≡ true
unfolding good_plausible
plausible_is h g = follows_from (header_good h) (here h) (good_at good_plausible all_plausible h g) g

counted : guarded_below header_good head answer bracket 256 ≡ 51
unfolding guarded_below head answer bracket header_good
counted = refl

pub fifty_one : FiftyOne
fifty_one = counted_where header_good head answer bracket plausible_is ∙ counted
