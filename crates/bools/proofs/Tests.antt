-- What a test that holds, or does not, tells of its parts.
-- Assumes nothing.
use mathlib.Core.Path.{◌≡◌, refl, sym, ◌∙◌}
use mathlib.Core.Bool.{Bool, true, false, not, ◌&&◌, ◌||◌}
use lib.Dec.{T}
use Rattle.bools.proofs.Cases.{never}

-- ---- both

pub both : (a b : Bool) → a && b ≡ true → (a ≡ true) × (b ≡ true)
both true b e = (refl, e)
both false b e = never e

pub left : (a b : Bool) → a && b ≡ true → a ≡ true
left a b e = (both a b e).0

pub right : (a b : Bool) → a && b ≡ true → b ≡ true
right a b e = (both a b e).1

pub join : (a b : Bool) → a ≡ true → b ≡ true → a && b ≡ true
join true b x y = y
join false b x y = x

-- of tests on numbers written out, which `tt` proves
pub both_tt : (a b : Bool) → T (a && b) → T a × T b
both_tt true b t = (tt, t)
both_tt false b t = absurd t

-- ---- either

pub or_left : (a b : Bool) → a || b ≡ true → b ≡ false → a ≡ true
or_left true b e f = refl
or_left false b e f = never (sym f ∙ e)

pub or_right : (a b : Bool) → a || b ≡ true → a ≡ false → b ≡ true
or_right true b e f = never (sym f)
or_right false b e f = e

-- ---- not

pub not_true : (a : Bool) → not a ≡ true → a ≡ false
not_true true e = never e
not_true false e = refl

-- where a asks for b, and a is: b is
pub follows_from : (a b : Bool) → not a || b ≡ true → a ≡ true → b ≡ true
follows_from true b h e = h
follows_from false b h e = never e

-- where a asks for b, and b is not: a is not
pub off : (a b : Bool) → not a || b ≡ true → b ≡ false → a ≡ false
off true b h e = never (sym e ∙ h)
off false b h e = refl
