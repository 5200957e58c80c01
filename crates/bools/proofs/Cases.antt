-- How a proof goes by a test's outcome.
-- Assumes nothing.
use mathlib.Core.Path.{◌≡◌, refl}
use mathlib.Core.Bool.{Bool, true, false, cond, false≢true}

-- no is not yes
pub never : {X : Type 0} → false ≡ true → X
never e = absurd (false≢true e)

-- to show a fact of a test's two outcomes, show it of each
pub cases : {X : Type 0} (P : X → Type 0) (b : Bool) {x y : X} → (b ≡ true → P x) → (b ≡ false → P y) → P (cond b x y)
cases P true f g = f refl
cases P false f g = g refl

-- where the outcome is known, the fact of that one
pub on : {X : Type 0} (P : X → Type 0) (b : Bool) {x : X} (y : X) → b ≡ true → P x → P (cond b x y)
on P true y e h = h
on P false y e h = never e

-- a test, with its outcome kept
pub split : {X : Type 0} (b : Bool) → (b ≡ true → X) → (b ≡ false → X) → X
split true f g = f refl
split false f g = g refl
