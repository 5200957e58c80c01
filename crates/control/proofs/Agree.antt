-- Two tests agree exactly where they have one outcome.
-- Assumes nothing.
use mathlib.Core.Path.{◌≡◌, refl, sym}
use mathlib.Core.Bool.{Bool, true, false}
use Rattle.control.specs.StateTests.{agree}

pub agrees : (a b : Bool) → agree a b ≡ true → a ≡ b
agrees true b e = sym e
agrees false true e = e
agrees false false e = refl

pub agree_same : (a b : Bool) → a ≡ b → agree a b ≡ true
agree_same true b e = sym e
agree_same false true e = e
agree_same false false e = refl
