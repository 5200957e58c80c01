-- Two tests that agree at each number below 256, which antt computes, agree at every byte; and so at every byte and every value of a finite type.
-- Assumes nothing.
use mathlib.Core.Path.{◌≡◌, refl}
use mathlib.Core.Bool.{Bool, true, false, beq}
use Prim.Native.Nat.{ℕ, ◌<◌}
use Rattle.bools.proofs.Below.{all_below, at_below}
use Rattle.bools.proofs.Cases.{never}
use Rattle.bools.proofs.Finite.{Finite}

same : (a b : Bool) → beq a b ≡ true → a ≡ b
same true true e = refl
same true false e = never e
same false true e = never e
same false false e = refl

abbrev agree : (ℕ → Bool) → (ℕ → Bool) → Bool
agree f g = all_below (λ b. beq (f b) (g b)) 256

pub at_byte : (f g : ℕ → Bool) → agree f g ≡ true → (x : ℕ) → x < 256 → f x ≡ g x
at_byte f g t x h = same (f x) (g x) (at_below (λ b. beq (f b) (g b)) 256 t x h)

pub at_byte_and : {A : Type 0} (s : Finite A) (f g : A → ℕ → Bool) → s.all (λ a. agree (f a) (g a)) ≡ true
    → (a : A) (x : ℕ) → x < 256 → f a x ≡ g a x
at_byte_and s f g t a = at_byte (f a) (g a) (s.at (λ a. agree (f a) (g a)) t a)
