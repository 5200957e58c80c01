-- A test at every value of a finite type, which antt computes, and the law that it gives at each value.
-- Assumes nothing.
use mathlib.Core.Path.{◌≡◌, subst}
use mathlib.Core.Bool.{Bool, true, false, ◌&&◌}
use Rattle.bools.proofs.Tests.{left, right}

-- the parts of a row of tests
pub ruleset halves = (left, right)

-- a type with a test at every value of it
pub record Finite (A : Type 0) : Type 0 where
  pub all : (A → Bool) → Bool
  pub at : (f : A → Bool) → all f ≡ true → (a : A) → f a ≡ true

abbrev pub pairs : {A B : Type 0} → Finite A → Finite B → Finite (A × B)
pairs x y =
    record {
      all = λ f. x.all (λ a. y.all (λ b. f (a, b)));
      at = λ f t p. y.at (λ b. f (p.0, b)) (x.at (λ a. y.all (λ b. f (a, b))) t p.0) p.1;
    }

abbrev pub covered : {A B : Type 0} → Finite A → (g : A → B) (h : B → A) → ((b : B) → g (h b) ≡ b) → Finite B
covered {A} {B} x g h e =
    record { all = λ f. x.all (λ a. f (g a)); at = λ f t b. subst (λ (c : B). f c ≡ true) (e b) (x.at (λ a. f (g a)) t (h b)) }

pub at_bool : (f : Bool → Bool) → f true && f false ≡ true → (b : Bool) → f b ≡ true
at_bool f t true = search halves
at_bool f t false = search halves

abbrev pub bools : Finite Bool
bools = record { all = λ f. f true && f false; at = at_bool }
