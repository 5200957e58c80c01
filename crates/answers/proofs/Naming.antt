-- Only 21 names a rule: any other refusal is the same with a rule to name and without.
-- Assumes nothing.
use Prim.Native.Nat.{ℕ}
use mathlib.Core.Path.{◌≡◌, refl}
use mathlib.Core.Bool.{Bool, true, false, cond}
use borrow.Author.Tests.{ne_eqb}
use Rattle.answers.specs.Answers.{BAD_HEADER, accepted, refused, refused_naming}

pub naming : (b : Bool) (n q rule : ℕ) → (q ≡ BAD_HEADER → ⊥) → cond b (accepted n) (refused q) ≡ cond b (accepted n) (refused_naming rule q)
naming true n q rule h = refl
naming false n q rule h = rw (ne_eqb q BAD_HEADER h)
