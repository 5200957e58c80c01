-- A test at each number below a bound, which antt computes, and the law that it gives at each of them.
-- Assumes nothing.
use mathlib.Core.Path.{◌≡◌}
use mathlib.Core.Bool.{Bool, true, ◌&&◌}
use Prim.Native.Nat.{ℕ, zero, suc, ◌<◌}
use native.Mathlib.Omega.{arith}
use borrow.Author.Tests.{eqb-true, eqb-false}
use lib.Dec.{eqb}
use Rattle.bools.proofs.Cases.{split}
use Rattle.bools.proofs.Tests.{left, right}

abbrev pub all_below : (ℕ → Bool) → ℕ → Bool
all_below f zero = true
all_below f (suc n) = f n && all_below f n

pub at_below : (f : ℕ → Bool) (n : ℕ) → all_below f n ≡ true → (x : ℕ) → x < n → f x ≡ true
at_below f zero t x h = absurd (omega arith)
at_below f (suc n) t x h =
    split (eqb x n) (λ e. rw (eqb-true x n e) (left (f n) (all_below f n) t))
    (λ e. let ne = eqb-false x n e in at_below f n (right (f n) (all_below f n) t) x (omega (arith, ne)))
