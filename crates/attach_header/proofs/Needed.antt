-- The length that fields need, by what is present.
-- Assumes nothing.
use mathlib.Core.Path.{◌≡◌, refl}
use Prim.Native.Nat.{ℕ, ◌+◌, ◌≤◌}
use native.Mathlib.Omega.{arith}
use borrow.Author.Tests.{ne_eqb, eqb-true, eqb-false}
use Rattle.bools.proofs.Cases.{split}
use mathlib.Core.Bool.{Bool, true, false, ◌&&◌}
use lib.Dec.{eqb}
use Rattle.attach_header.specs.Written.{trailing_needs}

and_false : (a : Bool) → a && false ≡ false
and_false true = refl
and_false false = refl

pub with_work : (s w : ℕ) → (w ≡ 0 → ⊥) → trailing_needs s w ≡ s + w + 2
with_work s w h = rw (ne_eqb w 0 h, and_false (eqb s 0)) (omega arith)

pub security_alone : (s w : ℕ) → w ≡ 0 → (s ≡ 0 → ⊥) → trailing_needs s w ≡ s + 1
security_alone s w e h = rw (e, ne_eqb s 0 h) (omega arith)

pub neither : (s w : ℕ) → w ≡ 0 → s ≡ 0 → trailing_needs s w ≡ 0
neither s w e f = rw (e, f)

pub parts_within : (s w : ℕ) → s + w ≤ trailing_needs s w
parts_within s w =
    split (eqb w 0) (λ e. by_security (eqb-true w 0 e))
    (λ e. let t = with_work s w (eqb-false w 0 e) in omega (arith, t))
  where
    by_security : w ≡ 0 → s + w ≤ trailing_needs s w
    by_security z =
        split (eqb s 0) (λ f. let t = neither s w z (eqb-true s 0 f) in let u = eqb-true s 0 f in omega (arith, t, u, z))
        (λ f. let t = security_alone s w z (eqb-false s 0 f) in omega (arith, t, z))
