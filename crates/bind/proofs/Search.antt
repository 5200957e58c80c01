-- The byte of a size, found by trying the bytes: if it is not 0 it means the size, and if it is 0 no byte does.
-- Assumes nothing.
use mathlib.Core.Path.{◌≡◌, refl, sym, subst}
use mathlib.Core.Bool.{Bool, true, false, cond}
use Prim.Native.Nat.{ℕ, zero, suc, ◌<◌}
use native.Mathlib.Omega.{arith}
use lib.Dec.{eqb}
use borrow.Author.Tests.{eqb-true, eqb-false}
use Rattle.bools.proofs.Cases.{never, split, cases}
use Rattle.bind.specs.SessionBytes.{means, byte_below, byte_of}

found : (n size : ℕ) → eqb (byte_below n size) 0 ≡ false → (means (byte_below n size) size ≡ true) × (byte_below n size < n)
found zero size h = never (sym h)
found (suc n) size h =
    cases (λ (y : ℕ). eqb y 0 ≡ false → (means y size ≡ true) × (y < suc n)) (means n size) (λ e _. (e, omega arith))
    (λ e g. let f = found n size g in (f.0, omega (arith, f.1))) h

none : (n size : ℕ) → byte_below n size ≡ 0 → (byte : ℕ) → byte < n → means byte size ≡ false
none zero size h byte l = absurd (omega (arith, l))
none (suc n) size h byte l = one (means n size) refl h (none n size)
  where
    -- byte 0 means no size
    one : (t : Bool) → means n size ≡ t → cond t n (byte_below n size) ≡ 0
        → (byte_below n size ≡ 0 → (byte : ℕ) → byte < n → means byte size ≡ false) → means byte size ≡ false
    one true e z rest = never (subst (λ (k : ℕ). means k size ≡ true) z e)
    one false e z rest =
        split (eqb byte n) (λ b. rw (eqb-true byte n b) e) (λ b. let ne = eqb-false byte n b in rest z byte (omega (arith, ne, l)))

pub byte_means : (size : ℕ) → eqb (byte_of size) 0 ≡ false → (means (byte_of size) size ≡ true) × (byte_of size < 256)
unfolding byte_of
byte_means size = found 256 size

pub none_means : (size : ℕ) → byte_of size ≡ 0 → (byte : ℕ) → byte < 256 → means byte size ≡ false
unfolding byte_of
none_means size = none 256 size
