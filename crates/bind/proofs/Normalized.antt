-- A maximum RU moved so that its highest bit is a mantissa's, of weight 8: the mantissa is 8 to 15, and the exponent at most 7.
-- Assumes nothing.
use mathlib.Core.Path.{◌≡◌, ap, ◌∙◌, subst}
use mathlib.Core.Bool.{true}
use Prim.Native.Nat.{ℕ, suc, ◌+◌, ◌-◌, ◌*◌, ◌/◌, ◌^◌, ◌≤◌, ◌<◌}
use native.Mathlib.Nat.{le-div_iff_mul-le, div-lt_iff_lt-mul, lt_of_le_of_lt}
use native.Mathlib.Omega.{arith}
use lib.Count.{count_leading_zeros, leading_top}
use lib.Dec.{leb}
use lib.Pow.{pow_pos, pow_mono, pow-add}
use borrow.Author.Tests.{leb-true, leb-false}
use Rattle.bools.proofs.Cases.{split}
use Rattle.bools.proofs.Tests.{both}
use Rattle.unit.specs.Maximum.{max_good}

-- how far the highest bit of a size stands above a mantissa's
abbrev pub place : ℕ → ℕ
place size = 28 - count_leading_zeros 32 size

pub record Normalized (size : ℕ) : Type 0 where
  pub zeros : count_leading_zeros 32 size ≤ 28
  pub most_exponent : place size ≤ 7
  pub least : 8 ≤ size / 2 ^ place size
  pub most : size / 2 ^ place size < 16

-- mantissa and exponent make a byte
pub byte_below : (size : ℕ) → Normalized size → size / 2 ^ place size * 16 + place size < 256
byte_below size n = let e = n.most_exponent in let m = n.most in omega (arith, e, m)

smaller_power : (i k : ℕ) → 2 ^ i < 2 ^ k → i < k
smaller_power i k h =
    split (leb k i) (λ e. let le = pow_mono {i = k} {j = i} (leb-true k i e) in absurd (omega (arith, h, le)))
    (λ e. let l = leb-false k i e in omega (arith, l))

pub normalized : (size : ℕ) → max_good size ≡ true → Normalized size
normalized size g =
    let t = both (leb 8 size) (leb size 1024) g in
    let l = leb-true 8 size t.0 in
    let m = leb-true size 1024 t.1 in
    at l m (leading_top 32 size (omega (arith, l)) (omega (arith, m)))
  where
    at : 8 ≤ size → size ≤ 1024 → (j : ℕ) × (count_leading_zeros 32 size + suc j ≡ 32) × (2 ^ j ≤ size) × (size < 2 ^ suc j) → Normalized size
    at l m (j, p, below, above) =
        let low = smaller_power 3 (suc j) (lt_of_le_of_lt l above) in
        let high = smaller_power j 11 (omega (arith, below, m)) in
        let e = place size in
        record {
          zeros = omega (arith, p, low);
          most_exponent = omega (arith, p, high);
          least = (le-div_iff_mul-le (pow_pos e)).1 (subst (λ (x : ℕ). x ≤ size) (ap (λ (k : ℕ). 2 ^ k) (omega (arith, p, low)) ∙ pow-add 2 3 e) below);
          most = (div-lt_iff_lt-mul (pow_pos e)).1 (subst (λ (x : ℕ). size < x) (ap (λ (k : ℕ). 2 ^ k) (omega (arith, p, low)) ∙ pow-add 2 4 e) above);
        }
