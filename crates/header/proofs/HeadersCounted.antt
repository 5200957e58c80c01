-- How many headers are good: the sum over all of them is computed only where each byte is one of those that a good header has; elsewhere it is nothing.
-- Assumes nothing.
use mathlib.Core.Path.{◌≡◌, refl, sym, ap, ◌∙◌}
use mathlib.Core.Bool.{Bool, true, false, cond, ◌&&◌}
use Prim.Native.Nat.{ℕ, zero, suc, ◌+◌}
use Rattle.header.specs.Rules.{bytes}
use Rattle.header.specs.HeaderClaims.{sum_below, how_many}
use Rattle.header.specs.declared.HeaderBytes.{HeaderBytes}
use Rattle.bools.proofs.Cases.{never}
use Rattle.bools.proofs.Tests.{both}

-- ---- sums

pub same_sums : (f g : ℕ → ℕ) → ((n : ℕ) → f n ≡ g n) → (k : ℕ) → sum_below f k ≡ sum_below g k
same_sums f g e zero = refl
same_sums f g e (suc k) = ap (λ (m : ℕ). m + sum_below f k) (e k) ∙ ap (λ (m : ℕ). g k + m) (same_sums f g e k)

sum_of_none : (f : ℕ → ℕ) → ((n : ℕ) → f n ≡ 0) → (k : ℕ) → sum_below f k ≡ 0
sum_of_none f e zero = refl
sum_of_none f e (suc k) = ap (λ (m : ℕ). m + sum_below f k) (e k) ∙ ap (λ (m : ℕ). 0 + m) (sum_of_none f e k)

-- a sum need be computed only where it is not nothing
guarded : (t : Bool) (s : ℕ) → (t ≡ false → s ≡ 0) → s ≡ cond t s 0
guarded true s e = refl
guarded false s e = e refl

none : (good : Bool) → (good ≡ true → ⊥) → ◌≡◌ {A = ℕ} (cond good 1 0) 0
none true n = absurd (n refl)
none false n = refl

-- the bytes that a good header may have: byte 0; byte 1, by byte 0; byte 2
module _ (good : HeaderBytes → Bool) (head : ℕ → Bool) (answer : ℕ → ℕ → Bool) (bracket : ℕ → Bool) where
  abbrev one : ℕ → ℕ → ℕ → ℕ
  one x y z = cond (good (bytes x y z)) 1 0

  -- the sums over byte 2, over bytes 1 and 2, and over all three, each computed where it is not nothing
  abbrev third : ℕ → ℕ → ℕ → ℕ
  third k x y = sum_below (λ z. cond (bracket z) (one x y z) 0) k

  abbrev second : ℕ → ℕ → ℕ
  second k x = sum_below (λ y. cond (answer x y) (third k x y) 0) k

  unfoldable pub guarded_below : ℕ → ℕ
  guarded_below k = sum_below (λ x. cond (head x) (second k x) 0) k

  abbrev pub plausible : HeaderBytes → Bool
  plausible h = head h.b0 && (answer h.b0 h.b1 && bracket h.b2)

  module _ (plausible_is : (h : HeaderBytes) → good h ≡ true → plausible h ≡ true) where
    module _ (x y z : ℕ) where
      here : good (bytes x y z) ≡ true → (head x ≡ true) × (answer x y && bracket z ≡ true)
      here g = both (head x) (answer x y && bracket z) (plausible_is (bytes x y z) g)

      no_head : head x ≡ false → one x y z ≡ 0
      no_head n = none (good (bytes x y z)) (λ g. never (sym n ∙ (here g).0))

      no_answer : answer x y ≡ false → one x y z ≡ 0
      no_answer n = none (good (bytes x y z)) (λ g. never (sym n ∙ (both (answer x y) (bracket z) (here g).1).0))

      no_bracket : bracket z ≡ false → one x y z ≡ 0
      no_bracket n = none (good (bytes x y z)) (λ g. never (sym n ∙ (both (answer x y) (bracket z) (here g).1).1))

    module _ (k : ℕ) where
      third_is : (x y : ℕ) → sum_below (λ z. one x y z) k ≡ cond (answer x y) (third k x y) 0
      third_is x y =
          guarded (answer x y) (sum_below (λ z. one x y z) k) (λ n. sum_of_none (λ z. one x y z) (λ z. no_answer x y z n) k)
          ∙ ap (λ (s : ℕ). cond (answer x y) s 0)
          (same_sums (λ z. one x y z) (λ z. cond (bracket z) (one x y z) 0) (λ z. guarded (bracket z) (one x y z) (no_bracket x y z)) k)

      second_is : (x : ℕ) → sum_below (λ y. sum_below (λ z. one x y z) k) k ≡ cond (head x) (second k x) 0
      second_is x =
          guarded (head x) (sum_below (λ y. sum_below (λ z. one x y z) k) k)
          (λ n. sum_of_none (λ y. sum_below (λ z. one x y z) k) (λ y. sum_of_none (λ z. one x y z) (λ z. no_head x y z n) k) k)
          ∙ ap (λ (s : ℕ). cond (head x) s 0)
          (same_sums (λ y. sum_below (λ z. one x y z) k) (λ y. cond (answer x y) (third k x y) 0) (third_is x) k)

      below_is : sum_below (λ x. sum_below (λ y. sum_below (λ z. one x y z) k) k) k ≡ guarded_below k
      unfolding guarded_below
      below_is = same_sums (λ x. sum_below (λ y. sum_below (λ z. one x y z) k) k) (λ x. cond (head x) (second k x) 0) second_is k

    pub counted_where : how_many good ≡ guarded_below 256
    unfolding how_many
    counted_where = below_is 256
