-- A list is its elements one by one, and a row of tests that holds holds at each.
-- Assumes nothing.
use mathlib.Core.Path.{◌≡◌, refl, ap, ◌∙◌}
use mathlib.Core.Bool.{Bool, true, false}
use mathlib.Core.List.{List, [], ◌∷◌}
use Prim.Native.Nat.{ℕ, zero, suc}
use lib.ListN.{length, get_or}
use Rattle.answers.specs.FirstNo.{all_of}
use Rattle.bools.proofs.Tests.{both}

-- n elements from `at` on; at numbers that are written out it computes to a list that is written out
abbrev pub listed : List ℕ → ℕ → ℕ → List ℕ
listed xs at zero = []
listed xs at (suc n) = get_or xs at 0 ∷ listed xs (suc at) n

past_head : (x : ℕ) (xs : List ℕ) (at n : ℕ) → listed (x ∷ xs) (suc at) n ≡ listed xs at n
past_head x xs at zero = refl
past_head x xs at (suc n) = ap (λ (l : List ℕ). get_or xs at 0 ∷ l) (past_head x xs (suc at) n)

pub listed_is : (xs : List ℕ) → listed xs 0 (length xs) ≡ xs
listed_is [] = refl
listed_is (x ∷ xs) = ap (λ (l : List ℕ). x ∷ l) (past_head x xs 0 (length xs) ∙ listed_is xs)

pub each : (bs : List Bool) → all_of bs ≡ true → (k : ℕ) → get_or bs k true ≡ true
each [] h k = refl
each (a ∷ []) h zero = h
each (a ∷ []) h (suc k) = refl
each (a ∷ b ∷ bs) h zero = (both a (all_of (b ∷ bs)) h).0
each (a ∷ b ∷ bs) h (suc k) = each (b ∷ bs) (both a (all_of (b ∷ bs)) h).1 k

-- one that does not hold fails the row
pub one_no : (bs : List Bool) (k : ℕ) → get_or bs k true ≡ false → all_of bs ≡ false
one_no [] k h = cc
one_no (a ∷ []) zero h = h
one_no (a ∷ []) (suc k) h = cc
one_no (a ∷ b ∷ bs) zero h = rw h
one_no (true ∷ b ∷ bs) (suc k) h = one_no (b ∷ bs) k h
one_no (false ∷ b ∷ bs) (suc k) h = refl
