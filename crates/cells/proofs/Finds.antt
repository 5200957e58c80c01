-- Where a byte first stands, by the places that are known not to hold it, and as `position` finds it.
-- Assumes nothing.
use Rattle.std.proofs.Common.{◌≡◌, ◌≢◌, ℕ, zero, suc, ◌+◌, ◌<◌, ◌≤◌, Bool, true, false, cond, not, List, [], ◌∷◌, length, get_or, ltb, refl, ap, arith, eq-eqb, ne_eqb, ◌==◌}
use Rattle.std.proofs.lemmas.List.Sums.{prefix_len-le-length}
use Rattle.std.specs.Prelude.{Some, None, unwrap_or, position}
use Rattle.std.specs.List.{position_or_len}
use borrow.Author.Tests.{ltb-false}
use Rattle.cells.specs.Found.{index_of}

pub index_of_is : (b : ℕ) (xs : List ℕ) (n : ℕ) → n ≤ length xs → ((k : ℕ) → k < n → get_or xs k 0 ≢ b) → (n < length xs → get_or xs n 0 ≡ b) → index_of b xs ≡ n
unfolding index_of
index_of_is b [] n within none found = omega arith
index_of_is b (x ∷ xs) zero within none found = rw (eq-eqb x b (found (omega arith))) refl
index_of_is b (x ∷ xs) (suc n) within none found =
    let ne : x ≢ b = none 0 (omega arith) in
    rw (ne_eqb x b ne)
    (ap suc (index_of_is b xs n (omega arith) (λ k h. none (suc k) (omega arith)) (λ h. found (omega arith))))

past_one : (t : Bool) (n : ℕ) → cond (not t) (1 + n) 0 ≡ cond t 0 (suc n)
past_one true n = refl
past_one false n = omega arith

-- the first that passes, or the length
first_or_length : (b : ℕ) (xs : List ℕ) → position_or_len (λ x. x == b) xs ≡ index_of b xs
unfolding index_of
first_or_length b [] = refl
first_or_length b (x ∷ xs) = rw (first_or_length b xs) (past_one (x == b) (index_of b xs))

at_most : (t : Bool) (k n : ℕ) → ltb k n ≡ t → k ≤ n → unwrap_or (cond t (Some k) None) n ≡ k
at_most true k n e h = refl
at_most false k n e h = let l = ltb-false k n e in omega arith

pub index_of_position : (b : ℕ) (xs : List ℕ) → unwrap_or (position (λ x. x == b) xs) (length xs) ≡ index_of b xs
index_of_position b xs =
    let k : ℕ = position_or_len (λ x. x == b) xs in
    rw (← first_or_length b xs) (at_most (ltb k (length xs)) k (length xs) refl (prefix_len-le-length (λ x. not (x == b)) xs))
