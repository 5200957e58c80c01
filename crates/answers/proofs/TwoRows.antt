-- A row of questions in two parts, and what is so of every number that a row gives.
-- Assumes nothing.
use mathlib.Core.Path.{◌≡◌, refl, sym, subst}
use mathlib.Core.Bool.{Bool, true, false, not, cond, ◌&&◌}
use mathlib.Core.List.{List, [], ◌∷◌, ◌++◌}
use Prim.Native.Nat.{ℕ, suc}
use native.Mathlib.Omega.{arith}
use lib.ListN.{get_or}
use lib.Dec.{T, eqb}
use borrow.Author.Tests.{eq-eqb}
use Rattle.answers.specs.FirstNo.{first_no}
use Rattle.bools.proofs.Cases.{cases}
use Rattle.bools.proofs.Tests.{both, both_tt}
use Rattle.answers.proofs.Rows.{one, numbered, outcomes}

-- the first part is passed
pub pass : (xs ys : List (Bool × ℕ)) → ((k : ℕ) → get_or (outcomes xs) k true ≡ true) → first_no (xs ++ ys) ≡ first_no ys
pass [] ys t = refl
pass (q ∷ xs) ys t = rw (t 0) (pass xs ys (λ k. t (suc k)))

stop_one : (a : Bool) (x y n : ℕ) → (cond a x n ≡ 0 → ⊥) → ((x ≡ 0 → ⊥) → y ≡ x) → cond a y n ≡ cond a x n
stop_one true x y n h f = f h
stop_one false x y n h f = refl

-- the first part is not
pub stop : (xs ys : List (Bool × ℕ)) → (first_no xs ≡ 0 → ⊥) → first_no (xs ++ ys) ≡ first_no xs
stop [] ys h = absurd (h refl)
stop (q ∷ xs) ys h = stop_one q.0 (first_no xs) (first_no (xs ++ ys)) q.1 h (stop xs ys)

-- both parts are passed
pub pass_both : (xs ys : List (Bool × ℕ)) → T (numbered xs) → first_no (xs ++ ys) ≡ 0 → (first_no xs ≡ 0) × (first_no ys ≡ 0)
pass_both [] ys t e = (refl, e)
pass_both (q ∷ xs) ys t e =
    let n = both_tt (not (eqb q.1 0)) (numbered xs) t in
    let o = one q.0 (first_no (xs ++ ys)) q.1 n.0 e in
    let p = pass_both xs ys n.1 o.1 in
    (subst (λ (b : Bool). cond b (first_no xs) q.1 ≡ 0) (sym o.0) p.0, p.1)

-- every number that a row can give passes a test, and 0 does
abbrev pub all_given : (ℕ → Bool) → List (Bool × ℕ) → Bool
all_given p [] = p 0
all_given p (q ∷ qs) = p q.1 && all_given p qs

-- at a row that is written out, the test of its numbers is `refl`
pub given : (p : ℕ → Bool) (qs : List (Bool × ℕ)) → all_given p qs ≡ true → p (first_no qs) ≡ true
given p [] t = t
given p (q ∷ qs) t =
    let b = both (p q.1) (all_given p qs) t in
    cases (λ (n : ℕ). p n ≡ true) q.0 (λ y. given p qs b.1) (λ n. b.0)

-- no question of a row has the number n
abbrev pub lacks : ℕ → List (Bool × ℕ) → Bool
lacks n qs = all_given (λ (k : ℕ). not (eqb k n)) qs

differ : (m n : ℕ) → not (eqb m n) ≡ true → m ≡ n → ⊥
differ m n t e =
    let z : not true ≡ true = rw (eq-eqb m n e) at t in
    let o : ◌≡◌ {A = ℕ} 0 1 = cc in
    omega arith

pub never : (n : ℕ) (qs : List (Bool × ℕ)) → lacks n qs ≡ true → first_no qs ≡ n → ⊥
never n qs t e = differ (first_no qs) n (given (λ (k : ℕ). not (eqb k n)) qs t) e
