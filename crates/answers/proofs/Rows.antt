-- What a row of questions tells once it has passed.
-- Assumes nothing.
use mathlib.Core.Path.{◌≡◌, refl, subst}
use mathlib.Core.Bool.{Bool, true, false, not, cond, ◌&&◌}
use mathlib.Core.List.{List, [], ◌∷◌}
use Prim.Native.Nat.{ℕ, zero, suc}
use lib.ListN.{get_or}
use lib.Dec.{T, eqb}
use borrow.Author.Tests.{ne_eqb}
use Rattle.bools.proofs.Tests.{both_tt}
use Rattle.answers.specs.FirstNo.{first_no, then_ask}

-- no question has the number 0, which says that a call is accepted
abbrev pub numbered : List (Bool × ℕ) → Bool
numbered [] = true
numbered (q ∷ qs) = not (eqb q.1 0) && numbered qs

abbrev pub outcomes : List (Bool × ℕ) → List Bool
outcomes [] = []
outcomes (q ∷ qs) = q.0 ∷ outcomes qs

pub one : (a : Bool) (rest n : ℕ) → T (not (eqb n 0)) → cond a rest n ≡ 0 → (a ≡ true) × (rest ≡ 0)
one true rest n t e = (refl, e)
one false rest n t e = absurd (subst (λ (k : ℕ). T (not (eqb k 0))) e t)

-- an accepted call: every question was answered yes. At a row that is written out, the test of its numbers is `tt`; past the row's
-- end the answer is yes too, so that no bound is asked
pub yes : (qs : List (Bool × ℕ)) → T (numbered qs) → first_no qs ≡ 0 → (k : ℕ) → get_or (outcomes qs) k true ≡ true
yes [] t e k = refl
yes (q ∷ qs) t e k =
    let p = both_tt (not (eqb q.1 0)) (numbered qs) t in
    let o = one q.0 (first_no qs) q.1 p.0 e in
    at_place q.0 (outcomes qs) k o.0 (yes qs p.1 o.1)
  where
    at_place : (a : Bool) (bs : List Bool) (k : ℕ) → a ≡ true → ((j : ℕ) → get_or bs j true ≡ true) → get_or (a ∷ bs) k true ≡ true
    at_place a bs zero h f = h
    at_place a bs (suc k) h f = f k

-- a row asked from its first question to its last, as `first_no::then_ask` asks it
abbrev pub asked : ℕ → List (Bool × ℕ) → ℕ
asked before [] = before
asked before (q ∷ qs) = asked (then_ask before q.0 q.1) qs

-- a number once given stands
stands : (n : ℕ) (qs : List (Bool × ℕ)) → (n ≡ 0 → ⊥) → asked n qs ≡ n
unfolding then_ask
stands n [] z = refl
stands n (q ∷ qs) z = rw (ne_eqb n 0 z) (stands n qs z)

first_asked : (a : Bool) (n : ℕ) (qs : List (Bool × ℕ)) → T (not (eqb n 0)) → asked 0 qs ≡ first_no qs
    → asked (then_ask 0 a n) qs ≡ cond a (first_no qs) n
unfolding then_ask
first_asked true n qs t h = h
first_asked false n qs t h = stands n qs (λ z. subst (λ (k : ℕ). T (not (eqb k 0))) z t)

-- no question has the number 0, so the row gives its first "no"
pub in_order : (qs : List (Bool × ℕ)) → T (numbered qs) → asked 0 qs ≡ first_no qs
in_order [] t = refl
in_order (q ∷ qs) t =
    let p = both_tt (not (eqb q.1 0)) (numbered qs) t in
    first_asked q.0 q.1 qs p.0 (in_order qs p.1)
