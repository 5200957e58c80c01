-- Questions before each call, in a row: the first "no" gives the number.
-- Assumes nothing.
use Rattle.std.specs.Prelude.{ℕ, Bool, true, cond, ◌&&◌, List, [], ◌∷◌, eqb}

-- 0 if every question is answered yes
abbrev pub first_no : List (Bool × ℕ) → ℕ
first_no [] = 0
first_no (q ∷ qs) = cond q.0 (first_no qs) q.1

-- the same, question by question from the first: one more is asked if those before it gave no number
unfoldable pub then_ask : ℕ → Bool → ℕ → ℕ
then_ask before ok number = cond (eqb before 0) (cond ok 0 number) before

-- every test of a row holds
abbrev pub all_of : List Bool → Bool
all_of [] = true
all_of (a ∷ []) = a
all_of (a ∷ b ∷ bs) = a && all_of (b ∷ bs)
