-- What an outcome tells of the row that gave it: the row is passed, or its first no gives a reason's number, which is never 0.
-- Assumes nothing.
use mathlib.Core.Path.{◌≡◌, refl, ◌∙◌}
use mathlib.Core.Bool.{Bool, true, false, cond}
use Prim.Native.Nat.{ℕ}
use native.Mathlib.Omega.{arith}
use borrow.Author.Tests.{ne_eqb}
use Rattle.std.specs.Prelude.{⊤, Result, Ok, Err}
use Rattle.answers.specs.FirstNo.{then_ask}
use Rattle.answers.specs.Refusals.{refusal_number, asked, asked_after, outcome_number}
use Rattle.answers.specs.declared.refusals.Refusal.{Refusal}

pub reason_not_0 : (why : Refusal) → refusal_number why ≡ 0 → ⊥
reason_not_0 why z = grind arith

pub passed : {r : Result ⊤ Refusal} {u : ⊤} {n : ℕ} → r ≡ Ok u → outcome_number r ≡ n → n ≡ 0
passed e h = rw (← h, e)

-- the reason's number is the row's
pub stopped : {r : Result ⊤ Refusal} {why : Refusal} {n k : ℕ} → r ≡ Err why → outcome_number r ≡ n → k ≡ refusal_number why → k ≡ n
stopped e h f = rw (f, ← h, e)

pub not_passed : {r : Result ⊤ Refusal} {why : Refusal} {n : ℕ} → r ≡ Err why → outcome_number r ≡ n → n ≡ 0 → ⊥
not_passed {why = why} e h z = reason_not_0 why (stopped e h refl ∙ z)

-- a question that does not stop the row was answered yes
pub yes_asked : (ok : Bool) (why : Refusal) {u : ⊤} {r : Result ⊤ Refusal} → r ≡ Ok u → r ≡ asked ok why → ok ≡ true
yes_asked true why e h = refl
yes_asked false why e h = grind arith

pub one_asked : (ok : Bool) (why : Refusal) → outcome_number (asked ok why) ≡ cond ok 0 (refusal_number why)
one_asked true why = refl
one_asked false why = refl

-- a question behind others is the step of a row: a number given before stands, and after none this question decides
pub as_then_ask : (before : Result ⊤ Refusal) (ok : Bool) (why : Refusal)
    → outcome_number (asked_after before ok why) ≡ then_ask (outcome_number before) ok (refusal_number why)
unfolding then_ask
as_then_ask (Ok _) ok why = one_asked ok why
as_then_ask (Err before) ok why = rw (ne_eqb (refusal_number before) 0 (reason_not_0 before))
