-- Walks: over two lists one after the other, over a part of what walks, past the data of a record at once, and where they lead.
-- Assumes nothing.
use mathlib.Core.Path.{◌≡◌, refl, sym, ap, ◌∙◌}
use mathlib.Core.Bool.{Bool, true}
use mathlib.Core.List.{List, [], ◌∷◌, ◌++◌}
use Prim.Native.Nat.{ℕ, zero, suc, ◌-◌, ◌≤◌, ◌<◌}
use native.Mathlib.Omega.{arith}
use lib.ListN.{length, get_or, drop}
use lib.Dec.{leb}
use borrow.Author.Tests.{le-leb, leb-true}
use Rattle.logical_record.specs.Length.{bad_length, length_of}
use Rattle.logical_record.specs.Positions.{remaining, after_length, is_position}
use Rattle.logical_record.specs.Walk.{passed, step, then_walk, walk}
use Rattle.std.specs.Prelude.{Result, Ok, Err}
use Rattle.logical_record.specs.declared.BadLength.{BadLength}
use Rattle.logical_record.specs.declared.Length.{Length}
use Rattle.logical_record.specs.declared.Position.{Position}
use Rattle.logical_record.specs.declared.Position.TheVariants.{Between, AfterFirst, Remaining}
use Rattle.logical_record.proofs.BytesLeft.{length_bounds, remaining_some, remaining_position}
use Rattle.bools.proofs.Tests.{both}

-- ---- two lists, one after the other

pub walk_bad : (bs : List ℕ) → then_walk (Err bad_length) bs ≡ Err bad_length
unfolding then_walk
walk_bad [] = refl
walk_bad (b ∷ bs) = refl

pub then_walk_append : (w : Result Position BadLength) (a b : List ℕ) → then_walk w (a ++ b) ≡ then_walk (then_walk w a) b
unfolding then_walk
then_walk_append w [] b = refl
then_walk_append (Ok p) (x ∷ a) b = then_walk_append (step p x) a b
then_walk_append (Err bad) (x ∷ a) b = sym (walk_bad b)

pub walk_append : (p : Position) (a b : List ℕ) → walk p (a ++ b) ≡ then_walk (walk p a) b
walk_append p a b = then_walk_append (Ok p) a b

-- the answer is one of the two, and not both
pub at_not_bad : (p : Position) → Ok p ≡ Err bad_length → ⊥
at_not_bad p e = cc

pub same_position : (p q : Position) → ◌≡◌ {A = Result Position BadLength} (Ok p) (Ok q) → p ≡ q
same_position p q e = cc

-- ---- a part of what walks

-- a walk over a, then b, passes a record place between them
pub record Through (p : Position) (a b : List ℕ) (q : Position) : Type 0 where
  pub middle : Position
  pub first : walk p a ≡ Ok middle
  pub second : walk middle b ≡ Ok q

through : (w : Result Position BadLength) (p : Position) (a b : List ℕ) (q : Position) → walk p a ≡ w → then_walk w b ≡ Ok q → Through p a b q
through (Ok m) p a b q e f = record { middle = m; first = e; second = f }
through (Err bad) p a b q e f = absurd (at_not_bad q (sym f ∙ walk_bad b))

pub walk_prefix : (p q : Position) (a b : List ℕ) → walk p (a ++ b) ≡ Ok q → Through p a b q
walk_prefix p q a b h = through (walk p a) p a b q refl (sym (walk_append p a b) ∙ h)

-- ---- the data of a record, at once

-- the numbers of bytes left are equal
left_same : (m n : ℕ) (more : Bool) (bs : List ℕ) → m ≡ n → walk (remaining m more) bs ≡ walk (remaining n more) bs
left_same m n more bs e = ap (λ (k : ℕ). walk (remaining k more) bs) e

pub walk_skip :
    (k n : ℕ) (more : Bool) (bs : List ℕ)
    → k ≤ n
    → k ≤ length bs
    → walk (remaining n more) bs ≡ walk (remaining (n - k) more) (drop k bs)
unfolding then_walk
walk_skip zero n more bs h l = left_same n (n - 0) more bs (omega arith)
walk_skip (suc k) n more [] h l = absurd (omega arith)
walk_skip (suc k) n more (b ∷ bs) h l =
    rw (remaining_some n more (omega arith))
    (walk_skip k (n - 1) more bs (omega arith) (omega arith) ∙ left_same (n - 1 - k) (n - suc k) more (drop k bs) (omega arith))

-- one byte ends a forged record with none left, as `step` has it
pub walk_skip_forged :
    (k n : ℕ) (more : Bool) (bs : List ℕ)
    → 1 ≤ k
    → k - 1 ≤ n - 1
    → k ≤ length bs
    → walk (Remaining more n) bs ≡ walk (remaining (n - k) more) (drop k bs)
unfolding then_walk
walk_skip_forged zero n more bs one h l = absurd (omega arith)
walk_skip_forged (suc k) n more [] one h l = absurd (omega arith)
walk_skip_forged (suc k) n more (b ∷ bs) one h l =
    walk_skip k (n - 1) more bs (omega arith) (omega arith) ∙ left_same (n - 1 - k) (n - suc k) more (drop k bs) (omega arith)

-- ---- where walks lead

passed_position : (l : Result Length BadLength) (high b : ℕ) (q : Position) → length_of high b ≡ l → passed l ≡ Ok q → is_position q ≡ true
passed_position (Ok l) high b q g e =
    rw (← same_position (after_length l.bytes l.more) q e)
    (remaining_position (l.bytes - 2) l.more (let t = length_bounds high b l.bytes l.more g in omega arith))
passed_position (Err bad) high b q g e = absurd (at_not_bad q (sym e))

step_position : (p q : Position) (b : ℕ) → is_position p ≡ true → b < 256 → step p b ≡ Ok q → is_position q ≡ true
step_position (Between more) q b v l e = rw (← same_position (AfterFirst b) q e) (le-leb b 255 (omega arith))
step_position (AfterFirst high) q b v l e = passed_position (length_of high b) high b q refl e
step_position (Remaining more n) q b v l e =
    rw (← same_position (remaining (n - 1) more) q e)
    (remaining_position (n - 1) more (let t = leb-true n 32765 (both (leb 1 n) (leb n 32765) v).1 in omega arith))

pub walk_position :
    (p q : Position) (bs : List ℕ)
    → is_position p ≡ true
    → ((k : ℕ) → get_or bs k 0 < 256)
    → walk p bs ≡ Ok q
    → is_position q ≡ true
unfolding then_walk
walk_position p q [] v f e = rw (← same_position p q e) v
walk_position p q (b ∷ bs) v f e =
    let t = walk_prefix p q (b ∷ []) bs e in
    walk_position t.middle q bs (step_position p t.middle b v (f 0) t.first) (λ k. f (suc k)) t.second
