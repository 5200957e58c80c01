-- A walk past the bytes at the front of a list, as the code's patterns name them.
-- Assumes nothing.
use Rattle.std.proofs.Common.{◌≡◌, ℕ, ◌-◌, ◌≤◌, ◌<◌, min, max, Bool, List, [], ◌∷◌, length, get_or, take, drop, refl, sym, ap, ◌∙◌, arith, Ok, Err}
use Rattle.std.specs.Prelude.{Result, IsErr}
use Rattle.std.proofs.lemmas.List.{take_rest}
use Rattle.logical_record.specs.Length.{bad_length, length_of}
use Rattle.logical_record.specs.Positions.{remaining}
use Rattle.logical_record.specs.Walk.{passed, then_walk, walk}
use Rattle.logical_record.specs.declared.BadLength.{BadLength}
use Rattle.logical_record.specs.declared.Position.{Position}
use Rattle.logical_record.specs.declared.Position.TheVariants.{Between, AfterFirst, Remaining}
use Rattle.logical_record.proofs.Walks.{walk_skip_forged}

-- there is one error
pub err_is : (r : Result Position BadLength) → IsErr r → r ≡ Err bad_length
err_is (Ok p) h = cc
err_is (Err bad) h = refl

-- what stands behind the first byte
abbrev pub behind : List ℕ → List ℕ
behind s = take (length s - 1) (drop 1 s)

behind_first : (b : ℕ) (s : List ℕ) → behind (b ∷ s) ≡ s
behind_first b s = take_rest (b ∷ s) 1

-- no byte
pub walk_none : (p : Position) (s : List ℕ) → length s < 1 → walk p s ≡ Ok p
unfolding then_walk
walk_none p [] h = refl
walk_none p (b ∷ s) h = absurd (omega arith)

-- the first byte of LL, alone
pub walk_high :
    (p : Position) (more : Bool) (s : List ℕ)
    → p ≡ Between more
    → 1 ≤ length s
    → length (behind s) < 1
    → walk p s ≡ Ok (AfterFirst (get_or s 0 0))
unfolding then_walk
walk_high p more [] e h l = absurd (omega arith)
walk_high p more (b ∷ []) e h l = rw e
walk_high p more (b ∷ c ∷ s) e h l = absurd (let f = ap length (behind_first b (c ∷ s)) in omega arith)

-- the second byte of LL
pub walk_low :
    (p : Position) (w : Result Position BadLength) (high : ℕ) (s : List ℕ)
    → p ≡ AfterFirst high
    → 1 ≤ length s
    → w ≡ passed (length_of high (get_or s 0 0))
    → then_walk w (behind s) ≡ walk p s
unfolding then_walk
walk_low p w high [] e h f = absurd (omega arith)
walk_low p w high (b ∷ s) e h f = rw (e, f, behind_first b s)

-- both bytes of LL
pub walk_length :
    (p : Position) (w : Result Position BadLength) (more : Bool) (s : List ℕ)
    → p ≡ Between more
    → 1 ≤ length s
    → 1 ≤ length (behind s)
    → w ≡ passed (length_of (get_or s 0 0) (get_or (behind s) 0 0))
    → then_walk w (behind (behind s)) ≡ walk p s
unfolding then_walk
walk_length p w more [] e h l f = absurd (omega arith)
walk_length p w more (b ∷ s) e h l f =
    rw e (walk_low (AfterFirst b) w b (behind (b ∷ s)) refl l f ∙ ap (λ (t : List ℕ). walk (AfterFirst b) t) (behind_first b s))

-- a record's data
pub walk_jump :
    (p q : Position) (k n : ℕ) (more : Bool) (s : List ℕ)
    → p ≡ Remaining more n
    → 1 ≤ length s
    → k ≡ min (max 1 n) (length s)
    → q ≡ remaining (n - k) more
    → walk q (take (length s - k) (drop k s)) ≡ walk p s
walk_jump p q k n more s e h f g =
    rw (e, g, take_rest s k) (sym (walk_skip_forged k n more s (omega arith) (omega arith) (omega arith)))
