-- A walk is between records again exactly at the end of a whole record.
-- Assumes nothing.
use mathlib.Core.Path.{◌≡◌, refl, sym, ap, ◌∙◌}
use mathlib.Core.Bool.{Bool, true, false, true≢false}
use mathlib.Core.List.{List, [], ◌∷◌}
use Prim.Native.Nat.{ℕ, ◌-◌, ◌≤◌}
use native.Mathlib.Omega.{arith}
use lib.Dec.{leb}
use lib.ListN.{length}
use lib.Seq.{drop-length}
use borrow.Author.Tests.{eqb-true, leb-true}
use Rattle.logical_record.specs.Length.{part, length_of}
use Rattle.logical_record.specs.Positions.{start, remaining, is_between}
use Rattle.logical_record.specs.Walk.{then_walk, walk}
use Rattle.logical_record.specs.DataAtOnce.{all_data, past_data}
use Rattle.logical_record.specs.Records.{says_length, is_record, part_more}
use Rattle.std.specs.Prelude.{Result, Ok, Err}
use Rattle.logical_record.specs.declared.BadLength.{BadLength}
use Rattle.logical_record.specs.declared.Length.{Length}
use Rattle.logical_record.specs.declared.Position.{Position}
use Rattle.logical_record.specs.declared.Position.TheVariants.{Between, AfterFirst, Remaining}
use Rattle.bools.proofs.Tests.{both}
use Rattle.logical_record.proofs.BytesLeft.{remaining_some}
use Rattle.logical_record.proofs.Walks.{walk_skip}

-- the walk ends within a record
pub record Inside (p : Position) (bs : List ℕ) : Type 0 where
  pub position : Position
  pub reached : walk p bs ≡ Ok position
  pub inside : is_between position ≡ false

-- ---- some of a record's bytes, and how many are then left

pub walk_data :
    (n : ℕ) (more : Bool) (bs : List ℕ) → length bs ≤ n → walk (remaining n more) bs ≡ Ok (remaining (n - length bs) more)
unfolding then_walk
walk_data n more bs h =
    walk_skip (length bs) n more bs h (omega arith)
    ∙ ap (λ (cs : List ℕ). walk (remaining (n - length bs) more) cs) (drop-length bs)

-- bytes that all belong to the record that is begun
pub walk_all_data : (p : Position) (bs : List ℕ) → all_data p (length bs) ≡ true → walk p bs ≡ Ok (past_data p (length bs))
walk_all_data (Between more) bs h = absurd (true≢false (sym h))
walk_all_data (AfterFirst high) bs h = absurd (true≢false (sym h))
walk_all_data (Remaining more n) bs h =
    let t = both (leb 1 n) (leb (length bs) n) h in
    rw (← remaining_some n more (leb-true 1 n t.0)) (walk_data n more bs (leb-true (length bs) n t.1))

-- from the first LL byte on
pub walk_after_first :
    (high low n : ℕ) (more : Bool) (bs : List ℕ)
    → length_of high low ≡ Ok (part n more)
    → length bs ≤ n - 2
    → walk (AfterFirst high) (low ∷ bs) ≡ Ok (remaining (n - 2 - length bs) more)
unfolding then_walk
walk_after_first high low n more bs g h = rw g (walk_data (n - 2) more bs h)

pub walk_front :
    (before : Bool) (high low n : ℕ) (more : Bool) (bs : List ℕ)
    → length_of high low ≡ Ok (part n more)
    → length bs ≤ n - 2
    → walk (Between before) (high ∷ low ∷ bs) ≡ Ok (remaining (n - 2 - length bs) more)
unfolding then_walk
walk_front before high low n more bs g h = walk_after_first high low n more bs g h

-- ---- a whole record

-- what its LL says
pub record Said (high low k : ℕ) : Type 0 where
  pub more : Bool
  pub says : length_of high low ≡ Ok (part k more)

said : (l : Result Length BadLength) (high low k : ℕ) → length_of high low ≡ l → says_length k l ≡ true → Said high low k
said (Ok l) high low k e h = record { more = l.more; says = e ∙ ap (λ (m : ℕ). Ok (part m l.more)) (sym (eqb-true k l.bytes h)) }
said (Err bad) high low k e h = cc

pub record_parts :
    (high low : ℕ) (bs : List ℕ) → is_record (high ∷ low ∷ bs) ≡ true → Said high low (length (high ∷ low ∷ bs))
record_parts high low bs h = said (length_of high low) high low (length (high ∷ low ∷ bs)) refl h

-- it ends between records, and its own bit is remembered there
pub record_ends : (r : List ℕ) → is_record r ≡ true → walk start r ≡ Ok (Between (part_more r))
record_ends [] h = cc
record_ends (high ∷ []) h = cc
record_ends (high ∷ low ∷ bs) h =
    let t = record_parts high low bs h in
    walk_front false high low (length (high ∷ low ∷ bs)) t.more bs t.says (omega arith)
    ∙ rw t.says (ap (λ (m : ℕ). Ok (remaining m t.more)) (let e : length (high ∷ low ∷ bs) - 2 - length bs ≡ 0 = omega arith in e))
