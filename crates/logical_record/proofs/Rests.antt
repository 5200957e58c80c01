-- A read of at most the rest of the current record meets no bad LL, and ends the record exactly when it takes all of that rest.
-- Assumes nothing.
use mathlib.Core.Path.{◌≡◌, refl, sym, ap, ◌∙◌}
use mathlib.Core.Bool.{Bool, true, ◌&&◌, and-true, and-false}
use mathlib.Core.List.{List, [], ◌∷◌}
use Prim.Native.Nat.{ℕ, zero, suc, ◌-◌, ◌≤◌, ◌<◌}
use native.Mathlib.Omega.{arith}
use lib.ListN.{length, take}
use lib.Seq.{length-take-le}
use lib.Dec.{eqb, leb}
use borrow.Author.Tests.{ne_eqb, leb-true}
use Rattle.logical_record.specs.Length.{part, bad_length, length_of}
use Rattle.logical_record.specs.Positions.{remaining, most_remaining, is_position, is_between}
use Rattle.logical_record.specs.Walk.{passed, then_walk, walk}
use Rattle.logical_record.specs.RestOfRecord.{rest, rest_past, length_met}
use Rattle.std.specs.Prelude.{Result, Ok, Err}
use Rattle.logical_record.specs.declared.BadLength.{BadLength}
use Rattle.logical_record.specs.declared.Length.{Length}
use Rattle.logical_record.specs.declared.Position.{Position}
use Rattle.logical_record.specs.declared.Position.TheVariants.{Between, AfterFirst, Remaining}
use Rattle.logical_record.proofs.BytesLeft.{length_bounds, remaining_some, between_remaining, eqb_none}
use Rattle.logical_record.proofs.Walks.{walk_bad, at_not_bad}
use Rattle.logical_record.proofs.RecordEnds.{Inside, walk_data, walk_after_first, walk_front}
use Rattle.bools.proofs.Tests.{both}

-- what a rest that is a number of bytes says of LL
record LengthIs (high low k n : ℕ) : Type 0 where
  whole : ℕ
  more : Bool
  says : length_of high low ≡ Ok (part whole more)
  left : whole - k ≡ n

rest_is_good' : (l : Result Length BadLength) (high low k n : ℕ) → length_of high low ≡ l → rest_past k l ≡ Ok n → LengthIs high low k n
rest_is_good' (Ok l) high low k n g e = record { whole = l.bytes; more = l.more; says = g; left = cc }
rest_is_good' (Err bad) high low k n g e = cc

rest_is_good : (high low k n : ℕ) → rest_past k (length_of high low) ≡ Ok n → LengthIs high low k n
rest_is_good high low k n e = rest_is_good' (length_of high low) high low k n refl e

-- where a read of k of the n bytes of the rest leads
pub record ReadTo (p : Position) (held : List ℕ) (n k : ℕ) : Type 0 where
  pub position : Position
  pub reached : walk p (take k held) ≡ Ok position
  pub between : is_between position ≡ (eqb k n && length_met p held)

-- with m left after LL, of which j are read
read_data : (m j k n : ℕ) (more : Bool) → n - k ≡ m - j → k ≤ n → is_between (remaining (m - j) more) ≡ (eqb k n && true)
read_data m j k n more e h =
    between_remaining (m - j) more
    ∙ (ap (λ (i : ℕ). eqb i 0) (sym e) ∙ (eqb_none k n h ∙ sym (and-true (eqb k n))))

pub read_to :
    (p : Position) (held : List ℕ) (n k : ℕ) → rest p held ≡ Ok n → 0 < k → k ≤ n → k ≤ length held → ReadTo p held n k
unfolding then_walk
read_to (Between before) [] n k e some h l = absurd (omega arith)
read_to (Between before) (high ∷ []) n zero e some h l = absurd (omega arith)
read_to (Between before) (high ∷ []) n (suc zero) e some h l =
    record { position = AfterFirst high; reached = refl; between = sym (and-false (eqb 1 n)) }
read_to (Between before) (high ∷ []) n (suc (suc k)) e some h l = absurd (omega arith)
read_to (Between before) (high ∷ low ∷ bs) n zero e some h l = absurd (omega arith)
read_to (Between before) (high ∷ low ∷ bs) n (suc zero) e some h l =
    let t = rest_is_good high low 0 n e in
    let b = length_bounds high low t.whole t.more t.says in
    let f = t.left in
    record { position = AfterFirst high; reached = refl; between = rw (ne_eqb 1 n (λ g. omega arith)) }
read_to (Between before) (high ∷ low ∷ bs) n (suc (suc k)) e some h l =
    let t = rest_is_good high low 0 n e in
    let g = t.left in
    let f = length-take-le k bs (omega arith) in
    record {
      position = remaining (t.whole - 2 - length (take k bs)) t.more;
      reached = walk_front before high low t.whole t.more (take k bs) t.says (omega arith);
      between = read_data (t.whole - 2) (length (take k bs)) (suc (suc k)) n t.more (omega arith) h;
    }
read_to (AfterFirst high) [] n k e some h l = absurd (omega arith)
read_to (AfterFirst high) (low ∷ bs) n zero e some h l = absurd (omega arith)
read_to (AfterFirst high) (low ∷ bs) n (suc k) e some h l =
    let t = rest_is_good high low 1 n e in
    let g = t.left in
    let b = length_bounds high low t.whole t.more t.says in
    let f = length-take-le k bs (omega arith) in
    record {
      position = remaining (t.whole - 2 - length (take k bs)) t.more;
      reached = walk_after_first high low t.whole t.more (take k bs) t.says (omega arith);
      between = read_data (t.whole - 2) (length (take k bs)) (suc k) n t.more (omega arith) h;
    }
read_to (Remaining more m) held n k e some h l =
    let e' : m ≡ n = cc in
    let f = length-take-le k held l in
    record {
      position = remaining (m - length (take k held)) more;
      reached = rw (← remaining_some m more (omega arith)) (walk_data m more (take k held) (omega arith));
      between = read_data m (length (take k held)) k n more (omega arith) h;
    }

-- with fewer bytes read than the rest has, the record does not end
pub rest_inside :
    (p : Position) (held : List ℕ) (n k : ℕ)
    → rest p held ≡ Ok n
    → 0 < k
    → k < n
    → k ≤ length held
    → Inside p (take k held)
rest_inside p held n k e some h l =
    let t = read_to p held n k e some (omega arith) l in
    record { position = t.position; reached = t.reached; inside = t.between ∙ rw (ne_eqb k n (λ f. omega arith)) }

-- ---- how large a rest is

-- with a byte held, there is something to read
pub rest_some :
    (p : Position) (held : List ℕ) (n : ℕ) → is_position p ≡ true → 0 < length held → rest p held ≡ Ok n → 0 < n
rest_some (Between before) [] n v h e = absurd (omega arith)
rest_some (Between before) (high ∷ []) n v h e = let f : 1 ≡ n = cc in omega arith
rest_some (Between before) (high ∷ low ∷ bs) n v h e =
    let t = rest_is_good high low 0 n e in
    let b = length_bounds high low t.whole t.more t.says in
    let f = t.left in
    omega arith
rest_some (AfterFirst high) [] n v h e = absurd (omega arith)
rest_some (AfterFirst high) (low ∷ bs) n v h e =
    let t = rest_is_good high low 1 n e in
    let b = length_bounds high low t.whole t.more t.says in
    let f = t.left in
    omega arith
rest_some (Remaining more m) held n v h e =
    let f : m ≡ n = cc in
    let b = leb-true 1 m (both (leb 1 m) (leb m most_remaining) v).0 in
    omega arith

-- ---- bytes that walk have a rest

rest_bad' : (l : Result Length BadLength) (k : ℕ) → rest_past k l ≡ Err bad_length → passed l ≡ Err bad_length
rest_bad' (Ok l) k e = cc
rest_bad' (Err bad) k e = refl

pub rest_bad : (p : Position) (held : List ℕ) → rest p held ≡ Err bad_length → walk p held ≡ Err bad_length
unfolding then_walk
rest_bad (Between before) [] e = cc
rest_bad (Between before) (high ∷ []) e = cc
rest_bad (Between before) (high ∷ low ∷ bs) e = rw (rest_bad' (length_of high low) 0 e) (walk_bad bs)
rest_bad (AfterFirst high) [] e = cc
rest_bad (AfterFirst high) (low ∷ bs) e = rw (rest_bad' (length_of high low) 1 e) (walk_bad bs)
rest_bad (Remaining more n) held e = cc

pub record RestIs (p : Position) (held : List ℕ) : Type 0 where
  pub bytes : ℕ
  pub is : rest p held ≡ Ok bytes

rest_is_lem : (p q : Position) (held : List ℕ) (r : Result ℕ BadLength) → rest p held ≡ r → walk p held ≡ Ok q → RestIs p held
rest_is_lem p q held (Ok n) e f = record { bytes = n; is = e }
rest_is_lem p q held (Err bad) e f = absurd (at_not_bad q (sym f ∙ rest_bad p held e))

pub rest_walks : (p q : Position) (held : List ℕ) → walk p held ≡ Ok q → RestIs p held
rest_walks p q held f = rest_is_lem p q held (rest p held) refl f
