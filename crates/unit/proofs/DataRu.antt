-- Data RUs that are as their header wants them (22): one as long as it may be, and the last of a chain.
-- Assumes nothing.
use Rattle.std.proofs.Common.{◌≡◌, ℕ, ◌≤◌, Bool, true, false, not, ◌&&◌, ◌||◌, eqb, leb, List, length, arith, le-leb}
use borrow.Author.Tests.{eqb-false}
use Rattle.bools.proofs.Cases.{split}
use Rattle.unit.specs.Ru.{marks, ru_good}
use Rattle.header.specs.declared.DataHeader.{DataHeader}
use Rattle.header.specs.declared.Header.TheVariants.{Data}

pub full_good : (m : ℕ) (d : DataHeader) (ru : List ℕ) → length ru ≡ m → 8 ≤ m → ru_good m (Data d) ru ≡ true
unfolding ru_good
full_good m d ru e h = rw (e, le-leb m m (omega arith), le-leb 1 m (omega arith))

pub last_good : (m n : ℕ) (d : DataHeader) (ru : List ℕ) → length ru ≡ n → n ≤ m → not (marks d.ends) && eqb n 0 ≡ false → ru_good m (Data d) ru ≡ true
unfolding ru_good
last_good m n d ru e h z = rw (e, le-leb n m h) (some (marks d.ends) z)
  where
    some : (b : Bool) → not b && eqb n 0 ≡ false → leb 1 n || b ≡ true
    some true w = split (leb 1 n) (λ y. rw y) (λ y. rw y)
    some false w =
        let f = eqb-false n 0 w in
        rw (le-leb 1 n (omega (arith, f)))
