-- What the bounds of the maximum RU tell.
-- Assumes nothing.
use Rattle.std.proofs.Common.{◌≡◌, ℕ, ◌≤◌, true, leb, le-leb, leb-true}
use Rattle.bools.proofs.Tests.{both, join}
use Rattle.unit.specs.Maximum.{max_good}

pub record MaxWithin (m : ℕ) : Type 0 where
  pub least : 8 ≤ m
  pub most : m ≤ 1024

pub max_facts : (m : ℕ) → max_good m ≡ true → MaxWithin m
max_facts m g = let h = both (leb 8 m) (leb m 1024) g in record { least = leb-true 8 m h.0; most = leb-true m 1024 h.1 }

pub max_good_lem : (m : ℕ) → MaxWithin m → max_good m ≡ true
max_good_lem m w = join (leb 8 m) (leb m 1024) (le-leb 8 m w.least) (le-leb m 1024 w.most)
