-- `attach_header::parts::part_at` meets its contract.
-- Assumes nothing.
use native.Mathlib.Omega.{arith}
use borrow.Author.Tests.{le-leb, lt-leb}
use Rattle.attach_header.specs.Places.{part_at}
use Rattle.attach_header.proofs.parts.part_at.Goals as goal

pub returns-then-s-at : goal.returns-then-s-at
unfolding part_at
returns-then-s-at c = record {
  value = rw (le-leb _ _ c.if-s-at.true);
  start_le_end = (omega arith, omega arith);
}

pub returns-then-s-start : goal.returns-then-s-start
unfolding part_at
returns-then-s-start c = record {
  value = rw (lt-leb _ _ c.if-s-at.false, lt-leb _ _ c.if-s-start.true);
  start_le_end = (omega arith, omega arith);
}

pub returns : goal.returns
unfolding part_at
returns c = record {
  value = rw (lt-leb _ _ c.if-s-at.false, le-leb _ _ c.if-s-start.false);
  start_le_end = (omega arith, omega arith);
}
