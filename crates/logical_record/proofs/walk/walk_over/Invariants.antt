-- `logical_record::walk::walk_over` meets its contract. The loop's invariant: the walk over the bytes left leads where the whole walk leads.
-- The measure is the number of bytes left.
-- Assumes nothing.
use Rattle.std.proofs.Common.{◌≡◌, length}
use Rattle.logical_record.specs.Walk.{walk}
use Rattle.logical_record.proofs.walk.walk_over.Given as goal

abbrev pub invariant-loop-left : goal.invariant-loop-left
invariant-loop-left l = walk l.position l.left ≡ walk l.fn.from l.fn.bytes

abbrev pub decreases-loop-left : goal.decreases-loop-left
decreases-loop-left l = length l.left
