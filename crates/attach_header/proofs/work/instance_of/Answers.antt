-- `attach_header::work::instance_of` meets its contract.
-- Assumes nothing.
use mathlib.Core.Path.{sym}
use native.Mathlib.Omega.{arith}
use lib.ListN.{take, replicate, length-take}
use lib.Seq.{length-take-le}
use Rattle.cells.proofs.Copies.{copy_front}
use Rattle.attach_header.proofs.work.instance_of.Goals as goal

pub slice_bounds-copy-end : goal.slice_bounds-copy-end
slice_bounds-copy-end c = sym (length-take-le 6 c.args.numbers.now (omega arith))

pub copy-requires : goal.copy-requires
copy-requires c = let t = length-take 6 c.args.numbers.now in omega (arith, t)

pub returns : goal.returns
returns c = copy_front (take 6 c.args.numbers.now) (replicate 6 0) c.copy.new.to c.copy.ensures.cells
