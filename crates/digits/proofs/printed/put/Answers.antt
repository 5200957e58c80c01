-- `digits::printed::put` meets its contract. Text that does not fit leaves the cells as they were; else it is a copy into the part that starts at the place.
-- Assumes nothing.
use mathlib.Core.Path.{sym}
use native.Mathlib.Omega.{arith}
use Rattle.digits.proofs.Puts.{not_put, put_copied}
use Rattle.digits.proofs.printed.put.Goals as goal

pub returns-then-out-at : goal.returns-then-out-at
returns-then-out-at c = let a = c.args in sym (not_put a.text.now a.at a.out.now (omega arith))

pub returns-then-out-at-2 : goal.returns-then-out-at-2
returns-then-out-at-2 c = let a = c.args in sym (not_put a.text.now a.at a.out.now (omega arith))

pub returns : goal.returns
returns c =
    let a = c.args in
    let k = c.copy in
    put_copied a.text.now a.at a.out.now (omega arith) k.new.to k.ensures.cells
