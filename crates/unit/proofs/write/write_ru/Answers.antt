-- `unit::write::write_ru` meets its contract. Two copies, the second right behind the first.
-- Assumes nothing.
use Rattle.unit.proofs.Writing.{two_copies}
use Rattle.unit.proofs.write.write_ru.Goals as goal

pub returns : goal.returns
returns c =
    let a = c.args in
    let one = c.copy-n in
    let two = c.copy in
    two_copies a.a.now a.b.now a.ru.now one.new.to two.new.to one.result one.ensures.count one.ensures.cells
    two.ensures.cells
