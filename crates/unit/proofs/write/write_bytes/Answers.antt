-- `unit::write::write_bytes` meets its contract. A unit that does not fit leaves the cells as they were; else the heading and the RU are one unit at the front.
-- Assumes nothing.
use Rattle.std.proofs.Common.{arith}
use Rattle.unit.proofs.Writing.{not_made, made}
use Rattle.unit.proofs.write.write_bytes.Goals as goal

pub returns-then-unit-lt-RU_START : goal.returns-then-unit-lt-RU_START
returns-then-unit-lt-RU_START c = let a = c.args in record { length = (not_made a.number a.h a.a.now a.b.now a.unit.now (omega arith)).0; cells = (not_made a.number a.h a.a.now a.b.now a.unit.now (omega arith)).1 }

pub returns-then-unit-ru : goal.returns-then-unit-ru
returns-then-unit-ru c = let a = c.args in record { length = (not_made a.number a.h a.a.now a.b.now a.unit.now (omega arith)).0; cells = (not_made a.number a.h a.a.now a.b.now a.unit.now (omega arith)).1 }

pub returns : goal.returns
returns c =
    let a = c.args in
    let one = c.write_heading in
    let two = c.write_ru in
    record { length = (made a.number a.h a.a.now a.b.now a.unit.now one.new.unit two.new.ru (omega arith) one.ensures two.ensures).0; cells = (made a.number a.h a.a.now a.b.now a.unit.now one.new.unit two.new.ru (omega arith) one.ensures two.ensures).1 }
