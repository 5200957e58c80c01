-- `receiving::bytes_read::hand_over` meets its contract. A copy to the front of the buffer, then a move to the front within the cells held.
-- Assumes nothing.
use native.Mathlib.Omega.{arith}
use lib.ListN.{take, drop, length-drop}
use lib.Seq.{length-take-le}
use Rattle.cells.proofs.Copies.{copy_front, front_within}
use Rattle.receiving.proofs.bytes_read.hand_over.Goals as goal

pub returns-clause-copied : goal.returns-clause-copied
returns-clause-copied c =
    let a = c.args in
    copy_front (take a.k a.inbox.now) a.buffer.now c.copy.new.to c.copy.ensures.cells

pub returns-clause-moved : goal.returns-clause-moved
returns-clause-moved c =
    let a = c.args in
    let h = c.requires.1 in
    let part = take a.held a.inbox.now in
    front_within a.held (drop a.k part) a.inbox.now c.move_to_front.new.a h
    (omega (arith, length-drop a.k part, length-take-le a.held a.inbox.now h)) c.move_to_front.ensures
