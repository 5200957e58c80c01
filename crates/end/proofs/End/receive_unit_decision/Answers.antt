-- `End::receive_unit_decision` meets its contract: where the code stops, the row of questions stops, and only 21 names a rule.
-- Assumes nothing.
use mathlib.Core.Path.{◌≡◌}
use native.Mathlib.Omega.{arith}
use lib.ListN.{length}
use borrow.Author.Tests.{leb-true, ne_eqb}
use Rattle.answers.proofs.Outcomes.{passed, stopped, not_passed}
use Rattle.cells.proofs.PartLent.{part_is}
use Rattle.unit.specs.Unit.{number_in}
use Rattle.end.specs.Outcome.{refuse}
use Rattle.end.specs.ReceiveUnit.{header_received, ru_received}
use Rattle.end.specs.Kinds.{end_refusal, kind_decision}
use Rattle.end.proofs.RoomToReceive.{end_good}
use Rattle.end.proofs.UnitFacts.{read_good, read_short, read_broken}
use Rattle.end.proofs.ReceiveUnitRows.{take_short, take_broken, take_refused, take_unlooked, take_by_kind, unnamed, kind_not_21, end_not_21}
use Rattle.end.proofs.End.receive_unit_decision.Goals as goal

pub returns-in-Err : goal.returns-in-Err
returns-in-Err c = let a = c.args in
    let taken = a.taken.now in
    let q = c.end_refusal.ensures in
    let some : end_refusal a.self a.inbox a.unit ≡ 0 → ⊥ = not_passed c.in-Err.is q in
    rw (take_unlooked a.self taken a.inbox a.unit some)
    (unnamed taken c.refused.result (refuse (end_refusal a.self a.inbox a.unit) a.self)
    (rw (c.refused.ensures, stopped c.in-Err.is q c.into.ensures, ne_eqb (end_refusal a.self a.inbox a.unit) 0 some))
    (end_not_21 a.self a.inbox a.unit))

pub slice_bounds-kind_decision-count : goal.slice_bounds-kind_decision-count
slice_bounds-kind_decision-count c = let taken = c.args.taken.now in
    leb-true 5 (length taken) (read_good taken _ c.in-Ok.ensures).long

pub slice_bounds-kind_decision-start : goal.slice_bounds-kind_decision-start
slice_bounds-kind_decision-start c = let taken = c.args.taken.now in
    let h = leb-true 5 (length taken) (read_good taken _ c.in-Ok.ensures).long in
    omega arith

pub kind_decision-requires : goal.kind_decision-requires
kind_decision-requires c = let a = c.args in (end_good a.self a.inbox a.unit (passed c.in_default.is c.end_refusal.ensures)).1

pub returns-in-Ok : goal.returns-in-Ok
returns-in-Ok c = let a = c.args in
    let taken = a.taken.now in
    let g = read_good taken _ c.in-Ok.ensures in
    let asked = passed c.in_default.is c.end_refusal.ensures in
    rw (take_by_kind a.self taken a.inbox a.unit asked g.long g.good)
    (unnamed taken c.kind_decision.result (kind_decision a.self (header_received taken) (number_in taken) (ru_received taken))
    (rw (c.kind_decision.ensures, g.header_is, g.number_is, part_is))
    (kind_not_21 a.self (header_received taken) (number_in taken) (ru_received taken)))

pub returns-in-Err-TooShort : goal.returns-in-Err-TooShort
returns-in-Err-TooShort c = let a = c.args in
    let taken = a.taken.now in
    let s = read_short taken (rw c.in-Err-TooShort.field-0-is at c.in-Err-TooShort.ensures) in
    let asked = passed c.in_default.is c.end_refusal.ensures in
    rw (take_refused a.self taken a.inbox a.unit 20 (take_short a.self taken a.inbox a.unit asked s) (λ z. omega arith))
    (unnamed taken c.refused-in-Err-TooShort.result (refuse 20 a.self) c.refused-in-Err-TooShort.ensures (λ x. omega (arith, x)))

pub returns-in-Err-Breaks : goal.returns-in-Err-Breaks
returns-in-Err-Breaks c = let a = c.args in
    let taken = a.taken.now in
    let s = read_broken taken _ (rw c.in-Err-Breaks.field-0-is at c.in-Err-Breaks.ensures) in
    let asked = passed c.in_default.is c.end_refusal.ensures in
    let d = take_refused a.self taken a.inbox a.unit 21 (take_broken a.self taken a.inbox a.unit asked s.0 s.1) (λ z. omega arith) in
    rw (d, c.refuse_naming.ensures, c.rule_number.ensures, s.2)
