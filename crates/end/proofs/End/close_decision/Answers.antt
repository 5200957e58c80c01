-- `end::End::close_decision` meets its contract. It is refused, or nothing goes, or `last_decision` makes the unit of the bytes held.
-- Assumes nothing.
use mathlib.Core.Path.{sym, ◌∙◌}
use native.Mathlib.Omega.{arith}
use borrow.Author.Tests.{eq-eqb}
use Rattle.answers.proofs.Outcomes.{passed}
use Rattle.end.specs.Close.{close_decision}
use Rattle.end.proofs.RoomToWrite.{close_room}
use Rattle.end.proofs.End.close_decision.Goals as goal

pub returns : goal.returns
unfolding close_decision
returns c = λ cells h.
    let a = c.args in
    let q = passed c.in_default.is c.close_refusal.ensures in
    let r = close_room a.self a.follows a.confirm a.send a.unit q in
    rw (h, eq-eqb _ _ q, ← c.carried_out-follows.ensures, sym c.nothing_goes.ensures ∙ c.if-nothing_goes.false)
    (c.last_decision.ensures cells (omega (arith, r.in_send_lem, h)))
