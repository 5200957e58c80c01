-- `end::End::send_decision` meets its contract. It is refused, or the bytes are kept, or `spill_decision` lets one unit go.
-- Assumes nothing.
use mathlib.Core.Path.{sym, ◌∙◌}
use Prim.Native.Nat.{◌+◌}
use lib.ListN.{length}
use native.Mathlib.Omega.{arith}
use borrow.Author.Tests.{eq-eqb, leb-false}
use Rattle.answers.proofs.Outcomes.{passed}
use Rattle.end.specs.SendData.{bytes_kept, send_decision}
use Rattle.end.proofs.SendDataCells.{send_room}
use Rattle.end.proofs.End.send_decision.Goals as goal

pub returns-then-keeps : goal.returns-then-keeps
unfolding send_decision bytes_kept
returns-then-keeps c = λ cells h. rw (
  c.accepted.ensures,
  c.with_sending.ensures,
  c.kept-next.ensures,
  c.walk_given-walked.ensures,
  h,
  eq-eqb _ _ (passed c.in_default.is c.send_refusal.ensures),
  sym c.keeps.ensures ∙ c.if-keeps.true,
)

pub spill_decision-requires : goal.spill_decision-requires
spill_decision-requires c = let a = c.args in
    let r = send_room a.self a.bytes.now a.send a.unit (passed c.in_default.is c.send_refusal.ensures) in
    let past = leb-false (a.self.sending.held + length a.bytes.now) a.self.sending.max (sym c.keeps.ensures ∙ c.if-keeps.false) in
    (c.walk_given-walked.ensures, r.rules.held, past, r.most)

pub returns : goal.returns
unfolding send_decision
returns c = λ cells h.
    let a = c.args in
    let q = passed c.in_default.is c.send_refusal.ensures in
    let r = send_room a.self a.bytes.now a.send a.unit q in
    rw (h, eq-eqb _ _ q, sym c.keeps.ensures ∙ c.if-keeps.false)
    (c.spill_decision.ensures cells (omega (arith, r.in_send_lem, h)))
