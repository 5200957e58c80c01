-- `end::End::receive` meets its contract. With nothing to copy both buffers stay; else `hand_over` moves as many bytes as were decided.
-- Assumes nothing.
use mathlib.Core.Path.{sym, ap, ◌∙◌}
use native.Mathlib.Omega.{arith}
use lib.ListN.{length}
use Rattle.cells.specs.Cells.{front}
use Rattle.end.specs.declared.Done.{Done}
use Rattle.answers.specs.declared.ReadAnswer.{ReadAnswer}
use Rattle.end.specs.Receive.{inbox_moved, receive}
use Rattle.end.proofs.ReceiveCells.{read_copies}
use Rattle.end.proofs.End.receive.Goals as goal

pub returns-then-done-eq0 : goal.returns-then-done-eq0
unfolding receive inbox_moved front
returns-then-done-eq0 c = let a = c.args in
    let e = c.receive_decision-done.ensures in
    let copied = ap (λ (y : Done ReadAnswer). y.answer.copied) e in
    rw (e, sym copied ∙ c.if-done-eq0.true)

pub hand_over-requires : goal.hand_over-requires
hand_over-requires c = let a = c.args in
    let e = c.receive_decision-done.ensures in
    let copied = ap (λ (y : Done ReadAnswer). y.answer.copied) e in
    let r = read_copies a.self a.inbox.now (length a.buffer.now) (λ z. c.if-done-eq0.false (copied ∙ z)) in
    (omega (arith, r.of_held, copied), r.held_in, omega (arith, r.in_buffer, copied))
