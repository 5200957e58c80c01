-- `end::End::send_data` meets its contract. Refused, the cells stay; kept, `keep` writes; else `send_full` writes a unit and the rest.
-- Assumes nothing.
use mathlib.Core.Path.{refl, sym, ap, ◌∙◌}
use native.Mathlib.Omega.{arith}
use lib.ListN.{length}
use Rattle.end.specs.declared.Done.{Done}
use Rattle.answers.specs.declared.Answer.{Answer}
use Rattle.end.specs.Outcome.{done_of}
use Rattle.end.specs.SendData.{send_decision, send_data}
use Rattle.end.proofs.SendDataCells.{send_sends, send_refused}
use Rattle.end.proofs.End.send_data.Goals as goal

pub returns-then-done-ne0 : goal.returns-then-done-ne0
unfolding send_data
returns-then-done-ne0 c = let a = c.args in
    let bytes = a.bytes.now in
    let send = a.send.now in
    let unit = a.unit.now in
    let e = c.send_decision-done.ensures send refl in
    let number = ap (λ (y : Done Answer). y.answer.refusal) e in
    let d = send_decision a.self bytes send (length unit) in
    let s = send_refused a.self bytes send unit (λ z. c.if-done-ne0.true (number ∙ z)) in
    rw e (λ i. record { done = done_of d; send = sym s.0 i; unit = sym s.1 i })

pub keep-requires : goal.keep-requires
keep-requires c = let a = c.args in
    let bytes = a.bytes.now in
    let send = a.send.now in
    let unit = a.unit.now in
    let e = c.send_decision-done.ensures send refl in
    let number = ap (λ (y : Done Answer). y.answer.refusal) e in
    let said = ap (λ (y : Done Answer). y.answer.unit) e in
    let s = send_sends a.self bytes send unit (sym number ∙ c.if-done-ne0.false) in
    omega (arith, (s.if_kept (sym said ∙ c.if-done-eq0.true)).0, s.room.in_send_lem)

pub returns-then-done-eq0 : goal.returns-then-done-eq0
unfolding send_data
returns-then-done-eq0 c = let a = c.args in
    let bytes = a.bytes.now in
    let send = a.send.now in
    let unit = a.unit.now in
    let e = c.send_decision-done.ensures send refl in
    let number = ap (λ (y : Done Answer). y.answer.refusal) e in
    let said = ap (λ (y : Done Answer). y.answer.unit) e in
    let s = send_sends a.self bytes send unit (sym number ∙ c.if-done-ne0.false) in
    let d = send_decision a.self bytes send (length unit) in
    let k = s.if_kept (sym said ∙ c.if-done-eq0.true) in
    rw (c.keep.ensures, e) (λ i. record { done = done_of d; send = sym k.1 i; unit = sym k.2 i })

pub overflow_sub-gone : goal.overflow_sub-gone
overflow_sub-gone c = let a = c.args in
    let bytes = a.bytes.now in
    let send = a.send.now in
    let unit = a.unit.now in
    let e = c.send_decision-done.ensures send refl in
    let number = ap (λ (y : Done Answer). y.answer.refusal) e in
    let s = send_sends a.self bytes send unit (sym number ∙ c.if-done-ne0.false) in
    omega (arith, s.room.rules.held)

pub send_full-requires : goal.send_full-requires
send_full-requires c = let a = c.args in
    let bytes = a.bytes.now in
    let send = a.send.now in
    let unit = a.unit.now in
    let e = c.send_decision-done.ensures send refl in
    let number = ap (λ (y : Done Answer). y.answer.refusal) e in
    let said = ap (λ (y : Done Answer). y.answer.unit) e in
    let s = send_sends a.self bytes send unit (sym number ∙ c.if-done-ne0.false) in
    let past = (s.if_gone (λ z. c.if-done-eq0.false (said ∙ z))).0 in
    let r = s.room in
    let h = r.rules.held in
    (omega (arith, h, r.in_send_lem), omega (arith, h, past), omega (arith, r.most, r.in_send_lem), omega (arith, h, r.in_unit))

pub returns : goal.returns
unfolding send_data
returns c = let a = c.args in
    let bytes = a.bytes.now in
    let send = a.send.now in
    let unit = a.unit.now in
    let e = c.send_decision-done.ensures send refl in
    let number = ap (λ (y : Done Answer). y.answer.refusal) e in
    let said = ap (λ (y : Done Answer). y.answer.unit) e in
    let s = send_sends a.self bytes send unit (sym number ∙ c.if-done-ne0.false) in
    let d = send_decision a.self bytes send (length unit) in
    let g = s.if_gone (λ z. c.if-done-eq0.false (said ∙ z)) in
    rw (c.send_full.ensures.cells, c.send_full.ensures.kept, c.data_header-header.ensures, e)
    (λ i. record { done = done_of d; send = sym g.1 i; unit = sym g.2 i })
