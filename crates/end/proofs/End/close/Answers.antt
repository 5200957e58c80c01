-- `end::End::close` meets its contract. Where the decision says no unit, the cells stay; else `write_made` writes the error header if it is due, and
-- `send_held` the bytes held.
-- Assumes nothing.
use mathlib.Core.Path.{refl, sym, ap, ◌∙◌}
use mathlib.Core.Bool.{true, false}
use mathlib.Core.List.{List}
use Prim.Native.Nat.{ℕ}
use lib.ListN.{length}
use Rattle.header.specs.declared.ChainEnd.TheVariants.{Last}
use Rattle.header.specs.declared.Header.TheVariants.{ErrorDescription}
use Rattle.pacing.specs.Pacing.{paced}
use Rattle.unit.specs.Ru.{error_ru}
use Rattle.end.specs.declared.Done.{Done}
use Rattle.answers.specs.declared.Answer.{Answer}
use Rattle.end.specs.Requests.{data_header}
use Rattle.end.specs.SendData.{held_bytes}
use Rattle.end.specs.Outcome.{Out, cells_out, done_of}
use Rattle.end.specs.Results.{made_by}
use Rattle.end.specs.Close.{closing, last_header, last_ru, close_decision, close}
use Rattle.end.proofs.DecisionCells.{stays, goes, wrote}
use Rattle.end.proofs.UnitsMade.{close_makes, close_makes_if, close_goes}
use Rattle.end.proofs.End.close.Goals as goal

pub returns-then-done-eq0 : goal.returns-then-done-eq0
unfolding close
returns-then-done-eq0 c = let a = c.args in
    let send = a.send.now in
    let unit = a.unit.now in
    let d = close_decision a.self a.follows a.confirm send (length unit) in
    let e = c.close_decision-done.ensures send refl in
    let said = ap (λ (y : Done Answer). y.answer.unit) e in
    let m = close_makes a.self a.follows a.confirm send (length unit) in
    let o = stays d d.end.sending.number (last_header a.self (closing a.self a.follows) a.confirm) (last_ru a.self send) (length unit) m (sym said ∙ c.if-done-eq0.true) in
    rw e (sym (ap (λ (x : Out). made_by (done_of d) (cells_out x unit)) o))

pub returns-then-self : goal.returns-then-self
unfolding close
returns-then-self c = let a = c.args in
    let send = a.send.now in
    let unit = a.unit.now in
    let d = close_decision a.self a.follows a.confirm send (length unit) in
    let m = close_makes_if a.self a.follows a.confirm send (length unit) true c.if-self.true in
    rw (
      c.write_made.ensures,
      c.paced.ensures,
      c.close_decision-done.ensures send refl,
    )
    (ap (λ (cells : List ℕ). made_by (done_of d) cells) (wrote d d.end.sending.number (ErrorDescription (paced a.self.sending.window)) error_ru unit m))

pub send_held-requires : goal.send_held-requires
send_held-requires c = let a = c.args in
    let send = a.send.now in
    let unit = a.unit.now in
    let d = close_decision a.self a.follows a.confirm send (length unit) in
    let e = c.close_decision-done.ensures send refl in
    let said = ap (λ (y : Done Answer). y.answer.unit) e in
    let r = close_goes a.self a.follows a.confirm send (length unit) (λ z. c.if-done-eq0.false (said ∙ z)) in
    (r.in_send_lem, r.in_unit)

pub returns : goal.returns
unfolding close
returns c = let a = c.args in
    let send = a.send.now in
    let unit = a.unit.now in
    let d = close_decision a.self a.follows a.confirm send (length unit) in
    let e = c.close_decision-done.ensures send refl in
    let said = ap (λ (y : Done Answer). y.answer.unit) e in
    let m = close_makes_if a.self a.follows a.confirm send (length unit) false c.if-self.false in
    let o = goes d d.end.sending.number (data_header a.self (Last (closing a.self a.follows) a.confirm)) (held_bytes a.self send) (length unit) m
    (λ z. c.if-done-eq0.false (said ∙ z)) in
    rw (
      c.send_held.ensures,
      c.data_header-header.ensures,
      c.carried_out-follows.ensures,
      e,
    )
    (sym (ap (λ (x : Out). made_by (done_of d) (cells_out x unit)) o.0))
