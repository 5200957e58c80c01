-- `session::open_session` meets its contract. Refused, the record is of zeros; else the sizes fit its fields, by the questions passed.
-- Assumes nothing.
use native.Mathlib.Omega.{arith}
use borrow.Author.Tests.{eq-eqb, ne_eqb}
use Rattle.answers.proofs.Outcomes.{passed, stopped, not_passed}
use Rattle.session.specs.Opening.{opened}
use Rattle.session.proofs.OpeningFits.{opening_fits}
use Rattle.session.proofs.open_session.Goals as goal

pub returns-in-Err : goal.returns-in-Err
unfolding opened
returns-in-Err c =
    let q = c.opening_refusal.ensures in
    rw (c.refused.ensures, c.zero_end.ensures, stopped c.in-Err.is q c.into.ensures, ne_eqb _ _ (not_passed c.in-Err.is q))

pub overflow_cast-outmax : goal.overflow_cast-outmax
overflow_cast-outmax c =
    let a = c.args in
    let f = opening_fits a.session a.send a.unit a.inbox (passed c.in_default.is c.opening_refusal.ensures) in
    omega arith

pub overflow_cast-inmax : goal.overflow_cast-inmax
overflow_cast-inmax c =
    let a = c.args in
    let f = opening_fits a.session a.send a.unit a.inbox (passed c.in_default.is c.opening_refusal.ensures) in
    omega arith

pub overflow_cast-inbox : goal.overflow_cast-inbox
overflow_cast-inbox c =
    let a = c.args in
    let f = opening_fits a.session a.send a.unit a.inbox (passed c.in_default.is c.opening_refusal.ensures) in
    omega arith

pub returns : goal.returns
unfolding opened
returns c = rw (
  c.accepted.ensures,
  c.fresh_end.ensures,
  c.from.ensures,
  eq-eqb _ _ (passed c.in_default.is c.opening_refusal.ensures),
)
