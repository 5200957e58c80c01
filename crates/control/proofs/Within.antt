-- Question 5 of the finite part, as facts: taken apart and put together.
-- Assumes nothing.
use mathlib.Core.Path.{◌≡◌}
use mathlib.Core.Bool.{Bool, true, false, not, ◌&&◌, ◌||◌, and-false}
use Rattle.bools.proofs.Tests.{both, join, off, or_left, follows_from, not_true}
use Rattle.control.specs.StateTests.{is_first_speaker, is_send, is_receive, holds_send, is_nothing}
use Rattle.control.specs.Within.{mark_in_receive, due_in_send, bid_at_bidder, chain_in_send, error_in_send, control_good, may_hold}
use Rattle.control.specs.declared.Control.{Control}

pub record ControlWithin (c : Control) : Type 0 where
  pub mark : mark_in_receive c ≡ true
  pub due : due_in_send c ≡ true
  pub bid : bid_at_bidder c ≡ true
  pub chain : chain_in_send c ≡ true
  pub error : error_in_send c ≡ true

pub control_facts : (c : Control) → control_good c ≡ true → ControlWithin c
unfolding control_good
control_facts c g =
    let a = both (mark_in_receive c) (due_in_send c && (bid_at_bidder c && (chain_in_send c && error_in_send c))) g in
    let b = both (due_in_send c) (bid_at_bidder c && (chain_in_send c && error_in_send c)) a.1 in
    let d = both (bid_at_bidder c) (chain_in_send c && error_in_send c) b.1 in
    let f = both (chain_in_send c) (error_in_send c) d.1 in
    record { mark = a.0; due = b.0; bid = d.0; chain = f.0; error = f.1 }

pub control_good_lem : (c : Control) → ControlWithin c → control_good c ≡ true
unfolding control_good
control_good_lem c w =
    join (mark_in_receive c) _ w.mark
    (join (due_in_send c) _ w.due (join (bid_at_bidder c) _ w.bid (join (chain_in_send c) (error_in_send c) w.chain w.error)))

module _ (c : Control) (w : ControlWithin c) where
  -- outside Send and Defer the sending chain is closed
  pub closed_outside_send : holds_send c.state ≡ false → c.outchain ≡ false
  closed_outside_send s = off c.outchain (holds_send c.state) w.chain s

  -- BB-due is off outside Send and Defer, and at a bidder
  pub due_outside_send : holds_send c.state ≡ false → c.due ≡ false
  due_outside_send s = off c.due _ w.due (rw s (and-false (is_first_speaker c.role)))

  pub due_at_bidder : is_first_speaker c.role ≡ false → c.due ≡ false
  due_at_bidder s = off c.due _ w.due (rw s)

  -- no mark stands outside Receive
  pub unmarked_outside_receive : is_receive c.state ≡ false → is_nothing c.mark ≡ true
  unmarked_outside_receive s = or_left (is_nothing c.mark) (is_receive c.state) w.mark s

  -- an error is due in Send alone, and BB-due is off then
  pub error_outside_send : is_send c.state ≡ false → c.error ≡ false
  error_outside_send s = off c.error _ w.error (rw s)

  pub error_in_send_lem : c.error ≡ true → (is_send c.state ≡ true) × (c.due ≡ false)
  error_in_send_lem e =
      let p = both (is_send c.state) (not c.due) (follows_from c.error (is_send c.state && not c.due) w.error e) in
      (p.0, not_true c.due p.1)

-- ---- with the bytes held: `some` is whether there is one at least, `none` whether there is none

abbrev pub held_fits : Control → Bool → Bool → Bool
held_fits c some none = (not c.outchain || some) && (may_hold c || none)

abbrev pub within : Control → Bool → Bool → Bool
within c some none = control_good c && held_fits c some none
