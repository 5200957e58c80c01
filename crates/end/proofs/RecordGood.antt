-- Question 5, a record within its rules, as facts: taken apart and put together over its parts.
-- Assumes nothing.
use Prim.Native.Nat.{◌*◌, ◌≤◌}
use mathlib.Core.Path.{◌≡◌}
use mathlib.Core.Bool.{true, ◌&&◌}
use native.Mathlib.Nat.{le_trans, le-add_right}
use Rattle.bools.proofs.Tests.{both, join}
use Rattle.pacing.specs.Pacing.{credit}
use Rattle.control.specs.Within.{control_good}
use Rattle.control.proofs.Within.{ControlWithin, control_facts, control_good_lem}
use Rattle.sending.specs.Sending.{sending_good}
use Rattle.receiving.specs.Receiving.{receiving_good}
use Rattle.sending.proofs.SendingGood.{SendingWithin, HeldFits, sending_facts, sending_good_lem}
use Rattle.receiving.proofs.ReceivingGood.{ReceivingWithin, receiving_facts, receiving_good_lem}
use Rattle.end.specs.Record.{record_good}
use Rattle.end.specs.declared.End.{End}

pub record Within (e : End) : Type 0 where
  pub control : ControlWithin e.control
  pub fits : HeldFits e.control e.sending.held
  pub sending : SendingWithin e.sending
  pub receiving : ReceivingWithin e.receiving

pub facts : (e : End) → record_good e ≡ true → Within e
unfolding record_good
facts e g =
    let c = both (control_good e.control) (sending_good e.control e.sending && receiving_good e.receiving) g in
    let s = both (sending_good e.control e.sending) (receiving_good e.receiving) c.1 in
    let o = sending_facts e.control e.sending s.0 in
    record { control = control_facts e.control c.0; fits = o.1; sending = o.0; receiving = receiving_facts e.receiving s.1 }

pub good : (e : End) → Within e → record_good e ≡ true
unfolding record_good
good e w =
    join (control_good e.control) _ (control_good_lem e.control w.control)
    (join (sending_good e.control e.sending) (receiving_good e.receiving) (sending_good_lem e.control e.sending w.sending w.fits)
    (receiving_good_lem e.receiving w.receiving))

-- the bytes held stand in the inbox
pub held_in_inbox : (e : End) → record_good e ≡ true → e.receiving.held ≤ e.receiving.inbox
held_in_inbox e g =
    let r = e.receiving in
    le_trans (le-add_right r.held (credit r.window * r.max)) (facts e g).receiving.room
