-- Question 5 of the receiving side, as facts: taken apart and put together; and the side after a request taken and after a pacing response.
-- Assumes nothing.
use Prim.Native.Nat.{ℕ, ◌+◌, ◌*◌, ◌≤◌}
use mathlib.Core.Path.{◌≡◌, sym, subst}
use mathlib.Core.Bool.{true, ◌&&◌}
use native.Mathlib.Omega.{arith}
use borrow.Author.Tests.{leb-true, le-leb}
use lib.Dec.{leb}
use Rattle.bools.proofs.Tests.{both, left, right, join}
use Rattle.logical_record.specs.Positions.{is_position}
use Rattle.logical_record.specs.declared.Position.{Position}
use Rattle.unit.specs.Maximum.{max_good}
use Rattle.unit.proofs.MaximumFacts.{MaxWithin, max_facts, max_good_lem}
use Rattle.pacing.specs.Pacing.{window_good, credit, has_credit, advanced}
use Rattle.pacing.proofs.Windows.{advanced_good, answered_good, request_costs, response_raises}
use Rattle.receiving.specs.Receiving.{inbox_good, receiving_good, request_received, may_answer_pacing, window_answered}
use Rattle.receiving.specs.declared.Receiving.{Receiving}

pub record ReceivingWithin (r : Receiving) : Type 0 where
  pub window : window_good r.window ≡ true
  pub max : MaxWithin r.max
  -- what is open, each request at its longest, has room behind the bytes held
  pub room : r.held + credit r.window * r.max ≤ r.inbox
  pub taken : is_position r.taken ≡ true
  pub read : is_position r.read ≡ true

pub receiving_facts : (r : Receiving) → receiving_good r ≡ true → ReceivingWithin r
unfolding receiving_good
receiving_facts r g =
    let w = both (window_good r.window) (max_good r.max && (inbox_good r && (is_position r.taken && is_position r.read))) g in
    let m = both (max_good r.max) (inbox_good r && (is_position r.taken && is_position r.read)) w.1 in
    let i = both (inbox_good r) (is_position r.taken && is_position r.read) m.1 in
    let p = both (is_position r.taken) (is_position r.read) i.1 in
    record {
      window = w.0;
      max = max_facts r.max m.0;
      room = leb-true (r.held + credit r.window * r.max) r.inbox i.0;
      taken = p.0;
      read = p.1;
    }

pub receiving_good_lem : (r : Receiving) → ReceivingWithin r → receiving_good r ≡ true
unfolding receiving_good
receiving_good_lem r w =
    join (window_good r.window) _ w.window
    (join (max_good r.max) _ (max_good_lem r.max w.max)
    (join (inbox_good r) _ (le-leb (r.held + credit r.window * r.max) r.inbox w.room)
    (join (is_position r.taken) (is_position r.read) w.taken w.read)))

-- open is lower by 1, and at most M bytes are held besides
room_less : (before after m held held' inbox : ℕ) → after + 1 ≡ before → held + before * m ≤ inbox → held' ≤ held + m → held' + after * m ≤ inbox
room_less before after m held held' inbox e r h =
    let r' : held + (after + 1) * m ≤ inbox = subst (λ (b : ℕ). held + b * m ≤ inbox) (sym e) r in
    omega arith

pub request_received_lem : (r : Receiving) (held : ℕ) (taken : Position) → has_credit r.window ≡ true → held ≤ r.held + r.max → is_position taken ≡ true
    → ReceivingWithin r → ReceivingWithin (request_received held taken r)
unfolding request_received
request_received_lem r held taken c h p w =
    record {
      window = advanced_good r.window w.window;
      max = w.max;
      room =
          room_less (credit r.window) (credit (advanced r.window)) r.max r.held held r.inbox (request_costs r.window w.window c) w.room h;
      taken = p;
      read = w.read;
    }

-- 11 has asked for the room
pub window_answered_lem : (r : Receiving) → may_answer_pacing r ≡ true → ReceivingWithin r → ReceivingWithin (window_answered r)
window_answered_lem r m i =
    let w = r.window in
    let asked = right w.pending (leb (r.held + (credit w + w.size) * r.max) r.inbox) m in
    let raised = response_raises w (left w.pending _ m) in
    record {
      window = answered_good w i.window;
      max = i.max;
      room =
          subst (λ (n : ℕ). r.held + n * r.max ≤ r.inbox) (sym raised)
          (leb-true (r.held + (credit w + w.size) * r.max) r.inbox asked);
      taken = i.taken;
      read = i.read;
    }
