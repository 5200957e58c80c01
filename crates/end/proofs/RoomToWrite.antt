-- A call whose questions were all answered yes: what it writes has room.
-- Assumes nothing.
use Prim.Native.Nat.{ℕ, ◌+◌, ◌≤◌}
use mathlib.Core.Path.{◌≡◌}
use mathlib.Core.Bool.{Bool, true}
use native.Mathlib.Omega.{arith}
use borrow.Author.Tests.{leb-true}
use Rattle.header.specs.declared.Follows.{Follows}
use Rattle.answers.proofs.Rows.{yes}
use Rattle.end.specs.Record.{record_good, send_lent, unit_lent}
use Rattle.end.specs.Allocate.{allocate_questions, allocate_refusal}
use Rattle.end.specs.Confirmed.{confirmed_questions, confirmed_refusal}
use Rattle.end.specs.Close.{close_questions, close_refusal}
use Rattle.end.specs.SendPacingResponse.{send_pacing_response_questions, send_pacing_response_refusal}
use Rattle.end.proofs.RecordGood.{facts}
use Rattle.end.specs.declared.End.{End}
use Rattle.bools.proofs.Tests.{both}

-- the longest unit that holds no data, an error header, has twelve bytes: M is at least 8
pub fixed_room : (e : End) (n : ℕ) → unit_lent e n ≡ true → record_good e ≡ true → 12 ≤ n
fixed_room e n u g =
    let l = leb-true (e.sending.max + 5) n u in
    let s = (facts e g).sending in
    omega arith

pub allocate_room : (e : End) (n : ℕ) → allocate_refusal e n ≡ 0 → 12 ≤ n
unfolding allocate_refusal
allocate_room e n h = let t = yes (allocate_questions e n) tt h in fixed_room e n (t 0) (t 1)

pub confirmed_room : (e : End) (n : ℕ) → confirmed_refusal e n ≡ 0 → 12 ≤ n
unfolding confirmed_refusal
confirmed_room e n h = let t = yes (confirmed_questions e n) tt h in fixed_room e n (t 0) (t 1)

pub pacing_response_room : (e : End) (n : ℕ) → send_pacing_response_refusal e n ≡ 0 → 12 ≤ n
unfolding send_pacing_response_refusal
pacing_response_room e n h = let t = yes (send_pacing_response_questions e n) tt h in fixed_room e n (t 0) (t 1)

-- the bytes held stand in the send buffer, and a unit of them has room, as an error header has
pub record HeldRoom (e : End) (send unit : ℕ) : Type 0 where
  pub in_send_lem : e.sending.held ≤ send
  pub in_unit : 5 + e.sending.held ≤ unit
  pub error_in_unit : 12 ≤ unit

pub close_room :
    (e : End) (f : Follows) (confirm : Bool) (send unit : ℕ) → close_refusal e f confirm send unit ≡ 0 → HeldRoom e send unit
unfolding close_refusal
close_room e f confirm send unit h =
    let t = yes (close_questions e f confirm send unit) tt h in
    let b = both (send_lent e send) (unit_lent e unit) (t 0) in
    let l = leb-true e.sending.max send b.0 in
    let u = leb-true (e.sending.max + 5) unit b.1 in
    let s = (facts e (t 1)).sending in
    record { in_send_lem = omega arith; in_unit = omega arith; error_in_unit = fixed_room e unit b.1 (t 1) }
