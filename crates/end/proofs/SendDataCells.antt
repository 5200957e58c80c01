-- Send data, from its decision: what its writer may rely on, and its cells.
-- Assumes nothing.
use Prim.Native.Nat.{ℕ, ◌+◌, ◌≤◌, ◌<◌}
use mathlib.Core.Path.{◌≡◌, refl}
use mathlib.Core.Bool.{Bool, true, false, cond}
use mathlib.Core.List.{List, ◌++◌}
use native.Mathlib.Omega.{arith}
use lib.Dec.{leb, eqb}
use lib.ListN.{length, take, drop}
use borrow.Author.Tests.{leb-true, leb-false, eqb-true, eqb-false}
use Rattle.cells.specs.Cells.{front, written}
use Rattle.unit.specs.Unit.{unit_of}
use Rattle.header.specs.declared.ChainEnd.TheVariants.{Continues}
use Rattle.sending.specs.Sending.{request_made, keeps}
use Rattle.answers.proofs.Rows.{yes}
use Rattle.end.specs.Record.{send_lent, unit_lent}
use Rattle.end.specs.Requests.{data_header}
use Rattle.end.specs.SendData.{send_questions, send_refusal, held_bytes, gone, bytes_kept, bytes_spilled, send_decision, send_cells}
use Rattle.end.specs.Outcome.{cells_out, done_of, refuse, Decision}
use Rattle.sending.proofs.SendingGood.{SendingWithin}
use Rattle.end.proofs.RecordGood.{facts}
use Rattle.end.specs.declared.End.{End}
use Rattle.bools.proofs.Tests.{both}

-- the questions were all answered yes
pub record SendRoom (e : End) (n send unit : ℕ) : Type 0 where
  pub in_send_lem : e.sending.max ≤ send
  pub in_unit : e.sending.max + 5 ≤ unit
  pub rules : SendingWithin e.sending
  pub most : n ≤ e.sending.max

pub send_room : (e : End) (bytes : List ℕ) (send unit : ℕ) → send_refusal e bytes send unit ≡ 0 → SendRoom e (length bytes) send unit
unfolding send_refusal
send_room e bytes send unit h =
    let t = yes (send_questions e bytes send unit) tt h in
    let b = both (send_lent e send) (unit_lent e unit) (t 0) in
    record {
      in_send_lem = leb-true e.sending.max send b.0;
      in_unit = leb-true (e.sending.max + 5) unit b.1;
      rules = (facts e (t 1)).sending;
      most = leb-true (length bytes) e.sending.max (both (leb 1 (length bytes)) (leb (length bytes) e.sending.max) (t 2)).1;
    }

-- accepted: the length of the unit said tells whether the bytes are kept
pub record Sends (e : End) (bytes send unit : List ℕ) (d : Decision) : Type 0 where
  pub room : SendRoom e (length bytes) (length send) (length unit)
  pub if_kept :
      (done_of d).answer.unit ≡ 0
      → (e.sending.held + length bytes ≤ e.sending.max)
      × (send_cells e bytes d.refusal send ≡ written e.sending.held bytes send)
      × (cells_out d.out unit ≡ unit)
  pub if_gone :
      ((done_of d).answer.unit ≡ 0 → ⊥)
      → (e.sending.max < e.sending.held + length bytes)
      × (send_cells e bytes d.refusal send ≡ front (drop (gone e) bytes) send)
      × (cells_out d.out unit ≡ front (unit_of d.end.sending.number (data_header e Continues) (held_bytes e send ++ take (gone e) bytes)) unit)

sends : (t b : Bool) (e : End) (bytes send unit : List ℕ) → eqb (send_refusal e bytes (length send) (length unit)) 0 ≡ t → keeps e.sending (length bytes) ≡ b
    → (let d = cond t (cond b (bytes_kept e bytes) (bytes_spilled e bytes send)) (refuse (send_refusal e bytes (length send) (length unit)) e) in
    (done_of d).answer.refusal ≡ 0 → Sends e bytes send unit d)
unfolding bytes_kept bytes_spilled request_made send_cells
sends false b e bytes send unit z k h =
    let f = rw z at h in
    absurd (eqb-false (send_refusal e bytes (length send) (length unit)) 0 z f)
sends true true e bytes send unit z k h =
    record {
      room = send_room e bytes (length send) (length unit) (eqb-true (send_refusal e bytes (length send) (length unit)) 0 z);
      if_kept = λ x. (leb-true (e.sending.held + length bytes) e.sending.max k, rw k, refl);
      if_gone = λ x. absurd (x refl);
    }
sends true false e bytes send unit z k h =
    record {
      room = send_room e bytes (length send) (length unit) (eqb-true (send_refusal e bytes (length send) (length unit)) 0 z);
      if_kept = λ x. absurd (omega (arith, x));
      if_gone = λ x. (leb-false (e.sending.held + length bytes) e.sending.max k, rw k, refl);
    }

pub send_sends : (e : End) (bytes send unit : List ℕ)
    → (let d = send_decision e bytes send (length unit) in (done_of d).answer.refusal ≡ 0 → Sends e bytes send unit d)
unfolding send_decision
send_sends e bytes send unit h =
    sends (eqb (send_refusal e bytes (length send) (length unit)) 0) (keeps e.sending (length bytes)) e bytes send unit refl refl h

-- refused: nothing is written
send_stays : (t b : Bool) (e : End) (bytes send unit : List ℕ) → eqb (send_refusal e bytes (length send) (length unit)) 0 ≡ t
    → (let d = cond t (cond b (bytes_kept e bytes) (bytes_spilled e bytes send)) (refuse (send_refusal e bytes (length send) (length unit)) e) in
    ((done_of d).answer.refusal ≡ 0 → ⊥) → (send_cells e bytes d.refusal send ≡ send) × (cells_out d.out unit ≡ unit))
unfolding bytes_kept bytes_spilled send_cells
send_stays false b e bytes send unit z h = (rw z, refl)
send_stays true true e bytes send unit z h = absurd (h refl)
send_stays true false e bytes send unit z h = absurd (h refl)

pub send_refused : (e : End) (bytes send unit : List ℕ)
    → (let d = send_decision e bytes send (length unit) in
    ((done_of d).answer.refusal ≡ 0 → ⊥) → (send_cells e bytes d.refusal send ≡ send) × (cells_out d.out unit ≡ unit))
unfolding send_decision
send_refused e bytes send unit h =
    send_stays (eqb (send_refusal e bytes (length send) (length unit)) 0) (keeps e.sending (length bytes)) e bytes send unit refl h
