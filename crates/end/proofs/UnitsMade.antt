-- The calls that are lent the unit buffer to write and no other: which unit each makes, if it makes one.
-- Assumes nothing.
use Prim.Native.Nat.{ℕ, ◌+◌, ◌≤◌}
use mathlib.Core.Path.{◌≡◌, refl, subst}
use mathlib.Core.Bool.{Bool, true, false, cond}
use mathlib.Core.List.{List, []}
use native.Mathlib.Omega.{arith}
use lib.Dec.{eqb}
use lib.ListN.{length}
use lib.Seq.{length-take-le}
use borrow.Author.Tests.{eqb-true}
use Rattle.unit.specs.Unit.{RU_START}
use Rattle.unit.specs.Ru.{bid_ru, error_ru, negative_confirmation_ru}
use Rattle.header.specs.declared.Header.{Header}
use Rattle.header.specs.declared.Header.TheVariants.{Bid, ErrorDescription, Confirmation, NegativeConfirmation, PacingResponse}
use Rattle.header.specs.declared.Follows.{Follows}
use Rattle.header.specs.declared.ChainEnd.TheVariants.{Last}
use Rattle.pacing.specs.Pacing.{paced}
use Rattle.control.specs.StateTests.{is_first_speaker}
use Rattle.transitions.specs.Transitions.{allocated}
use Rattle.sending.specs.Sending.{request_made}
use Rattle.end.specs.Requests.{data_header}
use Rattle.end.specs.SendData.{held_bytes}
use Rattle.end.specs.Outcome.{nothing, a_unit, accept, refuse, done_of, with_control}
use Rattle.end.specs.Allocate.{allocate_refusal, bid_made, allocate_decision}
use Rattle.end.specs.Close.{nothing_goes, closing, close_refusal, last_header, last_ru, last_made, close_decision}
use Rattle.end.specs.Confirmed.{confirmed_refusal, confirmed_decision}
use Rattle.end.specs.SendError.{send_error_decision}
use Rattle.end.specs.SendPacingResponse.{send_pacing_response_refusal, send_pacing_response_decision}
use Rattle.end.proofs.RoomToWrite.{allocate_room, confirmed_room, pacing_response_room, HeldRoom, close_room}
use Rattle.end.proofs.DecisionCells.{Makes, none, one}
use Rattle.end.specs.declared.End.{End}

always : (t : Bool) (q : ℕ) (e next : End) (n : ℕ) (h : Header) (ru : List ℕ) (room : ℕ) → eqb q 0 ≡ t → (q ≡ 0 → RU_START + length ru ≤ room)
    → Makes (cond t (accept next (a_unit n h ru)) (refuse q e)) n h ru room
always false q e next n h ru room z l = none refl
always true q e next n h ru room z l = one refl refl (l (eqb-true q 0 z))

-- of two effects the second makes a unit, whose number the record then has
either : (t b : Bool) (q : ℕ) (e quiet next : End) (number : End → ℕ) (h : Header) (ru : List ℕ) (room : ℕ) → eqb q 0 ≡ t
    → (q ≡ 0 → RU_START + length ru ≤ room)
    → (let d = cond t (cond b (accept quiet nothing) (accept next (a_unit (number next) h ru))) (refuse q e) in Makes d (number d.end) h ru room)
either false b q e quiet next number h ru room z l = none refl
either true true q e quiet next number h ru room z l = none refl
either true false q e quiet next number h ru room z l = one refl refl (l (eqb-true q 0 z))

pub allocate_makes : (e : End) (n : ℕ)
    → Makes (allocate_decision e n) (allocate_decision e n).end.bidding (Bid (paced e.sending.window)) bid_ru n
unfolding allocate_decision bid_made
allocate_makes e n =
    either (eqb (allocate_refusal e n) 0) (is_first_speaker e.control.role) (allocate_refusal e n) e (with_control (allocated e.control) e)
    (bid_made e).end (λ (x : End). x.bidding) (Bid (paced e.sending.window)) bid_ru n refl
    (λ z. omega (arith, allocate_room e n z))

pub confirmed_makes : (e : End) (n : ℕ) → Makes (confirmed_decision e n) e.owed Confirmation [] n
unfolding confirmed_decision
confirmed_makes e n =
    always (eqb (confirmed_refusal e n) 0) (confirmed_refusal e n) e _ e.owed Confirmation [] n refl
    (λ z. omega (arith, confirmed_room e n z))

pub send_error_makes : (e : End) (n : ℕ) → Makes (send_error_decision e n) e.owed NegativeConfirmation negative_confirmation_ru n
unfolding send_error_decision
send_error_makes e n =
    always (eqb (confirmed_refusal e n) 0) (confirmed_refusal e n) e _ e.owed NegativeConfirmation negative_confirmation_ru n refl
    (λ z. omega (arith, confirmed_room e n z))

pub pacing_response_makes : (e : End) (n : ℕ) → Makes (send_pacing_response_decision e n) 0 PacingResponse [] n
unfolding send_pacing_response_decision
pacing_response_makes e n =
    always (eqb (send_pacing_response_refusal e n) 0) (send_pacing_response_refusal e n) e _ 0 PacingResponse [] n refl
    (λ z. omega (arith, pacing_response_room e n z))

either_room : (error : Bool) (e : End) (send : List ℕ) (unit : ℕ) → HeldRoom e (length send) unit
    → RU_START + length (cond error error_ru (held_bytes e send)) ≤ unit
either_room true e send unit r = omega (arith, r.error_in_unit)
either_room false e send unit r = omega (arith, length-take-le e.sending.held send r.in_send_lem, r.in_unit)

last_room : (e : End) (f : Follows) (confirm : Bool) (send : List ℕ) (unit : ℕ) → close_refusal e f confirm (length send) unit ≡ 0
    → RU_START + length (last_ru e send) ≤ unit
last_room e f confirm send unit z = either_room e.control.error e send unit (close_room e f confirm (length send) unit z)

pub close_makes : (e : End) (f : Follows) (confirm : Bool) (send : List ℕ) (unit : ℕ)
    → (let d = close_decision e f confirm send unit in Makes d d.end.sending.number (last_header e (closing e f) confirm) (last_ru e send) unit)
unfolding close_decision last_made request_made
close_makes e f confirm send unit =
    let q = close_refusal e f confirm (length send) unit in
    let x = closing e f in
    either (eqb q 0) (nothing_goes e x confirm) q e e (last_made e x confirm send).end (λ (y : End). y.sending.number)
    (last_header e x confirm) (last_ru e send) unit refl (last_room e f confirm send unit)

-- by whether an error is due
module _ (e : End) (f : Follows) (confirm : Bool) (send : List ℕ) (unit : ℕ) where
  abbrev closes : Bool → Type 0
  closes error =
      let d = close_decision e f confirm send unit in
      Makes d d.end.sending.number (cond error (ErrorDescription (paced e.sending.window)) (data_header e (Last (closing e f) confirm)))
      (cond error error_ru (held_bytes e send)) unit

  pub close_makes_if : (error : Bool) → e.control.error ≡ error → closes error
  close_makes_if error y = subst closes y (close_makes e f confirm send unit)

close_made : (t b : Bool) (e : End) (f : Follows) (confirm : Bool) (send : List ℕ) (unit : ℕ) → eqb (close_refusal e f confirm (length send) unit) 0 ≡ t
    → ((done_of (cond t (cond b (accept e nothing) (last_made e (closing e f) confirm send)) (refuse (close_refusal e f confirm (length send) unit) e))).answer.unit ≡ 0 → ⊥)
    → HeldRoom e (length send) unit
close_made false b e f confirm send unit z x = absurd (x (rw z))
close_made true true e f confirm send unit z x = absurd (x refl)
close_made true false e f confirm send unit z x =
    close_room e f confirm (length send) unit (eqb-true (close_refusal e f confirm (length send) unit) 0 z)

-- a closing call that makes a unit has room for the bytes held
pub close_goes : (e : End) (f : Follows) (confirm : Bool) (send : List ℕ) (unit : ℕ)
    → ((done_of (close_decision e f confirm send unit)).answer.unit ≡ 0 → ⊥) → HeldRoom e (length send) unit
unfolding close_decision
close_goes e f confirm send unit x =
    close_made (eqb (close_refusal e f confirm (length send) unit) 0) (nothing_goes e (closing e f) confirm) e f confirm send unit refl x
