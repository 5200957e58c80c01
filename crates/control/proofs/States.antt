-- What a test of a state, a role or a mark tells: which it is, and which it is not.
-- Assumes nothing.
use mathlib.Core.Path.{◌≡◌, refl, sym, ap, ◌∙◌}
use mathlib.Core.Bool.{Bool, true, false, not, ◌&&◌, ◌||◌, or-true}
use Rattle.bools.proofs.Cases.{never, split}
use Rattle.bools.proofs.Tests.{both, left, follows_from, not_true}
use Rattle.control.specs.StateTests.{is_first_speaker, is_bidder, is_reset, is_send, is_receive, is_confirm_owed, is_confirm_awaited, is_defer, holds_send, is_nothing}
use Rattle.header.specs.declared.Follows.{Follows}
use Rattle.header.specs.declared.Follows.TheVariants.{Stay, ChangeDirection, EndBracket}
use Rattle.control.specs.Questions.{may_send, may_close}
use Rattle.control.specs.declared.Control.{Control}
use Rattle.control.specs.declared.Role.{Role}
use Rattle.control.specs.declared.Role.TheVariants.{FirstSpeaker, Bidder}
use Rattle.control.specs.declared.State.{State}
use Rattle.control.specs.declared.State.TheVariants.{Reset, Send, Receive, ConfirmOwed, ConfirmAwaited, DeferTurn, DeferEnd}
use Rattle.control.specs.declared.WhatReceived.{WhatReceived}
use Rattle.control.specs.declared.WhatReceived.TheVariants as mark
use Rattle.control.proofs.FiniteControl.{all_states, at_state}

-- ---- which it is

pub send_is : (s : State) → is_send s ≡ true → s ≡ Send
send_is Reset e = never e
send_is Send e = refl
send_is Receive e = never e
send_is ConfirmOwed e = never e
send_is ConfirmAwaited e = never e
send_is DeferTurn e = never e
send_is DeferEnd e = never e

pub state_is : (s : State)
    → (is_reset s ≡ true → s ≡ Reset) × (is_receive s ≡ true → s ≡ Receive) × (is_confirm_owed s ≡ true → s ≡ ConfirmOwed)
    × (is_confirm_awaited s ≡ true → s ≡ ConfirmAwaited)
state_is Reset = (λ e. refl, λ e. cc, λ e. cc, λ e. cc)
state_is Send = (λ e. cc, λ e. cc, λ e. cc, λ e. cc)
state_is Receive = (λ e. cc, λ e. refl, λ e. cc, λ e. cc)
state_is ConfirmOwed = (λ e. cc, λ e. cc, λ e. refl, λ e. cc)
state_is ConfirmAwaited = (λ e. cc, λ e. cc, λ e. cc, λ e. refl)
state_is DeferTurn = (λ e. cc, λ e. cc, λ e. cc, λ e. cc)
state_is DeferEnd = (λ e. cc, λ e. cc, λ e. cc, λ e. cc)

pub nothing_is : (m : WhatReceived) → is_nothing m ≡ true → m ≡ mark.Nothing
nothing_is mark.Nothing e = refl
nothing_is mark.Turn e = never e
nothing_is mark.End e = never e
nothing_is mark.Confirm e = never e
nothing_is mark.ConfirmTurn e = never e
nothing_is mark.ConfirmEnd e = never e
nothing_is mark.Error e = never e

-- ---- which it is not

pub bidder_not_first : (r : Role) → is_bidder r ≡ true → is_first_speaker r ≡ false
bidder_not_first FirstSpeaker e = sym e
bidder_not_first Bidder e = refl

-- at every state: where one test holds, another does not
excludes : (f g : State → Bool) → all_states (λ s. not (f s) || not (g s)) ≡ true → (s : State) → f s ≡ true → g s ≡ false
excludes f g t s e = not_true (g s) (follows_from (f s) (not (g s)) (at_state (λ s. not (f s) || not (g s)) t s) e)

pub reset_not_send : (s : State) → is_reset s ≡ true → holds_send s ≡ false
reset_not_send = excludes is_reset holds_send refl

-- 26: data comes only outside Send and Defer
pub fits_not_send : (s : State) (b : Bool) → is_receive s || (is_reset s && b) ≡ true → holds_send s ≡ false
fits_not_send s true = excludes (λ s. is_receive s || (is_reset s && true)) holds_send refl s
fits_not_send s false = excludes (λ s. is_receive s || (is_reset s && false)) holds_send refl s

pub holding_not_receive : (s : State) → holds_send s ≡ true → is_receive s ≡ false
holding_not_receive = excludes holds_send is_receive refl

-- ---- send state

-- an end that may send, and one that may close a chain, holds it
pub sending_holds : (s : State) → is_send s ≡ true → holds_send s ≡ true
sending_holds s e = rw e

pub sending_clear : (c : Control) → may_send c ≡ true → (is_send c.state ≡ true) × (c.error ≡ false)
sending_clear c e =
    let p = both (is_send c.state) (not c.error) e in
    (p.0, not_true c.error p.1)

pub closing_holds : (f : Follows) (b : Bool) (c : Control) → may_close f b c ≡ true → holds_send c.state ≡ true
closing_holds Stay b c e = left (holds_send c.state) (not (b && c.error)) e
closing_holds ChangeDirection b c e = sending_holds c.state (sending_clear c e).0
closing_holds EndBracket b c e = sending_holds c.state (sending_clear c e).0

pub not_holding : (s : State) → holds_send s ≡ false → is_send s ≡ false
not_holding s e = split (is_send s) (λ y. never (sym e ∙ sending_holds s y)) (λ n. n)

-- an end in Defer
pub record InDefer (s : State) : Type 0 where
  pub not_reset : is_reset s ≡ false
  pub not_send : is_send s ≡ false
  pub not_owed : is_confirm_owed s ≡ false
  pub holds : holds_send s ≡ true

pub in_defer_lem : (s : State) → is_defer s ≡ true → InDefer s
in_defer_lem s e =
    record {
      not_reset = excludes is_defer is_reset refl s e;
      not_send = excludes is_defer is_send refl s e;
      not_owed = excludes is_defer is_confirm_owed refl s e;
      holds = ap (λ (b : Bool). is_send s || b) e ∙ or-true (is_send s);
    }
