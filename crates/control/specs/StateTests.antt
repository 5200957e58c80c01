-- Roles, states and marks: their numbers, and tests of them.
-- Assumes nothing.
use Rattle.std.specs.Prelude.{ℕ, Bool, true, false, not, cond, ◌||◌, eqb}
use Rattle.control.specs.declared.Role.{Role}
use Rattle.control.specs.declared.Role.TheVariants.{FirstSpeaker, Bidder}
use Rattle.control.specs.declared.State.{State}
use Rattle.control.specs.declared.State.TheVariants.{Reset, Send, Receive, ConfirmOwed, ConfirmAwaited, DeferTurn, DeferEnd}
use Rattle.control.specs.declared.WhatReceived.{WhatReceived}
use Rattle.control.specs.declared.WhatReceived.TheVariants as mark

-- first speaker 0, bidder 1
abbrev pub role_number : Role → ℕ
role_number FirstSpeaker = 0
role_number Bidder = 1

-- the role of a number
abbrev pub role_of : ℕ → Role
role_of n = cond (eqb n 0) FirstSpeaker Bidder

abbrev pub is_first_speaker : Role → Bool
is_first_speaker FirstSpeaker = true
is_first_speaker Bidder = false

abbrev pub is_bidder : Role → Bool
is_bidder FirstSpeaker = false
is_bidder Bidder = true

-- in the papers' order, from 0: Reset, Send, Receive, Owes, Waits, Defer-turn, Defer-end
abbrev pub state_number : State → ℕ
state_number Reset = 0
state_number Send = 1
state_number Receive = 2
state_number ConfirmOwed = 3
state_number ConfirmAwaited = 4
state_number DeferTurn = 5
state_number DeferEnd = 6

abbrev pub is_reset : State → Bool
is_reset Reset = true
is_reset Send = false
is_reset Receive = false
is_reset ConfirmOwed = false
is_reset ConfirmAwaited = false
is_reset DeferTurn = false
is_reset DeferEnd = false

abbrev pub is_send : State → Bool
is_send Reset = false
is_send Send = true
is_send Receive = false
is_send ConfirmOwed = false
is_send ConfirmAwaited = false
is_send DeferTurn = false
is_send DeferEnd = false

abbrev pub is_receive : State → Bool
is_receive Reset = false
is_receive Send = false
is_receive Receive = true
is_receive ConfirmOwed = false
is_receive ConfirmAwaited = false
is_receive DeferTurn = false
is_receive DeferEnd = false

abbrev pub is_confirm_owed : State → Bool
is_confirm_owed Reset = false
is_confirm_owed Send = false
is_confirm_owed Receive = false
is_confirm_owed ConfirmOwed = true
is_confirm_owed ConfirmAwaited = false
is_confirm_owed DeferTurn = false
is_confirm_owed DeferEnd = false

abbrev pub is_confirm_awaited : State → Bool
is_confirm_awaited Reset = false
is_confirm_awaited Send = false
is_confirm_awaited Receive = false
is_confirm_awaited ConfirmOwed = false
is_confirm_awaited ConfirmAwaited = true
is_confirm_awaited DeferTurn = false
is_confirm_awaited DeferEnd = false

-- a turn or an end is prepared
abbrev pub is_defer : State → Bool
is_defer Reset = false
is_defer Send = false
is_defer Receive = false
is_defer ConfirmOwed = false
is_defer ConfirmAwaited = false
is_defer DeferTurn = true
is_defer DeferEnd = true

-- the end holds send state: what the record allows only in Send it allows in Defer too, and so it is when two ends are compared
abbrev pub holds_send : State → Bool
holds_send s = is_send s || is_defer s

-- in the papers' order, from 0: none, turn, end, confirm, confirm-turn, confirm-end, error
abbrev pub mark_number : WhatReceived → ℕ
mark_number mark.Nothing = 0
mark_number mark.Turn = 1
mark_number mark.End = 2
mark_number mark.Confirm = 3
mark_number mark.ConfirmTurn = 4
mark_number mark.ConfirmEnd = 5
mark_number mark.Error = 6

abbrev pub is_nothing : WhatReceived → Bool
is_nothing mark.Nothing = true
is_nothing mark.Turn = false
is_nothing mark.End = false
is_nothing mark.Confirm = false
is_nothing mark.ConfirmTurn = false
is_nothing mark.ConfirmEnd = false
is_nothing mark.Error = false

-- one is on exactly when the other is
abbrev pub agree : Bool → Bool → Bool
agree a b = cond a b (not b)
