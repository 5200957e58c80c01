-- The byte for each role, state, what follows and mark, and back. A byte past the last code is read as the last: no such image is good.
-- Assumes nothing.
use Rattle.std.specs.Prelude.{ℕ, cond, eqb}
use Rattle.header.specs.declared.Follows.{Follows}
use Rattle.header.specs.declared.Follows.TheVariants.{Stay, ChangeDirection, EndBracket}
use Rattle.control.specs.declared.State.{State}
use Rattle.control.specs.declared.State.TheVariants.{Reset, Send, Receive, ConfirmOwed, ConfirmAwaited, DeferTurn, DeferEnd}
use Rattle.control.specs.declared.WhatReceived.{WhatReceived}
use Rattle.control.specs.declared.WhatReceived.TheVariants as mark

-- in the papers' order, from 0: Reset, Send, Receive, Owes, Waits, Defer-turn, Defer-end
abbrev pub state_of : ℕ → State
state_of n =
    cond (eqb n 0) Reset
    (cond (eqb n 1) Send
    (cond (eqb n 2) Receive (cond (eqb n 3) ConfirmOwed (cond (eqb n 4) ConfirmAwaited (cond (eqb n 5) DeferTurn DeferEnd)))))

-- in the paper's order, from 0: stay, turn, end
abbrev pub follows_number : Follows → ℕ
follows_number Stay = 0
follows_number ChangeDirection = 1
follows_number EndBracket = 2

abbrev pub follows_of : ℕ → Follows
follows_of n = cond (eqb n 0) Stay (cond (eqb n 1) ChangeDirection EndBracket)

-- in the papers' order, from 0: none, turn, end, confirm, confirm-turn, confirm-end, error
abbrev pub mark_of : ℕ → WhatReceived
mark_of n =
    cond (eqb n 0) mark.Nothing
    (cond (eqb n 1) mark.Turn
    (cond (eqb n 2) mark.End (cond (eqb n 3) mark.Confirm (cond (eqb n 4) mark.ConfirmTurn (cond (eqb n 5) mark.ConfirmEnd mark.Error)))))
