-- Every transition of the finite part. Fields not named keep what they had.
-- Assumes nothing.
use Rattle.std.specs.Prelude.{Bool, true, false, not, cond}
use Rattle.header.specs.Header.{is_last}
use Rattle.header.specs.declared.Follows.{Follows}
use Rattle.header.specs.declared.Follows.TheVariants.{Stay, ChangeDirection, EndBracket}
use Rattle.header.specs.declared.ChainBegin.{ChainBegin}
use Rattle.header.specs.declared.ChainBegin.TheVariants.{Continued, First, FirstWithBracket}
use Rattle.header.specs.declared.ChainEnd.{ChainEnd}
use Rattle.header.specs.declared.ChainEnd.TheVariants.{Continues, Last}
use Rattle.header.specs.declared.Header.{Header}
use Rattle.header.specs.declared.Header.TheVariants.{PositiveBidResponse, NegativeBidResponse}
use Rattle.control.specs.FieldChanged.{set_state, set_follows, set_mark, set_due, set_error, set_bid, set_outchain, set_inchain}
use Rattle.control.specs.StateTests.{is_first_speaker, is_reset}
use Rattle.control.specs.declared.Role.{Role}
use Rattle.control.specs.declared.State.{State}
use Rattle.control.specs.declared.State.TheVariants.{Reset, Send, Receive, ConfirmOwed, ConfirmAwaited, DeferTurn, DeferEnd}
use Rattle.control.specs.declared.Deferred.{Deferred}
use Rattle.control.specs.declared.Deferred.TheVariants as deferral
use Rattle.control.specs.declared.WhatReceived.{WhatReceived}
use Rattle.control.specs.declared.WhatReceived.TheVariants as mark
use Rattle.control.specs.declared.Control.{Control}

-- ---- opening

-- Reset, stay, no mark, flags off, chains closed
abbrev pub fresh : Role → Control
fresh r =
    record { role = r; state = Reset; follows = Stay; mark = mark.Nothing; due = false; error = false; bid = false; outchain = false; inchain = false }

-- ---- calls

-- allocate: a first speaker sends, BB-due; a bidder has its flag on
unfoldable pub allocated : Control → Control
allocated c = cond (is_first_speaker c.role) (set_due true (set_state Send c)) (set_bid true c)

-- where a data unit stands at the begin of its chain: the first after BB-due carries BB
abbrev pub begin_of : Control → ChainBegin
begin_of c = cond c.outchain Continued (cond c.due FirstWithBracket First)

-- a data unit that is not last in its chain has gone out; BB-due is cleared
unfoldable pub spilled : Control → Control
spilled c = set_outchain true (set_due false c)

-- the state after a last unit, without confirmation: stay, turn, end
abbrev pub after_last : Follows → State
after_last Stay = Send
after_last ChangeDirection = Receive
after_last EndBracket = Reset

-- a last unit has gone out; with confirmation the end waits, noting what follows
unfoldable pub closed : Follows → Bool → Control → Control
closed f confirm c =
    set_outchain false (set_due false (cond confirm (set_state ConfirmAwaited (set_follows f c)) (set_state (after_last f) c)))

-- prepare: the turn or end is noted, and no more
abbrev pub deferring : Deferred → State
deferring deferral.Turn = DeferTurn
deferring deferral.End = DeferEnd

unfoldable pub deferred : Deferred → Control → Control
deferred d c = set_state (deferring d) c

-- withdraw: the note is dropped and Send is back
unfoldable pub withdrawn : Control → Control
withdrawn c = set_state Send c

-- what the last unit of a closing call says to follow. Flush and confirm, which say nothing of it, carry out what is prepared
abbrev pub prepared : State → Follows
prepared Reset = Stay
prepared Send = Stay
prepared Receive = Stay
prepared ConfirmOwed = Stay
prepared ConfirmAwaited = Stay
prepared DeferTurn = ChangeDirection
prepared DeferEnd = EndBracket

abbrev pub carried_out : Follows → Control → Follows
carried_out Stay c = prepared c.state
carried_out ChangeDirection c = ChangeDirection
carried_out EndBracket c = EndBracket

-- confirmed: stay gives Receive, turn gives Send, end gives Reset
abbrev pub after_owed : Follows → State
after_owed Stay = Receive
after_owed ChangeDirection = Send
after_owed EndBracket = Reset

unfoldable pub confirmation_made : Control → Control
confirmation_made c = set_state (after_owed c.follows) c

-- send error: Send, whatever was to follow, and the error header is due
unfoldable pub confirmation_denied : Control → Control
confirmation_denied c = set_error true (set_state Send c)

-- the error header has gone out, which is a chain of its own
unfoldable pub error_made : Control → Control
error_made c = set_error false c

-- a mark read: turn gives Send, end Reset, error stays in Receive, the others Owes, noting what follows
abbrev pub after_mark : WhatReceived → Control → Control
after_mark mark.Nothing c = c
after_mark mark.Turn c = set_state Send c
after_mark mark.End c = set_state Reset c
after_mark mark.Confirm c = set_state ConfirmOwed (set_follows Stay c)
after_mark mark.ConfirmTurn c = set_state ConfirmOwed (set_follows ChangeDirection c)
after_mark mark.ConfirmEnd c = set_state ConfirmOwed (set_follows EndBracket c)
after_mark mark.Error c = c

unfoldable pub mark_answered : Control → Control
mark_answered c = set_mark mark.Nothing (after_mark c.mark c)

-- ---- take

-- the mark of a last unit
abbrev pub mark_of_last : Follows → Bool → WhatReceived
mark_of_last Stay confirm = cond confirm mark.Confirm mark.Nothing
mark_of_last ChangeDirection confirm = cond confirm mark.ConfirmTurn mark.Turn
mark_of_last EndBracket confirm = cond confirm mark.ConfirmEnd mark.End

abbrev pub mark_of : ChainEnd → WhatReceived
mark_of Continues = mark.Nothing
mark_of (Last f confirm) = mark_of_last f confirm

-- data: a bidder in Reset becomes Receive, as all others are; the mark is left, and the chain is open unless this was its last
unfoldable pub data_received : ChainEnd → Control → Control
data_received ends c = set_inchain (not (is_last ends)) (set_mark (mark_of ends) (set_state Receive c))

-- an error header: the mark is left, and no chain is open, as before
unfoldable pub error_received : Control → Control
error_received c = set_mark mark.Error c

-- a bid: in Reset it makes a grant and becomes Receive, in any other state it makes a bid refusal
unfoldable pub bid_received : Control → Control
bid_received c = cond (is_reset c.state) (set_state Receive c) c

abbrev pub bid_answer : Control → Header
bid_answer c = cond (is_reset c.state) PositiveBidResponse NegativeBidResponse

-- a grant: Send, flag off
unfoldable pub positive_response_received : Control → Control
positive_response_received c = set_bid false (set_state Send c)

-- a bid refusal: flag off
unfoldable pub negative_response_received : Control → Control
negative_response_received c = set_bid false c

-- a confirmation: stay gives Send, turn Receive, end Reset
unfoldable pub confirmation_received : Control → Control
confirmation_received c = set_state (after_last c.follows) c

-- the refusal of a confirmation: Receive, whatever was to follow
unfoldable pub negative_confirmation_received : Control → Control
negative_confirmation_received c = set_state Receive c
