-- The words for an end, a call, a mark and a state.
-- Assumes nothing.
use Rattle.std.specs.Prelude.{ℕ, Bool, cond, List}
use Rattle.header.specs.declared.Follows.{Follows}
use Rattle.header.specs.declared.Follows.TheVariants.{Stay, ChangeDirection, EndBracket}
use Rattle.script.specs.declared.Verb.{Verb}
use Rattle.script.specs.declared.Verb.TheVariants as verb
use Rattle.script.specs.declared.Flow.{Flow}
use Rattle.script.specs.declared.Flow.TheVariants.{Normal, Expedited}
use Rattle.script.specs.declared.Request.{Request}
use Rattle.script.specs.declared.Request.TheVariants as request
use Rattle.control.specs.declared.WhatReceived.{WhatReceived}
use Rattle.control.specs.declared.WhatReceived.TheVariants as mark
use Rattle.control.specs.declared.State.{State}
use Rattle.control.specs.declared.State.TheVariants as state
use Rattle.control.specs.declared.Deferred.{Deferred}
use Rattle.control.specs.declared.Deferred.TheVariants as deferred
use Rattle.report.specs.Ascii.{ascii}

abbrev pub end_word : Bool → List ℕ
end_word second = cond second (ascii "2") (ascii "1")

abbrev pub closing_words : Follows → Bool → List ℕ
closing_words Stay confirm = cond confirm (ascii "confirm") (ascii "flush")
closing_words ChangeDirection confirm = cond confirm (ascii "turn confirm") (ascii "turn")
closing_words EndBracket confirm = cond confirm (ascii "end confirm") (ascii "end")

abbrev pub defer_words : Deferred → List ℕ
defer_words deferred.Turn = ascii "prepare turn"
defer_words deferred.End = ascii "prepare end"

abbrev pub verb_words : Verb → List ℕ
verb_words verb.Allocate = ascii "allocate"
verb_words verb.Confirmed = ascii "confirmed"
verb_words verb.SendError = ascii "deny"
verb_words verb.RequestToSend = ascii "request"
verb_words verb.SendPacingResponse = ascii "pace"
verb_words verb.SendData = ascii "send"
verb_words (verb.Close follows confirm) = closing_words follows confirm
verb_words (verb.Defer what) = defer_words what
verb_words verb.Withdraw = ascii "withdraw"
verb_words verb.Receive = ascii "read"

abbrev pub take_words : Flow → List ℕ
take_words Normal = ascii "take"
take_words Expedited = ascii "take expedited"

-- an offered unit is taken too
abbrev pub request_words : Request → List ℕ
request_words (request.Call v) = verb_words v
request_words (request.Take flow) = take_words flow
request_words (request.Offer flow) = take_words flow

abbrev pub mark_word : WhatReceived → List ℕ
mark_word mark.Nothing = ascii "none"
mark_word mark.Turn = ascii "turn"
mark_word mark.End = ascii "end"
mark_word mark.Confirm = ascii "confirm"
mark_word mark.ConfirmTurn = ascii "confirm-turn"
mark_word mark.ConfirmEnd = ascii "confirm-end"
mark_word mark.Error = ascii "error"

abbrev pub state_word : State → List ℕ
state_word state.Reset = ascii "Reset"
state_word state.Send = ascii "Send"
state_word state.Receive = ascii "Receive"
state_word state.ConfirmOwed = ascii "Owes"
state_word state.ConfirmAwaited = ascii "Waits"
state_word state.DeferTurn = ascii "Defer-turn"
state_word state.DeferEnd = ascii "Defer-end"
