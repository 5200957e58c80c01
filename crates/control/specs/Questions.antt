-- What the calls ask of the finite part.
-- Assumes nothing.
use Rattle.std.specs.Prelude.{Bool, not, ◌&&◌, ◌||◌}
use Rattle.control.specs.StateTests.{is_first_speaker, is_bidder, is_reset, is_send, is_receive, is_confirm_owed, is_confirm_awaited, holds_send, is_defer, agree}
use Rattle.header.specs.declared.Follows.{Follows}
use Rattle.header.specs.declared.Follows.TheVariants.{Stay, ChangeDirection, EndBracket}
use Rattle.control.specs.declared.Control.{Control}

-- ---- 7: does the state (and bid flag) allow it?

abbrev pub may_allocate : Control → Bool
may_allocate c = is_reset c.state && not c.bid

-- send data, turn, end, and preparing one: in Send, and not until an error that is due has gone
abbrev pub may_send : Control → Bool
may_send c = is_send c.state && not c.error

-- flush and confirm carry out what is prepared; turn and end by name are for Send alone. An error that is due goes by flush, which requests no
-- confirmation
abbrev pub may_close : Follows → Bool → Control → Bool
may_close Stay confirm c = holds_send c.state && not (confirm && c.error)
may_close ChangeDirection confirm c = may_send c
may_close EndBracket confirm c = may_send c

abbrev pub may_withdraw : Control → Bool
may_withdraw c = is_defer c.state

-- confirmed, and send error
abbrev pub may_confirm : Control → Bool
may_confirm c = is_confirm_owed c.state

-- request to send: this end receives, or owes a confirmation
abbrev pub may_request : Control → Bool
may_request c = is_receive c.state || is_confirm_owed c.state

-- ---- take

-- 24: is "first" on exactly when no chain is open? A bid counts as first
abbrev pub chain_fits : Bool → Control → Bool
chain_fits first c = agree first (not c.inchain)

-- 25: is data's BB on exactly at a bidder in Reset? An error header has it off
abbrev pub bracket_fits : Bool → Control → Bool
bracket_fits bb c = agree bb (is_bidder c.role && is_reset c.state)

-- 25: is a bid at role 0 only?
abbrev pub bid_fits : Control → Bool
bid_fits c = is_first_speaker c.role

-- 26: is the state Receive, or Reset made Receive by BB?
abbrev pub state_fits : Bool → Control → Bool
state_fits bb c = is_receive c.state || (is_reset c.state && bb)

-- 28: does a grant, a bid refusal, a confirmation or its refusal fit state or flag?
abbrev pub positive_response_fits : Control → Bool
positive_response_fits c = is_reset c.state && c.bid

abbrev pub negative_response_fits : Control → Bool
negative_response_fits c = c.bid

abbrev pub confirmation_fits : Control → Bool
confirmation_fits c = is_confirm_awaited c.state
