-- What the section 'The end's record' says of the finite part, a sentence a definition. Where it says "in Send", document 02 has "in Send or Defer".
-- Assumes nothing.
use Rattle.std.specs.Prelude.{Bool, not, ◌&&◌, ◌||◌}
use Rattle.control.specs.StateTests.{is_first_speaker, is_bidder, is_send, is_receive, holds_send, is_nothing}
use Rattle.control.specs.declared.Control.{Control}

-- a mark stands only in Receive
abbrev pub mark_in_receive : Control → Bool
mark_in_receive c = is_nothing c.mark || is_receive c.state

-- BB-due: only a first speaker in Send or Defer, no sending chain open
abbrev pub due_in_send : Control → Bool
due_in_send c = not c.due || (is_first_speaker c.role && (holds_send c.state && not c.outchain))

-- flag bid: only a bidder
abbrev pub bid_at_bidder : Control → Bool
bid_at_bidder c = not c.bid || is_bidder c.role

-- outside Send and Defer the sending chain is closed
abbrev pub chain_in_send : Control → Bool
chain_in_send c = not c.outchain || holds_send c.state

-- error-due: only in Send, not in Defer, with BB-due off
abbrev pub error_in_send : Control → Bool
error_in_send c = not c.error || (is_send c.state && not c.due)

unfoldable pub control_good : Control → Bool
control_good c = mark_in_receive c && (due_in_send c && (bid_at_bidder c && (chain_in_send c && error_in_send c)))

-- bytes are held in Send and Defer alone, and none while an error is due
abbrev pub may_hold : Control → Bool
may_hold c = holds_send c.state && not c.error
