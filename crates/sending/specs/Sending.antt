-- The sending side: what the paper allows of it, and what it is as opened, after a request made, with bytes kept, and after a pacing answer.
-- Assumes nothing.
use Rattle.std.specs.Prelude.{ℕ, ◌+◌, Bool, not, ◌&&◌, ◌||◌, eqb, leb}
use Rattle.logical_record.specs.Positions.{is_position, start}
use Rattle.logical_record.specs.declared.Position.{Position}
use Rattle.pacing.specs.Pacing.{window_good, advanced, answered, fresh_window}
use Rattle.control.specs.Within.{may_hold}
use Rattle.control.specs.declared.Control.{Control}
use Rattle.unit.specs.Maximum.{max_good}
use Rattle.unit.specs.Sequence.{next_number}
use Rattle.sending.specs.declared.Sending.{Sending}

-- send-held is 0 to M, at least 1 while the sending chain is open; outside Send and Defer it is 0, and while an error is due
abbrev pub held_good : Control → Sending → Bool
held_good c s = leb s.held s.max && ((not c.outchain || leb 1 s.held) && (may_hold c || eqb s.held 0))

unfoldable pub sending_good : Control → Sending → Bool
sending_good c s = window_good s.window && (max_good s.max && (held_good c s && is_position s.given))

-- a request made here takes the next number, costs 1 credit and moves the place on; the bytes held and the place given are then these
unfoldable pub request_made : ℕ → Position → Sending → Sending
request_made held given s =
    record { window = advanced s.window; max = s.max; held = held; number = next_number s.number; given = given }

-- held plus new is at most M
abbrev pub keeps : Sending → ℕ → Bool
keeps s n = leb (s.held + n) s.max

-- so many bytes more are held, and the place given is then this
abbrev pub bytes_added : ℕ → Position → Sending → Sending
bytes_added n given s = record { window = s.window; max = s.max; held = s.held + n; number = s.number; given = given }

-- the sending side once its pacing request is answered
abbrev pub credit_answered : Sending → Sending
credit_answered s = record { window = answered s.window; max = s.max; held = s.held; number = s.number; given = s.given }

-- as opened
abbrev pub fresh_sending : ℕ → ℕ → Sending
fresh_sending window max = record { window = fresh_window window; max = max; held = 0; number = 0; given = start }
