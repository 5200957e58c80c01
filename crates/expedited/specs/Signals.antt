-- What an end keeps of the expedited lines, and what a signal made, a signal taken and a response taken change of it.
-- Assumes nothing.
use Rattle.std.specs.Prelude.{ℕ, true, false, cond}
use Rattle.header.specs.ExpeditedHeader.{is_signal}
use Rattle.header.specs.declared.ExpeditedHeader.{ExpeditedHeader}
use Rattle.unit.specs.Sequence.{next_number}
use Rattle.expedited.specs.declared.Expedited.{Expedited}

-- as opened: no signal is unanswered, and both numbers are 0
abbrev pub no_signal : Expedited
no_signal = record { unanswered = false; sent = 0; taken = 0 }

-- a signal made takes the next number
abbrev pub signal_made : Expedited → Expedited
signal_made x = record { unanswered = true; sent = next_number x.sent; taken = x.taken }

-- a signal taken leaves its number; the response to this end's signal clears the flag
abbrev pub signal_taken : ℕ → Expedited → Expedited
signal_taken n x = record { unanswered = x.unanswered; sent = x.sent; taken = n }

abbrev pub response_taken : Expedited → Expedited
response_taken x = record { unanswered = false; sent = x.sent; taken = x.taken }

abbrev pub unit_taken : ExpeditedHeader → ℕ → Expedited → Expedited
unit_taken h n x = cond (is_signal h) (signal_taken n x) (response_taken x)
