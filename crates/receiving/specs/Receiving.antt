-- The receiving side: what the paper allows of it, what it asks of a unit, and what it is as opened, after a request taken and after a pacing answer.
-- Assumes nothing.
use Rattle.std.specs.Prelude.{ℕ, ◌+◌, ◌*◌, Bool, ◌&&◌, ◌||◌, false, not, leb, eqb, Result, Ok, Err}
use Rattle.logical_record.specs.Positions.{is_position, is_whole, start}
use Rattle.logical_record.specs.declared.BadLength.{BadLength}
use Rattle.logical_record.specs.declared.Position.{Position}
use Rattle.unit.specs.Ru.{marks}
use Rattle.header.specs.declared.ChainEnd.{ChainEnd}
use Rattle.pacing.specs.Pacing.{window_good, credit, advanced, has_credit, paced, answered, fresh_window}
use Rattle.control.specs.StateTests.{agree}
use Rattle.unit.specs.Maximum.{max_good}
use Rattle.unit.specs.Sequence.{next_number}
use Rattle.receiving.specs.declared.Receiving.{Receiving}

-- held + open×M at most the length
abbrev pub inbox_good : Receiving → Bool
inbox_good r = leb (r.held + credit r.window * r.max) r.inbox

unfoldable pub receiving_good : Receiving → Bool
receiving_good r = window_good r.window && (max_good r.max && (inbox_good r && (is_position r.taken && is_position r.read)))

-- a request taken lowers open by 1 and moves the place on; the bytes held and the place taken are then these
unfoldable pub request_received : ℕ → Position → Receiving → Receiving
request_received held taken r =
    record {
      window = advanced r.window;
      max = r.max;
      inbox = r.inbox;
      held = held;
      number = next_number r.number;
      taken = taken;
      read = r.read;
    }

-- 27, of requests: is open above 0 and the pacing bit right?
abbrev pub pacing_fits : Receiving → Bool → Bool
pacing_fits r bit = has_credit r.window && agree bit (paced r.window)

-- 23, of requests: is the number the next one?
abbrev pub is_next : Receiving → ℕ → Bool
is_next r n = eqb n (next_number r.number)

-- 29: is every LL good, and at a mark nothing unfinished, neither a record nor a table?
abbrev pub records_fit : ChainEnd → Result Position BadLength → Bool
records_fit ends (Ok p) = not (marks ends) || is_whole p
records_fit ends (Err bad) = false

-- is an answer owed, and is held + (open+W)×M within the inbox?
abbrev pub may_answer_pacing : Receiving → Bool
may_answer_pacing r = r.window.pending && leb (r.held + (credit r.window + r.window.size) * r.max) r.inbox

-- the window, and nothing else of the side
abbrev pub window_answered : Receiving → Receiving
window_answered r =
    record {
      window = answered r.window;
      max = r.max;
      inbox = r.inbox;
      held = r.held;
      number = r.number;
      taken = r.taken;
      read = r.read;
    }

-- as opened
abbrev pub fresh_receiving : ℕ → ℕ → ℕ → Receiving
fresh_receiving window max inbox =
    record { window = fresh_window window; max = max; inbox = inbox; held = 0; number = 0; taken = start; read = start }
