-- What a read copies of the current record, and what it leaves of the receiving side.
-- Assumes nothing.
use Rattle.std.specs.Prelude.{ℕ, ◌-◌, Bool, true, false, Result, Ok, Err}
use Rattle.logical_record.specs.declared.BadLength.{BadLength}
use Rattle.logical_record.specs.declared.Position.{Position}
use Rattle.receiving.specs.declared.Receiving.{Receiving}

-- the LL of the current record is good, or not met
abbrev pub rest_good : Result ℕ BadLength → Bool
rest_good (Ok n) = true
rest_good (Err bad) = false

abbrev pub rest_bytes : Result ℕ BadLength → ℕ
rest_bytes (Ok n) = n
rest_bytes (Err bad) = 0

-- k of the bytes held are gone, and the place read is then this
abbrev pub bytes_gone : ℕ → Position → Receiving → Receiving
bytes_gone k read r =
    record {
      window = r.window;
      max = r.max;
      inbox = r.inbox;
      held = r.held - k;
      number = r.number;
      taken = r.taken;
      read = read;
    }
