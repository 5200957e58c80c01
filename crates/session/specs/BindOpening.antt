-- Opening by the bytes with which a session starts.
-- Assumes nothing.
use Rattle.std.specs.Prelude.{ℕ}
use Rattle.bind.specs.SessionBytes.{window_of, size_of}
use Rattle.session.specs.Opening.{opened}
use Rattle.session.specs.declared.Session.{Session}
use Rattle.session.specs.declared.bind_opening.SessionBytes.{SessionBytes}
use Rattle.end.specs.declared.Done.{Done}
use Rattle.answers.specs.declared.Answer.{Answer}

-- the numbers that the bytes mean; a size byte that means no maximum has 0, which question 3 refuses
abbrev pub meant : SessionBytes → Session
meant b =
    record {
      role = b.role;
      outwindow = window_of b.outwindow;
      inwindow = window_of b.inwindow;
      outmax = size_of b.outsize;
      inmax = size_of b.insize;
    }

-- the opening with the numbers meant
unfoldable pub opened_by_bytes : SessionBytes → ℕ → ℕ → ℕ → Done Answer
opened_by_bytes b send unit inbox = opened (meant b) send unit inbox
