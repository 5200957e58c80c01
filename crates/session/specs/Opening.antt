-- Opening.
-- Assumes nothing.
use Rattle.std.specs.Prelude.{ℕ, cond, eqb}
use Rattle.transitions.specs.Transitions.{fresh}
use Rattle.control.specs.declared.Role.{Role}
use Rattle.control.specs.declared.Role.TheVariants.{FirstSpeaker}
use Rattle.answers.specs.Answers.{accepted, refused}
use Rattle.session.specs.OpeningQuestions.{opening_refusal}
use Rattle.control.specs.StateTests.{role_of}
use Rattle.expedited.specs.Signals.{no_signal}
use Rattle.sending.specs.Sending.{fresh_sending}
use Rattle.receiving.specs.Receiving.{fresh_receiving}
use Rattle.session.specs.declared.Session.{Session}
use Rattle.end.specs.declared.End.{End}
use Rattle.end.specs.declared.Done.{Done}
use Rattle.answers.specs.declared.Answer.{Answer}

-- Reset, stay, no mark, chains closed, record places between records with no other part to follow, counts and numbers 0, credit and
-- open equal to their W, flags off; no signal unanswered
abbrev pub fresh_end : Role → ℕ → ℕ → ℕ → ℕ → ℕ → End
fresh_end role outwindow outmax inwindow inmax inbox =
    record {
      control = fresh role;
      sending = fresh_sending outwindow outmax;
      receiving = fresh_receiving inwindow inmax inbox;
      bidding = 0;
      owed = 0;
      expedited = no_signal;
    }

-- a record of zeros
abbrev pub zero_end : End
zero_end = fresh_end FirstSpeaker 0 0 0 0 0

-- opening by the lengths of the three buffers lent, in no cell of which it writes
unfoldable pub opened : Session → ℕ → ℕ → ℕ → Done Answer
opened s send unit inbox =
    let q : ℕ = opening_refusal s send unit inbox in
    cond (eqb q 0)
    (record { answer = accepted 0; end = fresh_end (role_of s.role) s.outwindow s.outmax s.inwindow s.inmax inbox })
    (record { answer = refused q; end = zero_end })
