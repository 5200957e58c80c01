-- What is asked before a session is opened.
-- Assumes nothing.
use Rattle.std.specs.Prelude.{ℕ, ◌+◌, ◌*◌, Bool, ◌&&◌, ◌||◌, List, [], ◌∷◌, eqb, leb}
use Rattle.pacing.specs.Pacing.{size_good}
use Rattle.answers.specs.FirstNo.{first_no}
use Rattle.answers.specs.Answers.{BAD_ROLE, BAD_WINDOW, BAD_MAXIMUM, BAD_BUFFER}
use Rattle.unit.specs.Maximum.{max_good}
use Rattle.session.specs.declared.Session.{Session}

abbrev pub role_good : ℕ → Bool
role_good role = eqb role 0 || eqb role 1

-- the send buffer at least the sending M, the unit buffer at least that M+5, the inbox the receiving W×M to 65,535
abbrev pub buffers_good : Session → ℕ → ℕ → ℕ → Bool
buffers_good s send unit inbox =
    leb s.outmax send && (leb (s.outmax + 5) unit && (leb (s.inwindow * s.inmax) inbox && leb inbox 65535))

abbrev pub opening_questions : Session → ℕ → ℕ → ℕ → List (Bool × ℕ)
opening_questions s send unit inbox =
    (role_good s.role, BAD_ROLE)
    ∷ (size_good s.outwindow && size_good s.inwindow, BAD_WINDOW)
    ∷ (max_good s.outmax && max_good s.inmax, BAD_MAXIMUM)
    ∷ (buffers_good s send unit inbox, BAD_BUFFER)
    ∷ []

unfoldable pub opening_refusal : Session → ℕ → ℕ → ℕ → ℕ
opening_refusal s send unit inbox = first_no (opening_questions s send unit inbox)
