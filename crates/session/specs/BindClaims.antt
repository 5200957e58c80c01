-- What is claimed of opening by bytes, for a reader to find. Proved in proofs/, and promised by the function `theorems::opened_by_bytes`.
-- Assumes nothing.
use Rattle.std.specs.Prelude.{ℕ, ◌<◌, ◌≡◌, Bool, true, not, ◌&&◌, List, [], ◌∷◌, eqb}
use Rattle.answers.specs.FirstNo.{first_no}
use Rattle.answers.specs.Answers.{BAD_ROLE, BAD_WINDOW, BAD_MAXIMUM, BAD_BUFFER}
use Rattle.bind.specs.SessionBytes.{window_of, mantissa, exponent, means, maximum_good, one_byte, size_byte}
use Rattle.session.specs.OpeningQuestions.{role_good, buffers_good}
use Rattle.session.specs.Opening.{opened}
use Rattle.session.specs.BindOpening.{meant, opened_by_bytes}
use Rattle.session.specs.declared.Session.{Session}
use Rattle.session.specs.declared.bind_opening.SessionBytes.{SessionBytes}

-- ---- the questions, in the words of document 02: of a window byte the low six bits, of which 0 alone is no window; of a size byte the
-- mantissa, and then the size

abbrev pub size_byte_good : ℕ → Bool
size_byte_good byte = maximum_good (mantissa byte) (exponent byte)

abbrev pub bind_questions : SessionBytes → ℕ → ℕ → ℕ → List (Bool × ℕ)
bind_questions b send unit inbox =
    (role_good b.role, BAD_ROLE)
    ∷ (not (eqb (window_of b.outwindow) 0) && not (eqb (window_of b.inwindow) 0), BAD_WINDOW)
    ∷ (size_byte_good b.outsize && size_byte_good b.insize, BAD_MAXIMUM)
    ∷ (buffers_good (meant b) send unit inbox, BAD_BUFFER)
    ∷ []

abbrev pub AsAsked : Type 0
AsAsked = (b : SessionBytes) (send unit inbox : ℕ) → (opened_by_bytes b send unit inbox).answer.refusal ≡ first_no (bind_questions b send unit inbox)

-- ---- a session opened either way with equal numbers is the same end, and refused the one way as the other

pub record EqualNumbers (b : SessionBytes) (s : Session) : Type 0 where
  pub role : b.role ≡ s.role
  pub outwindow : window_of b.outwindow ≡ s.outwindow
  pub inwindow : window_of b.inwindow ≡ s.inwindow
  pub outmax : means b.outsize s.outmax ≡ true
  pub inmax : means b.insize s.inmax ≡ true

abbrev pub SameEnd : Type 0
SameEnd = (b : SessionBytes) (s : Session) (send unit inbox : ℕ) → EqualNumbers b s → opened_by_bytes b send unit inbox ≡ opened s send unit inbox

-- ---- the bytes that the way back gives for a session's numbers open that session

abbrev pub bytes_of : Session → ℕ → ℕ → SessionBytes
bytes_of s outsize insize = record { role = s.role; outwindow = s.outwindow; inwindow = s.inwindow; outsize = outsize; insize = insize }

abbrev pub BytesOfNumbers : Type 0
BytesOfNumbers =
    (s : Session) (outsize insize send unit inbox : ℕ) → s.outwindow < 64 → s.inwindow < 64
    → size_byte s.outmax ≡ one_byte outsize → size_byte s.inmax ≡ one_byte insize
    → opened_by_bytes (bytes_of s outsize insize) send unit inbox ≡ opened s send unit inbox
