-- Opening from the session's own bytes, and the byte of a size (document 02, S-3).
-- Assumes nothing.
use Rattle.std.specs.Prelude.{ℕ, ◌≡◌}
use Rattle.bind.specs.SessionBytes.{window_of, mantissa, exponent, times, size_of, one_byte, no_byte, size_byte}
use Rattle.session.specs.Opening.{opened, zero_end}
use Rattle.session.specs.BindOpening.{opened_by_bytes}
use Rattle.session.specs.BindClaims.{EqualNumbers}
use Rattle.session.specs.declared.bind_opening.SessionBytes.{SessionBytes}
use Rattle.end.specs.declared.Done.{Done}
use Rattle.answers.specs.declared.Answer.{Answer}
use Rattle.answers.specs.Answers.{accepted, refused}
use Rattle.worked_examples.specs.Stations.{session}

-- the same window byte and size byte both ways
abbrev pub bytes : ℕ → ℕ → ℕ → SessionBytes
bytes role window size = record { role = role; outwindow = window; inwindow = window; outsize = size; insize = size }

-- with the longest send and unit buffers of any session, and an inbox of 7 × 1,024
abbrev pub opens : SessionBytes → Done Answer
opens b = opened_by_bytes b 1024 1029 7168

abbrev pub Fails : SessionBytes → ℕ → Type 0
Fails b number = opens b ≡ record { answer = refused number; end = zero_end }

-- ---- "a window is the low six bits, and a size byte has mantissa a (high four bits, 8 to 15) and exponent b (low four bits)"

pub record Meanings : Type 0 where
  -- "85 is 256, 87 is 1,024, 97 is 1,152 and fails with 3, as does a mantissa below 8"
  pub size_85 : size_of 0x85 ≡ 256
  pub size_87 : size_of 0x87 ≡ 1024
  pub size_97 : times (mantissa 0x97) (exponent 0x97) ≡ 1152
  pub fails_97 : Fails (bytes 0 0x07 0x97) 3
  pub fails_75 : Fails (bytes 0 0x07 0x75) 3
  -- one size byte of the two is enough
  pub fails_outsize : Fails (record { role = 0; outwindow = 7; inwindow = 7; outsize = 0x75; insize = 0x85 }) 3
  pub fails_insize : Fails (record { role = 0; outwindow = 7; inwindow = 7; outsize = 0x85; insize = 0x75 }) 3
  -- the two high bits of a window byte say nothing of the window
  pub window_c7 : window_of 0xC7 ≡ 7
  pub fails_40 : Fails (bytes 0 0x40 0x87) 2
  pub greatest_window : window_of 0xFF ≡ 63
  -- document 000's figure E-1: the least size and the greatest
  pub least : size_of 0x80 ≡ 8
  pub greatest : times (mantissa 0xFF) (exponent 0xFF) ≡ 491520

-- ---- "A session opened either way with equal numbers is the same end."

pub record SameWay : Type 0 where
  pub equal : EqualNumbers (bytes 1 0xC7 0x87) (session 1 7 1024)
  pub same : opens (bytes 1 0xC7 0x87) ≡ opened (session 1 7 1024) 1024 1029 7168
  pub accepts : (opens (bytes 1 0xC7 0x87)).answer ≡ accepted 0
  -- the numbers in their order, 1, 2, 3, 4
  pub role_first : Fails (bytes 2 0x40 0x75) 1
  pub window_second : Fails (bytes 0 0x40 0x75) 2
  pub size_third : opened_by_bytes (bytes 0 0x07 0x75) 0 0 0 ≡ record { answer = refused 3; end = zero_end }
  pub buffers_last : opened_by_bytes (bytes 0 0x07 0x87) 1023 1029 7168 ≡ record { answer = refused 4; end = zero_end }

-- ---- "the way back as well .. refusing, with byte 0, a size out of range (3) or one that no byte means"

pub record Back : Type 0 where
  pub of_256 : size_byte 256 ≡ one_byte 0x85
  pub of_1024 : size_byte 1024 ≡ one_byte 0x87
  pub of_8 : size_byte 8 ≡ one_byte 0x80
  pub of_960 : size_byte 960 ≡ one_byte 0xF6
  pub of_1023 : size_byte 1023 ≡ no_byte 31
  pub of_17 : size_byte 17 ≡ no_byte 31
  pub of_7 : size_byte 7 ≡ no_byte 3
  pub of_1025 : size_byte 1025 ≡ no_byte 3
  -- a byte means it, but it is no maximum
  pub of_1152 : size_byte 1152 ≡ no_byte 3
  pub of_0 : size_byte 0 ≡ no_byte 3

pub record FromBytes : Type 0 where
  pub meanings : Meanings
  pub same_way : SameWay
  pub back : Back
