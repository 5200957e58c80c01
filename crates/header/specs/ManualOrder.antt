-- What is claimed of the reader's order, document 000's: no header gets another answer by it. Promised by the function
-- `theorems::manual_order`.
-- Assumes nothing.
use Rattle.std.specs.Prelude.{◌≡◌, ℕ, ◌<◌, Err}
use Rattle.header.specs.Rules.{bytes}
use Rattle.header.specs.Header.{read_header}
use Rattle.header.specs.HeaderSteps.{read_bits}
use Rattle.header.specs.declared.Rule.{Rule}
use Rattle.header.specs.declared.Rule.TheVariants.{H1, H3, H5}

-- each of the 2^24 headers, read bit by bit, gets the answer that the rules give
abbrev pub SameAnswers : Type 0
SameAnswers = (x y z : ℕ) → x < 256 → y < 256 → z < 256 → read_bits (bytes x y z) ≡ read_header (bytes x y z)

-- the reader's steps name this rule
abbrev pub Names : ℕ → ℕ → ℕ → Rule → Type 0
Names x y z r = read_bits (bytes x y z) ≡ Err r

-- headers in which a bit breaks a rule and a later bit one of a lower number, or in which one bit alone would tell another kind
pub record LaterBits : Type 0 where
  -- byte 2 is tested to its end: BB not on the first, or CD not on the last, breaks H6, and a later bit breaks H5
  pub bb_code_selection : Names 0x00 0x90 0x88 H5
  pub bb_end_bracket : Names 0x01 0x91 0xC0 H5
  pub cd_enciphered : Names 0x02 0x90 0x24 H5
  pub bb_padded : Names 0x01 0x90 0x82 H5
  pub bb_cd_ceb : Names 0x00 0x90 0xA1 H5
  -- byte 1 is tested to its end: DR2 not on the last breaks H4, if no later bit breaks H3
  pub dr2_exception : Names 0x00 0x30 0x00 H3
  pub dr2_queued : Names 0x02 0x22 0x00 H3
  pub dr2_reserved : Names 0x00 0x28 0x88 H3
  -- the category is two bits: network control is not data, session control not flow control
  pub network_control : Names 0x20 0x90 0x00 H1
  pub network_control_response : Names 0xA3 0x20 0x00 H1
  pub session_control : Names 0x6B 0x80 0x80 H1
