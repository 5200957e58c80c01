-- What is claimed of headers on the expedited lines, as HeaderClaims and ManualOrder do of those on the normal line. Promised by the function
-- `theorems::expedited_headers`.
-- Assumes nothing.
use Rattle.std.specs.Prelude.{◌≡◌, false, ℕ, ◌<◌, Ok, Err}
use Rattle.header.specs.Rules.{bytes}
use Rattle.header.specs.Header.{read_header}
use Rattle.header.specs.HeaderClaims.{how_many}
use Rattle.header.specs.ExpeditedHeader.{keeps_expedited_h1, keeps_expedited_h2, expedited_good, expedited_bytes, read_expedited}
use Rattle.header.specs.ExpeditedSteps.{read_expedited_bits}
use Rattle.header.specs.declared.HeaderBytes.{HeaderBytes}
use Rattle.header.specs.declared.Rule.TheVariants.{H1, H2}
use Rattle.header.specs.declared.Header.TheVariants.{PositiveBidResponse}
use Rattle.header.specs.declared.ExpeditedHeader.{ExpeditedHeader}
use Rattle.header.specs.declared.ExpeditedHeader.TheVariants.{Signal, SignalResponse}

-- every header built is read back as the same fields
abbrev pub ExpeditedBuiltIsRead : Type 0
ExpeditedBuiltIsRead = (f : ExpeditedHeader) → read_expedited (expedited_bytes f) ≡ Ok f

-- every header accepted is rebuilt as the same bytes
abbrev pub ExpeditedReadIsBuilt : Type 0
ExpeditedReadIsBuilt = (h : HeaderBytes) (f : ExpeditedHeader) → read_expedited h ≡ Ok f → expedited_bytes f ≡ h

-- the rule that is named is H1 or H2, and it is broken; no header breaks both
pub record ExpeditedRuleBroken : Type 0 where
  pub h1 : (h : HeaderBytes) → read_expedited h ≡ Err H1 → keeps_expedited_h1 h ≡ false
  pub h2 : (h : HeaderBytes) → read_expedited h ≡ Err H2 → keeps_expedited_h2 h ≡ false
  pub not_both : (h : HeaderBytes) → keeps_expedited_h1 h ≡ false → keeps_expedited_h2 h ≡ false → ⊥

-- exactly two of the 2^24 headers are good
abbrev pub ExpeditedTwo : Type 0
ExpeditedTwo = how_many expedited_good ≡ 2

-- each of the 2^24 headers, read bit by bit in document 000's order, gets the answer that the rules give
abbrev pub ExpeditedSameAnswers : Type 0
ExpeditedSameAnswers = (x y z : ℕ) → x < 256 → y < 256 → z < 256 → read_expedited_bits (bytes x y z) ≡ read_expedited (bytes x y z)

-- what three bytes say goes by the line
pub record ByTheLine : Type 0 where
  pub signal : read_expedited (bytes 0x4B 0x80 0x00) ≡ Ok Signal
  pub no_bid : read_header (bytes 0x4B 0x80 0x00) ≡ Err H2
  pub response : read_expedited (bytes 0xCB 0x80 0x00) ≡ Ok SignalResponse
  pub grant : read_header (bytes 0xCB 0x80 0x00) ≡ Ok PositiveBidResponse
  pub bid : read_expedited (bytes 0x4B 0x81 0x80) ≡ Err H2
  pub confirmation : read_expedited (bytes 0x83 0x20 0x00) ≡ Err H1
