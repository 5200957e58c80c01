-- The steps by which the reader of the expedited lines decides: the bits of byte 0, byte 1 and byte 2, each once, in document 000's order, as on the
-- normal line.
-- Assumes nothing.
use Rattle.std.specs.Prelude.{Bool, true, false, not, cond, ◌&&◌, Result, Ok, Err}
use Rattle.header.specs.HeaderSteps.{form_is, bracket_is}
use Rattle.header.specs.Indicators.{byte0, byte1, byte2}
use Rattle.header.specs.declared.indicators.Byte0.{Byte0}
use Rattle.header.specs.declared.indicators.Byte1.{Byte1}
use Rattle.header.specs.declared.indicators.Byte2.{Byte2}
use Rattle.header.specs.declared.HeaderBytes.{HeaderBytes}
use Rattle.header.specs.declared.Rule.{Rule}
use Rattle.header.specs.declared.Rule.TheVariants.{H1, H2}
use Rattle.header.specs.declared.ExpeditedHeader.{ExpeditedHeader}
use Rattle.header.specs.declared.ExpeditedHeader.TheVariants.{Signal, SignalResponse}

-- flow control with format, without sense data, alone in its chain; request or response
abbrev pub bits_expedited_h1 : Byte0 → Bool
bits_expedited_h1 b = not b.other && ((b.flow && b.format) && (not b.sense && (b.first && b.last)))

-- the form (1,0,0) without pacing, and nothing in byte 2
abbrev pub bits_expedited_h2 : Byte1 → Byte2 → Bool
bits_expedited_h2 b1 b2 = (not b1.pacing && form_is b1 true false false) && bracket_is b2 false

unfoldable pub read_expedited_bits : HeaderBytes → Result ExpeditedHeader Rule
read_expedited_bits h =
    cond (bits_expedited_h1 (byte0 h.b0))
    (cond (bits_expedited_h2 (byte1 h.b1) (byte2 h.b2)) (cond (byte0 h.b0).response (Ok SignalResponse) (Ok Signal)) (Err H2))
    (Err H1)
