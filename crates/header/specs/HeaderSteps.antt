-- The steps by which the reader decides on three bytes: their bits, the rules asked of the bits, and the kinds. What it promises is
-- `read_header`, in Header.antt; that the two are the same is `SameAnswers`, in ManualOrder.antt.
-- Assumes nothing.
use Rattle.std.specs.Prelude.{Bool, true, false, not, cond, ◌&&◌, ◌||◌, eqb, leb, Result, Ok, Err}
use Rattle.std.specs.Bool.{beq}
use Rattle.header.specs.Header.{begin_of, follow_of, end_of}
use Rattle.header.specs.Indicators.{byte0, byte1, byte2}
use Rattle.header.specs.declared.indicators.Byte0.{Byte0}
use Rattle.header.specs.declared.indicators.Byte1.{Byte1}
use Rattle.header.specs.declared.indicators.Byte2.{Byte2}
use Rattle.header.specs.declared.HeaderBytes.{HeaderBytes}
use Rattle.header.specs.declared.Rule.{Rule}
use Rattle.header.specs.declared.Rule.TheVariants.{H1, H2, H3, H4, H5, H6}
use Rattle.header.specs.declared.DataHeader.{DataHeader}
use Rattle.header.specs.declared.Header.{Header}
use Rattle.header.specs.declared.Header.TheVariants.{Data, Bid, ErrorDescription}
use Rattle.header.specs.declared.Header.TheVariants.{PositiveBidResponse, NegativeBidResponse, Confirmation, NegativeConfirmation, PacingResponse}

-- ---- byte 0: H1

abbrev pub alone : Byte0 → Bool
alone b = b.first && b.last

-- a response is alone in its chain, and has format in flow control; a request has no sense data, and is data, or has format and is alone
abbrev pub bits_h1 : Byte0 → Bool
bits_h1 b =
    cond b.response (not b.other && (alone b && beq b.format b.flow))
    (not b.other && (not b.sense && (not (b.flow || b.format) || (b.format && alone b))))

-- ---- bytes 1 and 2 of a fixed kind: H2

-- the form of response is this one
abbrev pub form_is : Byte1 → Bool → Bool → Bool → Bool
form_is b dr1 dr2 exception = not b.other && (beq b.dr1 dr1 && (beq b.dr2 dr2 && beq b.exception exception))

-- BB is on, or off, and no other bit is on
abbrev pub bracket_is : Byte2 → Bool → Bool
bracket_is b bb = not b.other && (beq b.bb bb && (not b.cd && not b.ceb))

abbrev pub fixed_read : Bool → Header → Result Header Rule
fixed_read ok f = cond ok (Ok f) (Err H2)

-- an error description and a bid, whose pacing bit is free
abbrev pub request_read : Byte1 → Byte2 → Bool → Bool → Header → Result Header Rule
request_read b1 b2 exception bb f = fixed_read (form_is b1 true false exception && bracket_is b2 bb) f

-- a response of this form, with the pacing bit off
abbrev pub response_read : Byte1 → Byte2 → Bool → Bool → Bool → Header → Result Header Rule
response_read b1 b2 dr1 dr2 negative f = fixed_read ((not b1.pacing && form_is b1 dr1 dr2 negative) && bracket_is b2 false) f

-- a pacing response, of no form and with the pacing bit on, or a confirmation
abbrev pub positive_read : Byte1 → Byte2 → Result Header Rule
positive_read b1 b2 = fixed_read (form_is b1 false (not b1.pacing) false && bracket_is b2 false) (cond b1.pacing PacingResponse Confirmation)

-- ---- bytes 1 and 2 of data: H3 to H6

abbrev pub bits_h3 : Byte1 → Bool
bits_h3 b = form_is b true false true || form_is b false true false

abbrev pub bits_h4 : Byte0 → Byte1 → Bool
bits_h4 b0 b1 = not b1.dr2 || b0.last

abbrev pub bits_h5 : Byte2 → Bool
bits_h5 b = not b.other && not (b.cd && b.ceb)

abbrev pub bits_h6 : Byte0 → Byte2 → Bool
bits_h6 b0 b2 = (not b2.bb || b0.first) && (not (b2.cd || b2.ceb) || b0.last)

abbrev pub fields_read : Byte0 → Byte1 → Byte2 → DataHeader
fields_read b0 b1 b2 =
    record {
      begins = begin_of b0.first b2.bb;
      ends = end_of b0.last (follow_of b2.cd b2.ceb) b1.dr2;
      pacing = b1.pacing;
    }

-- the lowest of four rules that is not kept, or the fields
abbrev pub first_broken : Bool → Bool → Bool → Bool → DataHeader → Result Header Rule
first_broken h3 h4 h5 h6 d =
    cond (not h3) (Err H3) (cond (not h4) (Err H4) (cond (not h5) (Err H5) (cond (not h6) (Err H6) (Ok (Data d)))))

-- H4 looks at byte 0 too and waits for all of byte 1 to keep H3; H6 does, and waits for all of byte 2 to keep H5
abbrev pub data_read : Byte0 → Byte1 → Byte2 → Result Header Rule
data_read b0 b1 b2 = first_broken (bits_h3 b1) (bits_h4 b0 b1) (bits_h5 b2) (bits_h6 b0 b2) (fields_read b0 b1 b2)

-- ---- the kind, by byte 0, and all of it

unfoldable pub kind_read : HeaderBytes → Result Header Rule
kind_read h =
    let b1 = byte1 h.b1 in
    let b2 = byte2 h.b2 in
    cond (leb h.b0 0x03) (data_read (byte0 h.b0) b1 b2)
    (cond (eqb h.b0 0x0B) (request_read b1 b2 true false (ErrorDescription b1.pacing))
    (cond (eqb h.b0 0x4B) (request_read b1 b2 false true (Bid b1.pacing))
    (cond (eqb h.b0 0x83) (positive_read b1 b2)
    (cond (eqb h.b0 0x87) (response_read b1 b2 false true true NegativeConfirmation)
    (cond (eqb h.b0 0xCB) (response_read b1 b2 true false false PositiveBidResponse)
    (response_read b1 b2 true false true NegativeBidResponse))))))

unfoldable pub read_bits : HeaderBytes → Result Header Rule
read_bits h = cond (bits_h1 (byte0 h.b0)) (kind_read h) (Err H1)
