-- The fields of a header, and its bytes.
-- Assumes nothing.
use Rattle.std.specs.Prelude.{◌+◌, Bool, true, false, cond, eqb, Result, Ok, Err}
use Rattle.header.specs.Weights.{RESPONSE, FLOW_CONTROL, FORMAT, SENSE, FIRST, LAST, DR1, DR2, EXCEPTION, PACING, BB, CD, CEB, on, bit}
use Rattle.header.specs.Rules.{bytes, is_data, requests_confirmation, lowest_broken, header_good}
use Rattle.header.specs.declared.HeaderBytes.{HeaderBytes}
use Rattle.header.specs.declared.Follows.{Follows}
use Rattle.header.specs.declared.Follows.TheVariants.{Stay, ChangeDirection, EndBracket}
use Rattle.header.specs.declared.ChainBegin.{ChainBegin}
use Rattle.header.specs.declared.ChainBegin.TheVariants.{Continued, First, FirstWithBracket}
use Rattle.header.specs.declared.ChainEnd.{ChainEnd}
use Rattle.header.specs.declared.ChainEnd.TheVariants.{Continues, Last}
use Rattle.header.specs.declared.DataHeader.{DataHeader}
use Rattle.header.specs.declared.Header.{Header}
use Rattle.header.specs.declared.Rule.{Rule}
use Rattle.header.specs.declared.Header.TheVariants.{Data, Bid, ErrorDescription}
use Rattle.header.specs.declared.Header.TheVariants.{PositiveBidResponse, NegativeBidResponse, Confirmation, NegativeConfirmation, PacingResponse}

-- ---- what a data header says

abbrev pub is_first : ChainBegin → Bool
is_first Continued = false
is_first First = true
is_first FirstWithBracket = true

abbrev pub begins_bracket : ChainBegin → Bool
begins_bracket Continued = false
begins_bracket First = false
begins_bracket FirstWithBracket = true

abbrev pub is_last : ChainEnd → Bool
is_last Continues = false
is_last (Last f c) = true

-- a confirmation is requested
abbrev pub confirms : ChainEnd → Bool
confirms Continues = false
confirms (Last f c) = c

abbrev pub follows_of : ChainEnd → Follows
follows_of Continues = Stay
follows_of (Last f c) = f

abbrev pub turns : Follows → Bool
turns Stay = false
turns ChangeDirection = true
turns EndBracket = false

abbrev pub ends_bracket : Follows → Bool
ends_bracket Stay = false
ends_bracket ChangeDirection = false
ends_bracket EndBracket = true

-- ---- the bytes of a header

abbrev pub data_bytes : DataHeader → HeaderBytes
data_bytes d =
    bytes (bit (is_first d.begins) FIRST + bit (is_last d.ends) LAST)
    (cond (confirms d.ends) DR2 (DR1 + EXCEPTION) + bit d.pacing PACING)
    (bit (begins_bracket d.begins) BB + bit (turns (follows_of d.ends)) CD + bit (ends_bracket (follows_of d.ends)) CEB)

unfoldable pub header_bytes : Header → HeaderBytes
header_bytes (Data d) = data_bytes d
header_bytes (Bid p) = bytes (FLOW_CONTROL + FORMAT + FIRST + LAST) (DR1 + bit p PACING) BB
header_bytes (ErrorDescription p) = bytes (FORMAT + FIRST + LAST) (DR1 + EXCEPTION + bit p PACING) 0
header_bytes PositiveBidResponse = bytes (RESPONSE + FLOW_CONTROL + FORMAT + FIRST + LAST) DR1 0
header_bytes NegativeBidResponse = bytes (RESPONSE + FLOW_CONTROL + FORMAT + SENSE + FIRST + LAST) (DR1 + EXCEPTION) 0
header_bytes Confirmation = bytes (RESPONSE + FIRST + LAST) DR2 0
header_bytes NegativeConfirmation = bytes (RESPONSE + SENSE + FIRST + LAST) (DR2 + EXCEPTION) 0
header_bytes PacingResponse = bytes (RESPONSE + FIRST + LAST) PACING 0

-- ---- the fields of a header that is good

abbrev pub begin_of : Bool → Bool → ChainBegin
begin_of first bb = cond first (cond bb FirstWithBracket First) Continued

abbrev pub follow_of : Bool → Bool → Follows
follow_of cd ceb = cond cd ChangeDirection (cond ceb EndBracket Stay)

abbrev pub end_of : Bool → Follows → Bool → ChainEnd
end_of last f confirm = cond last (Last f confirm) Continues

abbrev pub data_fields : HeaderBytes → DataHeader
data_fields h =
    record {
      begins = begin_of (on FIRST h.b0) (on BB h.b2);
      ends = end_of (on LAST h.b0) (follow_of (on CD h.b2) (on CEB h.b2)) (requests_confirmation h.b1);
      pacing = on PACING h.b1;
    }

unfoldable pub fields_of : HeaderBytes → Header
fields_of h =
    cond (is_data h) (Data (data_fields h))
    (cond (eqb h.b0 0x0B) (ErrorDescription (on PACING h.b1))
    (cond (eqb h.b0 0x4B) (Bid (on PACING h.b1))
    (cond (eqb h.b0 0x83) (cond (on PACING h.b1) PacingResponse Confirmation)
    (cond (eqb h.b0 0x87) NegativeConfirmation
    (cond (eqb h.b0 0xCB) PositiveBidResponse NegativeBidResponse)))))

-- ---- reading

-- what is read of three bytes: the fields of a good header, or the lowest rule that is broken
unfoldable pub read_header : HeaderBytes → Result Header Rule
read_header h = cond (header_good h) (Ok (fields_of h)) (Err (lowest_broken h))
