-- Headers on the expedited lines, by document 02's S-1: a signal is 4B 80 00, its answer CB 80 00. So what three bytes say is a function of the line: on the
-- normal one 4B 80 00 breaks H2 and CB 80 00 is a grant.
-- Assumes nothing.
use Rattle.std.specs.Prelude.{◌+◌, Bool, true, false, not, cond, ◌&&◌, ◌||◌, List, [], ◌∷◌, eqb, Result, Ok, Err}
use Rattle.header.specs.Weights.{RESPONSE, FLOW_CONTROL, FORMAT, FIRST, LAST, DR1}
use Rattle.header.specs.Rules.{bytes, one_of, one_of_headers}
use Rattle.header.specs.declared.HeaderBytes.{HeaderBytes}
use Rattle.header.specs.declared.Rule.{Rule}
use Rattle.header.specs.declared.Rule.TheVariants.{H1, H2}
use Rattle.header.specs.declared.ExpeditedHeader.{ExpeditedHeader}
use Rattle.header.specs.declared.ExpeditedHeader.TheVariants.{Signal, SignalResponse}

-- ---- the rules, of which these lines have two

-- H1: byte 0 is 4B or CB
abbrev pub keeps_expedited_h1 : HeaderBytes → Bool
keeps_expedited_h1 h = one_of h.b0 (0x4B ∷ 0xCB ∷ [])

-- H2, of these: the header is one of the two
abbrev pub expedited_headers : List HeaderBytes
expedited_headers = bytes 0x4B 0x80 0x00 ∷ bytes 0xCB 0x80 0x00 ∷ []

abbrev pub keeps_expedited_h2 : HeaderBytes → Bool
keeps_expedited_h2 h = not (keeps_expedited_h1 h) || one_of_headers h expedited_headers

unfoldable pub expedited_good : HeaderBytes → Bool
expedited_good h = keeps_expedited_h1 h && keeps_expedited_h2 h

-- the rule that a header which is not good breaks: one of the two, and never both
unfoldable pub broken_expedited : HeaderBytes → Rule
broken_expedited h = cond (keeps_expedited_h1 h) H2 H1

-- ---- fields and bytes

abbrev pub is_signal : ExpeditedHeader → Bool
is_signal Signal = true
is_signal SignalResponse = false

unfoldable pub expedited_bytes : ExpeditedHeader → HeaderBytes
expedited_bytes Signal = bytes (FLOW_CONTROL + FORMAT + FIRST + LAST) DR1 0
expedited_bytes SignalResponse = bytes (RESPONSE + FLOW_CONTROL + FORMAT + FIRST + LAST) DR1 0

-- the fields of a header that is good
unfoldable pub expedited_fields : HeaderBytes → ExpeditedHeader
expedited_fields h = cond (eqb h.b0 0x4B) Signal SignalResponse

-- ---- reading

-- what is read of three bytes on an expedited line
unfoldable pub read_expedited : HeaderBytes → Result ExpeditedHeader Rule
read_expedited h = cond (expedited_good h) (Ok (expedited_fields h)) (Err (broken_expedited h))
