-- What the words of a line ask, behind the end that it names.
-- Assumes nothing.
use Rattle.std.specs.Prelude.{ℕ, min, Bool, true, false, cond, List, [], ◌∷◌, leb, drop, Option, Some, None}
use Rattle.cells.specs.Cells.{front}
use Rattle.cells.specs.Equal.{same_bytes}
use Rattle.digits.specs.DecimalRead.{number_of}
use Rattle.digits.specs.HexadecimalRead.{bytes_read, hex_answer, hex_bytes}
use Rattle.control.specs.declared.Deferred.TheVariants.{Turn, End}
use Rattle.script.specs.declared.Verb.TheVariants.{Allocate, Confirmed, SendError, RequestToSend, SendPacingResponse, SendData, Defer, Withdraw, Receive}
use Rattle.script.specs.TextParts.{begins}
use Rattle.script.specs.Closing.{flush, confirm, prepare_to_receive, deallocate}
use Rattle.script.specs.declared.Flow.{Flow}
use Rattle.script.specs.declared.Flow.TheVariants.{Normal, Expedited}
use Rattle.script.specs.declared.Request.{Request}
use Rattle.script.specs.declared.Request.TheVariants.{Call, Take, Offer}
use Rattle.script.specs.declared.Asked.{Asked}

-- what a line asks, and the bytes that it gives
pub record Reading : Type 0 where
  pub parsed : Option Asked
  pub given : List ℕ

-- no byte is given
abbrev pub no_bytes : Option Asked → Reading
no_bytes p = record { parsed = p; given = [] }

-- what is handed back, and the cells lent, with the bytes given at their front
abbrev pub handed_back : Reading → List ℕ → Option Asked × List ℕ
handed_back x cells = (x.parsed, front x.given cells)

abbrev pub plain : Bool → Request → ℕ → Option Asked
plain second request count = Some (record { second = second; request = request; count = count })

-- ---- words that stand alone

-- each with what it asks
abbrev pub word_rows : List (List ℕ × Request)
word_rows =
    -- allocate
    (0x61 ∷ 0x6C ∷ 0x6C ∷ 0x6F ∷ 0x63 ∷ 0x61 ∷ 0x74 ∷ 0x65 ∷ [], Call Allocate)
    -- flush
    ∷ (0x66 ∷ 0x6C ∷ 0x75 ∷ 0x73 ∷ 0x68 ∷ [], Call flush)
    -- confirm
    ∷ (0x63 ∷ 0x6F ∷ 0x6E ∷ 0x66 ∷ 0x69 ∷ 0x72 ∷ 0x6D ∷ [], Call confirm)
    -- confirmed
    ∷ (0x63 ∷ 0x6F ∷ 0x6E ∷ 0x66 ∷ 0x69 ∷ 0x72 ∷ 0x6D ∷ 0x65 ∷ 0x64 ∷ [], Call Confirmed)
    -- turn
    ∷ (0x74 ∷ 0x75 ∷ 0x72 ∷ 0x6E ∷ [], Call (prepare_to_receive false))
    -- turn confirm
    ∷ (0x74 ∷ 0x75 ∷ 0x72 ∷ 0x6E ∷ 0x20 ∷ 0x63 ∷ 0x6F ∷ 0x6E ∷ 0x66 ∷ 0x69 ∷ 0x72 ∷ 0x6D ∷ [], Call (prepare_to_receive true))
    -- end
    ∷ (0x65 ∷ 0x6E ∷ 0x64 ∷ [], Call (deallocate false))
    -- end confirm
    ∷ (0x65 ∷ 0x6E ∷ 0x64 ∷ 0x20 ∷ 0x63 ∷ 0x6F ∷ 0x6E ∷ 0x66 ∷ 0x69 ∷ 0x72 ∷ 0x6D ∷ [], Call (deallocate true))
    -- prepare turn
    ∷ (0x70 ∷ 0x72 ∷ 0x65 ∷ 0x70 ∷ 0x61 ∷ 0x72 ∷ 0x65 ∷ 0x20 ∷ 0x74 ∷ 0x75 ∷ 0x72 ∷ 0x6E ∷ [], Call (Defer Turn))
    -- prepare end
    ∷ (0x70 ∷ 0x72 ∷ 0x65 ∷ 0x70 ∷ 0x61 ∷ 0x72 ∷ 0x65 ∷ 0x20 ∷ 0x65 ∷ 0x6E ∷ 0x64 ∷ [], Call (Defer End))
    -- withdraw
    ∷ (0x77 ∷ 0x69 ∷ 0x74 ∷ 0x68 ∷ 0x64 ∷ 0x72 ∷ 0x61 ∷ 0x77 ∷ [], Call Withdraw)
    -- deny
    ∷ (0x64 ∷ 0x65 ∷ 0x6E ∷ 0x79 ∷ [], Call SendError)
    -- take
    ∷ (0x74 ∷ 0x61 ∷ 0x6B ∷ 0x65 ∷ [], Take Normal)
    -- pace
    ∷ (0x70 ∷ 0x61 ∷ 0x63 ∷ 0x65 ∷ [], Call SendPacingResponse)
    -- send
    ∷ (0x73 ∷ 0x65 ∷ 0x6E ∷ 0x64 ∷ [], Call SendData)
    -- request
    ∷ (0x72 ∷ 0x65 ∷ 0x71 ∷ 0x75 ∷ 0x65 ∷ 0x73 ∷ 0x74 ∷ [], Call RequestToSend)
    ∷ []

-- the first row that has these words
abbrev pub row_of : Bool → List ℕ → List (List ℕ × Request) → Option Asked
row_of second words [] = None
row_of second words (row ∷ rows) = cond (same_bytes words row.0) (plain second row.1 0) (row_of second words rows)

-- ---- bytes, a unit, a number

abbrev pub counted : Bool → Request → Option ℕ → Option Asked
counted second request (Some n) = plain second request n
counted second request None = None

-- 1 to 2,048 bytes, for which there are cells
unfoldable pub given_of : Bool → Request → List ℕ → ℕ → Reading
given_of second request text cells =
    let found : Option (List ℕ) = bytes_read text (min 2048 cells) in
    record { parsed = counted second request (hex_answer found); given = hex_bytes found }

-- `-` is a unit of no byte
abbrev pub no_unit : List ℕ
no_unit = 0x2D ∷ []

unfoldable pub offer_of : Bool → Flow → List ℕ → ℕ → Reading
offer_of second flow text cells = cond (same_bytes text no_unit) (no_bytes (plain second (Offer flow) 0)) (given_of second (Offer flow) text cells)

-- `expedited`, and with a blank behind it
abbrev pub expedited_line : List ℕ
expedited_line = 0x65 ∷ 0x78 ∷ 0x70 ∷ 0x65 ∷ 0x64 ∷ 0x69 ∷ 0x74 ∷ 0x65 ∷ 0x64 ∷ []

abbrev pub expedited_unit : List ℕ
expedited_unit = 0x65 ∷ 0x78 ∷ 0x70 ∷ 0x65 ∷ 0x64 ∷ 0x69 ∷ 0x74 ∷ 0x65 ∷ 0x64 ∷ 0x20 ∷ []

-- what stands behind `take `: the expedited line, with a unit or without, or a unit for the normal one
unfoldable pub take_of : Bool → List ℕ → ℕ → Reading
take_of second text cells =
    cond (same_bytes text expedited_line) (no_bytes (plain second (Take Expedited) 0))
    (cond (begins text expedited_unit) (offer_of second Expedited (drop 10 text) cells)
    (offer_of second Normal text cells))

-- a buffer of 0 to 2,048 cells
abbrev pub read_into : Bool → Option ℕ → Option Asked
read_into second (Some n) = cond (leb n 2048) (plain second (Call Receive) n) None
read_into second None = None

unfoldable pub read_of : Bool → List ℕ → Option Asked
read_of second text = read_into second (number_of text)
