-- A line that asks for a call: the end, a blank, and the words.
-- Assumes nothing.
use Rattle.std.specs.Prelude.{ℕ, Bool, true, false, cond, List, [], ◌∷◌, length, drop, Option, None}
use Rattle.script.specs.TextParts.{begins}
use Rattle.script.specs.WordsAsked.{Reading, no_bytes, word_rows, row_of, given_of, take_of, read_of}
use Rattle.cells.specs.Cells.{front}
use Rattle.script.specs.declared.Verb.TheVariants.{SendData}
use Rattle.script.specs.declared.Request.TheVariants.{Call}
use Rattle.script.specs.declared.Asked.{Asked}

-- the words before bytes and numbers, each with its blank: `send `, `take `, `read `
abbrev pub send_word : List ℕ
send_word = 0x73 ∷ 0x65 ∷ 0x6E ∷ 0x64 ∷ 0x20 ∷ []

abbrev pub take_word : List ℕ
take_word = 0x74 ∷ 0x61 ∷ 0x6B ∷ 0x65 ∷ 0x20 ∷ []

abbrev pub read_word : List ℕ
read_word = 0x72 ∷ 0x65 ∷ 0x61 ∷ 0x64 ∷ 0x20 ∷ []

unfoldable pub request_of : Bool → List ℕ → ℕ → Reading
request_of second words cells =
    cond (begins words send_word) (given_of second (Call SendData) (drop 5 words) cells)
    (cond (begins words take_word) (take_of second (drop 5 words) cells)
    (cond (begins words read_word) (no_bytes (read_of second (drop 5 words)))
    (no_bytes (row_of second words word_rows))))

-- `1 `, `2 `
abbrev pub first_end : List ℕ
first_end = 0x31 ∷ 0x20 ∷ []

abbrev pub second_end : List ℕ
second_end = 0x32 ∷ 0x20 ∷ []

-- what a line asks, where `cells` cells are lent for its bytes
unfoldable pub call_of : List ℕ → ℕ → Reading
call_of line cells =
    cond (begins line first_end) (request_of false (drop 2 line) cells)
    (cond (begins line second_end) (request_of true (drop 2 line) cells)
    (no_bytes None))

abbrev pub parsed_of : List ℕ → ℕ → Option Asked
parsed_of line cells = (call_of line cells).parsed

-- the cells lent, with the bytes that the line gives at their front
abbrev pub cells_of : List ℕ → List ℕ → List ℕ
cells_of line cells = front (call_of line (length cells)).given cells
