-- What is counted of a unit, by its bytes.
-- Assumes nothing.
use Rattle.std.specs.Prelude.{ℕ, ◌+◌, Bool, not, cond, ◌&&◌, ◌||◌, List, [], ◌∷◌, drop}
use Rattle.cells.specs.Equal.{same_bytes}
use Rattle.header.specs.Weights.{on}
use Rattle.header.specs.Rules.{is_data, bytes, same_header}
use Rattle.unit.specs.Ru.{error_ru}
use Rattle.unit.specs.Unit.{RU_START, header_in}

abbrev pub count : Bool → ℕ
count b = cond b 1 0

-- how many units a test finds
unfoldable pub among : (List ℕ → Bool) → List (List ℕ) → ℕ
among found [] = 0
among found (u ∷ us) = count (found u) + among found us

-- on the line the data RUs, oldest first
abbrev pub data_ru : List ℕ → List ℕ
data_ru u = cond (is_data (header_in u)) (drop RU_START u) []

-- a unit without weight 80 in header byte 0
abbrev pub is_request : List ℕ → Bool
is_request u = not (on 0x80 (header_in u).b0)

abbrev pub requests_among : List (List ℕ) → ℕ
requests_among us = among is_request us

-- a pacing answer: 83 01 00
abbrev pub is_pacing_response : List ℕ → Bool
is_pacing_response u = same_header (header_in u) (bytes 0x83 0x01 0x00)

-- on an expedited line, a signal: 4B 80 00; and the response to one: CB 80 00
abbrev pub is_signal_unit : List ℕ → Bool
is_signal_unit u = same_header (header_in u) (bytes 0x4B 0x80 0x00)

abbrev pub is_response_unit : List ℕ → Bool
is_response_unit u = same_header (header_in u) (bytes 0xCB 0x80 0x00)

-- a negative confirmation: 87 30 00
abbrev pub is_negative_confirmation : List ℕ → Bool
is_negative_confirmation u = same_header (header_in u) (bytes 0x87 0x30 0x00)

-- an error header: 0B 90 00, or 0B 91 00 with the pacing bit, and its RU
abbrev pub is_error_header : List ℕ → Bool
is_error_header u =
    (same_header (header_in u) (bytes 0x0B 0x90 0x00) || same_header (header_in u) (bytes 0x0B 0x91 0x00)) && same_bytes (drop RU_START u) error_ru
