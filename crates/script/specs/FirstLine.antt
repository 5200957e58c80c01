-- The first line: the word `ends` and six numbers, each behind one blank.
-- Assumes nothing.
use Rattle.std.specs.Prelude.{ℕ, cond, ◌&&◌, List, [], ◌∷◌, drop, Option, Some, None, is_some, unwrap_or}
use Rattle.script.specs.TextParts.{begins, word_of, behind_word}
use Rattle.digits.specs.DecimalRead.{number_of}
use Rattle.script.specs.declared.Sizes.{Sizes}

-- all six are numbers
abbrev pub six_of : Option ℕ → Option ℕ → Option ℕ → Option ℕ → Option ℕ → Option ℕ → Option Sizes
six_of a b c d e f =
    cond (is_some a && is_some b && is_some c && is_some d && is_some e && is_some f)
    (Some (record {
      window12 = unwrap_or a 0;
      max12 = unwrap_or b 0;
      window21 = unwrap_or c 0;
      max21 = unwrap_or d 0;
      inbox1 = unwrap_or e 0;
      inbox2 = unwrap_or f 0;
    }))
    None

-- each number ends at the next blank, the sixth with the text; where a blank is missing nothing stands behind it, which is no number
unfoldable pub sizes_of : List ℕ → Option Sizes
sizes_of text =
    let text2 = behind_word text in
    let text3 = behind_word text2 in
    let text4 = behind_word text3 in
    let text5 = behind_word text4 in
    let text6 = behind_word text5 in
    six_of (number_of (word_of text)) (number_of (word_of text2)) (number_of (word_of text3)) (number_of (word_of text4)) (number_of (word_of text5))
    (number_of text6)

-- `ends` and a blank
abbrev pub ends_word : List ℕ
ends_word = 0x65 ∷ 0x6E ∷ 0x64 ∷ 0x73 ∷ 0x20 ∷ []

unfoldable pub first_line_of : List ℕ → Option Sizes
first_line_of line = cond (begins line ends_word) (sizes_of (drop 5 line)) None
