-- The line that says what a call answered.
-- Assumes nothing.
use Rattle.std.specs.Prelude.{ℕ, Bool, cond, List, [], ◌++◌, eqb, leb, length}
use Rattle.script.specs.declared.Request.{Request}
use Rattle.control.specs.declared.WhatReceived.{WhatReceived}
use Rattle.control.specs.StateTests.{is_nothing}
use Rattle.answers.specs.Answers.{SHORT_UNIT, BAD_HEADER}
use Rattle.report.specs.Ascii.{ascii}
use Rattle.report.specs.AnswerWords.{end_word, request_words, mark_word}
use Rattle.digits.specs.Printed.{decimal_of, hex_of, hex_word_of}

-- the end, and the call's words
unfoldable pub call_text : Bool → Request → List ℕ
call_text second request = end_word second ++ ascii " " ++ request_words request

-- the sense, with refusals 20 and above
unfoldable pub sense_text : ℕ → ℕ → List ℕ
sense_text refusal sense = cond (leb SHORT_UNIT refusal) (ascii " " ++ hex_word_of sense) []

-- the rule, with refusal 21
unfoldable pub rule_text : ℕ → ℕ → List ℕ
rule_text refusal rule = cond (eqb refusal BAD_HEADER) (ascii " H" ++ decimal_of rule) []

unfoldable pub refusal_text : ℕ → ℕ → ℕ → List ℕ
refusal_text refusal sense rule = ascii " " ++ decimal_of refusal ++ sense_text refusal sense ++ rule_text refusal rule

-- bytes under their label, where there are any
unfoldable pub bytes_text : List ℕ → List ℕ → List ℕ
bytes_text label bytes = cond (eqb (length bytes) 0) [] (label ++ hex_of bytes)

-- a flag's word, where the flag is set
unfoldable pub flag_text : List ℕ → Bool → List ℕ
flag_text word set = cond set word []

unfoldable pub mark_text : WhatReceived → List ℕ
mark_text mark = cond (is_nothing mark) [] (ascii " mark " ++ mark_word mark)

-- what a read adds, or the take of a signal
unfoldable pub told_text : List ℕ → Bool → Bool → Bool → WhatReceived → List ℕ
told_text copied complete more signalled mark =
    bytes_text (ascii " bytes ") copied
    ++ flag_text (ascii " complete") complete
    ++ flag_text (ascii " more") more
    ++ flag_text (ascii " signalled") signalled
    ++ mark_text mark

-- `unit` is the unit made, `copied` what a read copied, each empty where there is none
unfoldable pub answer_text : Bool → Request → ℕ → ℕ → ℕ → List ℕ → List ℕ → Bool → Bool → Bool → WhatReceived → List ℕ
answer_text second request refusal sense rule unit copied complete more signalled mark =
    call_text second request
    ++ refusal_text refusal sense rule
    ++ bytes_text (ascii " unit ") unit
    ++ told_text copied complete more signalled mark
    ++ ascii "\n"
