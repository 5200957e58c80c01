-- The lines beside those of calls: the opening, a call that was not made, a line that fits no form, and each end at the end of the input.
-- Assumes nothing.
use Rattle.std.specs.Prelude.{ℕ, Bool, List, ◌++◌}
use Rattle.script.specs.declared.Request.{Request}
use Rattle.control.specs.declared.WhatReceived.{WhatReceived}
use Rattle.control.specs.declared.State.{State}
use Rattle.report.specs.Ascii.{ascii}
use Rattle.report.specs.AnswerWords.{end_word, mark_word, state_word}
use Rattle.digits.specs.Printed.{decimal_of}
use Rattle.report.specs.AnswerLine.{call_text}

unfoldable pub open_text : Bool → ℕ → List ℕ
open_text second refusal = end_word second ++ ascii " open " ++ decimal_of refusal ++ ascii "\n"

-- a take with nothing waiting
unfoldable pub nothing_waiting_text : Bool → Request → List ℕ
nothing_waiting_text second request = call_text second request ++ ascii " -\n"

-- the line to the other end is full
unfoldable pub full_text : Bool → Request → List ℕ
full_text second request = call_text second request ++ ascii " full\n"

unfoldable pub bad_line_text : ℕ → List ℕ
bad_line_text k = ascii "bad line " ++ decimal_of k ++ ascii "\n"

-- ---- at the end of the input

unfoldable pub state_text : Bool → State → WhatReceived → List ℕ
state_text second state mark = end_word second ++ ascii " " ++ state_word state ++ ascii " mark " ++ mark_word mark

unfoldable pub count_text : List ℕ → ℕ → List ℕ
count_text label n = label ++ decimal_of n

-- bytes held in the send buffer and in the inbox, requests that may still be sent and taken, units that wait to be taken, on the normal
-- line and on the expedited one
unfoldable pub counts_text : ℕ → ℕ → ℕ → ℕ → ℕ → ℕ → List ℕ
counts_text send inbox credit opened waiting expedited =
    count_text (ascii " send ") send
    ++ count_text (ascii " inbox ") inbox
    ++ count_text (ascii " credit ") credit
    ++ count_text (ascii " open ") opened
    ++ count_text (ascii " waiting ") waiting
    ++ count_text (ascii " expedited ") expedited

unfoldable pub end_text : Bool → State → WhatReceived → ℕ → ℕ → ℕ → ℕ → ℕ → ℕ → List ℕ
end_text second state mark send inbox credit opened waiting expedited =
    state_text second state mark ++ counts_text send inbox credit opened waiting expedited ++ ascii "\n"
