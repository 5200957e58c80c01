-- Refusal numbers, the table of senses, and the answers of calls.
-- Assumes nothing.
use Rattle.std.specs.Prelude.{ℕ, Bool, false, cond, ◌&&◌, List, [], ◌∷◌, eqb, get_or}
use Rattle.control.specs.declared.WhatReceived.{WhatReceived}
use Rattle.control.specs.declared.WhatReceived.TheVariants as mark
use Rattle.answers.specs.declared.Answer.{Answer}
use Rattle.answers.specs.declared.ReadAnswer.{ReadAnswer}
use Rattle.answers.specs.declared.ExpeditedAnswer.{ExpeditedAnswer}

-- ---- the paper's numbers

abbrev pub BAD_ROLE : ℕ
BAD_ROLE = 1

abbrev pub BAD_WINDOW : ℕ
BAD_WINDOW = 2

abbrev pub BAD_MAXIMUM : ℕ
BAD_MAXIMUM = 3

abbrev pub BAD_BUFFER : ℕ
BAD_BUFFER = 4

abbrev pub BAD_RECORD : ℕ
BAD_RECORD = 5

abbrev pub BAD_LENGTH : ℕ
BAD_LENGTH = 6

abbrev pub WRONG_STATE : ℕ
WRONG_STATE = 7

abbrev pub BAD_LL : ℕ
BAD_LL = 8

abbrev pub UNFINISHED_RECORD : ℕ
UNFINISHED_RECORD = 9

abbrev pub NO_CREDIT : ℕ
NO_CREDIT = 10

abbrev pub NOTHING_TO_PACE : ℕ
NOTHING_TO_PACE = 11

abbrev pub NOTHING_TO_READ : ℕ
NOTHING_TO_READ = 12

abbrev pub UNREAD_MARK : ℕ
UNREAD_MARK = 13

abbrev pub SHORT_UNIT : ℕ
SHORT_UNIT = 20

abbrev pub BAD_HEADER : ℕ
BAD_HEADER = 21

abbrev pub BAD_RU : ℕ
BAD_RU = 22

abbrev pub BAD_NUMBER : ℕ
BAD_NUMBER = 23

abbrev pub BAD_CHAIN : ℕ
BAD_CHAIN = 24

abbrev pub BAD_BRACKET : ℕ
BAD_BRACKET = 25

abbrev pub BAD_STATE : ℕ
BAD_STATE = 26

abbrev pub BAD_PACING : ℕ
BAD_PACING = 27

abbrev pub BAD_RESPONSE : ℕ
BAD_RESPONSE = 28

abbrev pub BAD_RECORDS : ℕ
BAD_RECORDS = 29

-- document 02's numbers, of this side's own calls
abbrev pub SIGNAL_UNANSWERED : ℕ
SIGNAL_UNANSWERED = 30

abbrev pub NO_SIZE_BYTE : ℕ
NO_SIZE_BYTE = 31

abbrev pub BAD_ATTACH : ℕ
BAD_ATTACH = 36

abbrev pub LONG_ATTACH : ℕ
LONG_ATTACH = 37

-- the senses by number, zero where none; document 02's numbers go to 38, and none of them has one
abbrev pub senses : List ℕ
senses =
    0 ∷ 0 ∷ 0 ∷ 0 ∷ 0 ∷ 0 ∷ 0 ∷ 0 ∷ 0 ∷ 0
    ∷ 0 ∷ 0 ∷ 0 ∷ 0 ∷ 0 ∷ 0 ∷ 0 ∷ 0 ∷ 0 ∷ 0
    ∷ 0x40050000 ∷ 0 ∷ 0x10020000 ∷ 0x20010000 ∷ 0x20020000 ∷ 0x20030000 ∷ 0x20040000 ∷ 0x20110000 ∷ 0x200E0000 ∷ 0
    ∷ 0 ∷ 0 ∷ 0 ∷ 0 ∷ 0 ∷ 0 ∷ 0 ∷ 0 ∷ 0
    ∷ []

abbrev pub sense_of : ℕ → ℕ
sense_of n = get_or senses n 0

-- ---- answers

-- accepted, with the length of the unit made
abbrev pub accepted : ℕ → Answer
accepted n = record { refusal = 0; sense = 0; rule = 0; unit = n }

-- refused; the rule is named with 21 only
abbrev pub refused_naming : ℕ → ℕ → Answer
refused_naming rule q = record { refusal = q; sense = sense_of q; rule = cond (eqb q BAD_HEADER) rule 0; unit = 0 }

abbrev pub refused : ℕ → Answer
refused q = record { refusal = q; sense = sense_of q; rule = 0; unit = 0 }

-- a refusal of a read: nothing copied, no record complete, so no part that another follows; no mark
abbrev pub read_refused : ℕ → ReadAnswer
read_refused q = record { answer = refused q; copied = 0; complete = false; more = false; mark = mark.Nothing }

-- a read accepted: the count copied, whether a record is complete, whether that record is a part that another follows, and the mark
abbrev pub read_accepted : ℕ → Bool → Bool → WhatReceived → ReadAnswer
read_accepted k complete more what = record { answer = accepted 0; copied = k; complete = complete; more = more; mark = what }

-- a take on the expedited line: it tells the program of a signal that is taken; a refusal has no there
abbrev pub expedited_answer : Answer → Bool → ExpeditedAnswer
expedited_answer a signal = record { answer = a; signalled = eqb a.refusal 0 && signal }
