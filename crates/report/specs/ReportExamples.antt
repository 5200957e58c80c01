-- The example's output, the bid that crosses the first speaker's data, line by line; then lines that it lacks. Each is computed.
-- Assumes nothing.
use Rattle.std.specs.Prelude.{ℕ, ◌≡◌, refl, Bool, true, false, List, [], ◌∷◌}
use Rattle.script.specs.Closing.{deallocate}
use Rattle.script.specs.declared.Verb.TheVariants as verb
use Rattle.script.specs.declared.Flow.TheVariants.{Normal, Expedited}
use Rattle.script.specs.declared.Request.{Request}
use Rattle.script.specs.declared.Request.TheVariants.{Call, Take, Offer}
use Rattle.control.specs.declared.WhatReceived.{WhatReceived}
use Rattle.control.specs.declared.WhatReceived.TheVariants as mark
use Rattle.control.specs.declared.State.TheVariants as state
use Rattle.control.specs.declared.Deferred.TheVariants.{Turn, End}
use Rattle.report.specs.Ascii.{ascii}
use Rattle.digits.specs.Printed.{decimal_in, decimal_of, hex_of, hex_word_of}
use Rattle.report.specs.AnswerLine.{call_text, sense_text, rule_text, refusal_text, bytes_text, flag_text, mark_text, told_text, answer_text}
use Rattle.report.specs.OtherLines.{open_text, nothing_waiting_text, full_text, bad_line_text, state_text, count_text, counts_text, end_text}

-- a call accepted, with the unit that it made
abbrev accepted : Bool → Request → List ℕ → List ℕ
accepted second request unit = answer_text second request 0 0 0 unit [] false false false mark.Nothing

-- a read accepted, at end 2
abbrev read : List ℕ → Bool → Bool → WhatReceived → List ℕ
read copied complete more m = answer_text true (Call verb.Receive) 0 0 0 [] copied complete more false m

-- a call refused: number, sense and rule
abbrev refused : Bool → Request → ℕ → ℕ → ℕ → List ℕ
refused second request refusal sense rule = answer_text second request refusal sense rule [] [] false false false mark.Nothing

opened : (open_text false 0 ≡ ascii "1 open 0\n") × (open_text true 0 ≡ ascii "2 open 0\n")
unfolding decimal_in decimal_of open_text
opened = (refl, refl)

-- ---- units

a_bid : List ℕ
a_bid = 0x00 ∷ 0x01 ∷ 0x4B ∷ 0x81 ∷ 0x80 ∷ 0x04 ∷ 0x00 ∷ 0x06 ∷ 0x00 ∷ 0x00 ∷ []

a_record : List ℕ
a_record = 0x00 ∷ 0x01 ∷ 0x03 ∷ 0x91 ∷ 0x81 ∷ 0x00 ∷ 0x05 ∷ 0x41 ∷ 0x42 ∷ 0x43 ∷ []

a_grant : List ℕ
a_grant = 0x00 ∷ 0x01 ∷ 0xCB ∷ 0x80 ∷ 0x00 ∷ 0x04 ∷ []

a_denial : List ℕ
a_denial = 0x00 ∷ 0x07 ∷ 0x87 ∷ 0x30 ∷ 0x00 ∷ 0x08 ∷ 0x46 ∷ 0x00 ∷ 0x00 ∷ []

a_signal : List ℕ
a_signal = 0x00 ∷ 0x01 ∷ 0x4B ∷ 0x80 ∷ 0x00 ∷ 0xC9 ∷ 0x00 ∷ 0x01 ∷ 0x00 ∷ 0x00 ∷ []

a_signal_answer : List ℕ
a_signal_answer = 0x00 ∷ 0x01 ∷ 0xCB ∷ 0x80 ∷ 0x00 ∷ 0xC9 ∷ []

-- ---- the example

bids : accepted true (Call verb.Allocate) a_bid ≡ ascii "2 allocate 0 unit 00014B81800400060000\n"
unfolding a_bid decimal_in decimal_of hex_of hex_word_of call_text sense_text rule_text refusal_text bytes_text flag_text mark_text told_text answer_text
bids = refl

speaks : (accepted false (Call verb.Allocate) [] ≡ ascii "1 allocate 0\n")
    × (accepted false (Call verb.SendData) [] ≡ ascii "1 send 0\n")
    × (accepted false (Call (deallocate false)) a_record ≡ ascii "1 end 0 unit 00010391810005414243\n")
unfolding a_record decimal_in decimal_of hex_of hex_word_of call_text sense_text rule_text refusal_text bytes_text flag_text mark_text told_text answer_text
speaks = (refl, refl, refl)

takes : (accepted false (Take Normal) a_grant ≡ ascii "1 take 0 unit 0001CB800004\n")
    × (accepted true (Take Normal) [] ≡ ascii "2 take 0\n")
    × (refused true (Take Normal) 13 0 0 ≡ ascii "2 take 13\n")
    × (nothing_waiting_text false (Take Normal) ≡ ascii "1 take -\n")
unfolding a_grant decimal_in decimal_of hex_of hex_word_of call_text sense_text rule_text refusal_text bytes_text flag_text mark_text told_text answer_text nothing_waiting_text
takes = (refl, refl, refl, refl)

reads : (read (0x00 ∷ 0x05 ∷ 0x41 ∷ []) false false mark.Nothing ≡ ascii "2 read 0 bytes 000541\n")
    × (read (0x42 ∷ 0x43 ∷ []) true false mark.Nothing ≡ ascii "2 read 0 bytes 4243 complete\n")
    × (read [] false false mark.End ≡ ascii "2 read 0 mark end\n")
unfolding decimal_in decimal_of hex_of hex_word_of call_text sense_text rule_text refusal_text bytes_text flag_text mark_text told_text answer_text
reads = (refl, refl, refl)

ends : (end_text false state.Receive mark.Nothing 0 0 2 2 0 0 ≡ ascii "1 Receive mark none send 0 inbox 0 credit 2 open 2 waiting 0 expedited 0\n")
    × (end_text true state.Send mark.Nothing 0 0 2 2 0 0 ≡ ascii "2 Send mark none send 0 inbox 0 credit 2 open 2 waiting 0 expedited 0\n")
unfolding decimal_in decimal_of state_text count_text counts_text end_text
ends = (refl, refl)

-- ---- what it lacks

-- a part that another follows
more_follows : read (0x42 ∷ 0x43 ∷ []) true true mark.Nothing ≡ ascii "2 read 0 bytes 4243 complete more\n"
unfolding decimal_in decimal_of hex_of hex_word_of call_text sense_text rule_text refusal_text bytes_text flag_text mark_text told_text answer_text
more_follows = refl

-- a turn or an end prepared, and withdrawn
prepares : (accepted false (Call (verb.Defer Turn)) [] ≡ ascii "1 prepare turn 0\n")
    × (refused true (Call (verb.Defer End)) 9 0 0 ≡ ascii "2 prepare end 9\n")
    × (refused false (Call verb.Withdraw) 7 0 0 ≡ ascii "1 withdraw 7\n")
    × (full_text true (Call (verb.Defer Turn)) ≡ ascii "2 prepare turn full\n")
unfolding decimal_in decimal_of hex_of hex_word_of call_text sense_text rule_text refusal_text bytes_text flag_text mark_text told_text answer_text full_text
prepares = (refl, refl, refl, refl)

-- the last lines of ends that have prepared one
defers : (end_text false state.DeferTurn mark.Nothing 5 0 3 3 1 0 ≡ ascii "1 Defer-turn mark none send 5 inbox 0 credit 3 open 3 waiting 1 expedited 0\n")
    × (end_text true state.DeferEnd mark.Nothing 0 0 2 2 0 0 ≡ ascii "2 Defer-end mark none send 0 inbox 0 credit 2 open 2 waiting 0 expedited 0\n")
unfolding decimal_in decimal_of state_text count_text counts_text end_text
defers = (refl, refl)

-- a confirmation refused, and the mark of the error header that says why
denies : (accepted true (Call verb.SendError) a_denial ≡ ascii "2 deny 0 unit 000787300008460000\n")
    × (refused false (Call verb.SendError) 7 0 0 ≡ ascii "1 deny 7\n")
    × (full_text false (Call verb.SendError) ≡ ascii "1 deny full\n")
    × (read [] false false mark.Error ≡ ascii "2 read 0 mark error\n")
unfolding a_denial decimal_in decimal_of hex_of hex_word_of call_text sense_text rule_text refusal_text bytes_text flag_text mark_text told_text answer_text full_text
denies = (refl, refl, refl, refl)

-- the last line of an end at which that mark stands, bytes before it unread
waits_marked : end_text false state.Receive mark.Error 0 3 2 1 0 0 ≡ ascii "1 Receive mark error send 0 inbox 3 credit 2 open 1 waiting 0 expedited 0\n"
unfolding decimal_in decimal_of state_text count_text counts_text end_text
waits_marked = refl

-- the turn asked for
asks_for_turn : (accepted true (Call verb.RequestToSend) a_signal ≡ ascii "2 request 0 unit 00014B8000C900010000\n")
    × (refused true (Call verb.RequestToSend) 30 0 0 ≡ ascii "2 request 30 00000000\n")
    × (full_text false (Call verb.RequestToSend) ≡ ascii "1 request full\n")
unfolding a_signal decimal_in decimal_of hex_of hex_word_of call_text sense_text rule_text refusal_text bytes_text flag_text mark_text told_text answer_text full_text
asks_for_turn = (refl, refl, refl)

-- a signal taken, and a unit refused that is none
takes_expedited : (answer_text false (Take Expedited) 0 0 0 a_signal_answer [] false false true mark.Nothing
    ≡ ascii "1 take expedited 0 unit 0001CB8000C9 signalled\n")
    × (refused false (Offer Expedited) 21 0 2 ≡ ascii "1 take expedited 21 00000000 H2\n")
unfolding a_signal_answer decimal_in decimal_of hex_of hex_word_of call_text sense_text rule_text refusal_text bytes_text flag_text mark_text told_text answer_text
takes_expedited = (refl, refl)

-- a take with nothing waiting, and one whose answer would find no place
no_expedited_take : (nothing_waiting_text true (Take Expedited) ≡ ascii "2 take expedited -\n")
    × (full_text true (Offer Expedited) ≡ ascii "2 take expedited full\n")
unfolding call_text full_text nothing_waiting_text
no_expedited_take = (refl, refl)

-- `signalled` stands before a mark and behind all else
all_told : answer_text false (Take Expedited) 0 0 0 a_signal_answer (0x41 ∷ []) true true true mark.End
    ≡ ascii "1 take expedited 0 unit 0001CB8000C9 bytes 41 complete more signalled mark end\n"
unfolding a_signal_answer decimal_in decimal_of hex_of hex_word_of call_text sense_text rule_text refusal_text bytes_text flag_text mark_text told_text answer_text
all_told = refl

-- the last line of an end for which a unit waits on each line
waits_on_both : end_text true state.Receive mark.Nothing 0 0 2 2 3 1
    ≡ ascii "2 Receive mark none send 0 inbox 0 credit 2 open 2 waiting 3 expedited 1\n"
unfolding decimal_in decimal_of state_text count_text counts_text end_text
waits_on_both = refl

-- a sense from 20 on, and a rule with 21 only
breaches : (refused false (Offer Normal) 20 0x40050000 0 ≡ ascii "1 take 20 40050000\n")
    × (refused false (Offer Normal) 21 0 3 ≡ ascii "1 take 21 00000000 H3\n")
    × (refused true (Take Normal) 22 0x10020000 3 ≡ ascii "2 take 22 10020000\n")
    × (refused true (Call verb.Receive) 12 0 0 ≡ ascii "2 read 12\n")
unfolding decimal_in decimal_of hex_of hex_word_of call_text sense_text rule_text refusal_text bytes_text flag_text mark_text told_text answer_text
breaches = (refl, refl, refl, refl)

-- calls that were not made, and long numbers
others : (full_text false (Call (deallocate true)) ≡ ascii "1 end confirm full\n")
    × (bad_line_text 1048576 ≡ ascii "bad line 1048576\n")
    × (end_text true state.ConfirmAwaited mark.ConfirmTurn 1024 65535 10 9 512 0
    ≡ ascii "2 Waits mark confirm-turn send 1024 inbox 65535 credit 10 open 9 waiting 512 expedited 0\n")
unfolding decimal_in decimal_of call_text full_text bad_line_text state_text count_text counts_text end_text
others = (refl, refl, refl)
