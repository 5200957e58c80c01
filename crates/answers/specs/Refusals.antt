-- The reasons of refusals, their numbers, and what a question and a row of questions give.
-- Assumes nothing.
use Rattle.std.specs.Prelude.{ℕ, Bool, cond, ⊤, Result, Ok, Err}
use Rattle.answers.specs.declared.refusals.Refusal.{Refusal}
use Rattle.answers.specs.declared.refusals.Refusal.TheVariants as why
use Rattle.answers.specs.Answers as n

-- the papers' numbers of the reasons
abbrev pub refusal_number : Refusal → ℕ
refusal_number why.BadRole = n.BAD_ROLE
refusal_number why.BadWindow = n.BAD_WINDOW
refusal_number why.BadMaximum = n.BAD_MAXIMUM
refusal_number why.BadBuffer = n.BAD_BUFFER
refusal_number why.BadRecord = n.BAD_RECORD
refusal_number why.BadLength = n.BAD_LENGTH
refusal_number why.WrongState = n.WRONG_STATE
refusal_number why.BadLl = n.BAD_LL
refusal_number why.UnfinishedRecord = n.UNFINISHED_RECORD
refusal_number why.NoCredit = n.NO_CREDIT
refusal_number why.NothingToPace = n.NOTHING_TO_PACE
refusal_number why.NothingToRead = n.NOTHING_TO_READ
refusal_number why.UnreadMark = n.UNREAD_MARK
refusal_number why.ShortUnit = n.SHORT_UNIT
refusal_number why.BadHeader = n.BAD_HEADER
refusal_number why.BadRu = n.BAD_RU
refusal_number why.BadNumber = n.BAD_NUMBER
refusal_number why.BadChain = n.BAD_CHAIN
refusal_number why.BadBracket = n.BAD_BRACKET
refusal_number why.BadState = n.BAD_STATE
refusal_number why.BadPacing = n.BAD_PACING
refusal_number why.BadResponse = n.BAD_RESPONSE
refusal_number why.BadRecords = n.BAD_RECORDS
refusal_number why.SignalUnanswered = n.SIGNAL_UNANSWERED
refusal_number why.NoSizeByte = n.NO_SIZE_BYTE
refusal_number why.BadAttach = n.BAD_ATTACH
refusal_number why.LongAttach = n.LONG_ATTACH

-- one question: answered no, it refuses for its reason
abbrev pub asked : Bool → Refusal → Result ⊤ Refusal
asked ok why = cond ok (Ok tt) (Err why)

-- the next question of a row: `?` hands on the refusal before it, and else it is asked
abbrev pub asked_after : Result ⊤ Refusal → Bool → Refusal → Result ⊤ Refusal
asked_after (Ok _) ok why = asked ok why
asked_after (Err before) ok why = Err before

-- the number of an outcome: 0 where nothing refuses, else the reason's
abbrev pub outcome_number : Result ⊤ Refusal → ℕ
outcome_number (Ok _) = 0
outcome_number (Err why) = refusal_number why
