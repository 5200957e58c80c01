-- The end's record: what the paper's section of that name allows (question 5), and what a call may be lent (question 4).
-- Assumes nothing.
use Rattle.std.specs.Prelude.{ℕ, ◌+◌, Bool, ◌&&◌, eqb, leb}
use Rattle.pacing.specs.Pacing.{credit}
use Rattle.control.specs.Within.{control_good}
use Rattle.receiving.specs.Receiving.{receiving_good}
use Rattle.sending.specs.Sending.{sending_good}
use Rattle.end.specs.declared.End.{End}

-- credit (sending) and open (receiving)
abbrev pub credit_of : End → ℕ
credit_of e = credit e.sending.window

abbrev pub open_of : End → ℕ
open_of e = credit e.receiving.window

-- 5: is the record within the section 'The end's record'?
unfoldable pub record_good : End → Bool
record_good e = control_good e.control && (sending_good e.control e.sending && receiving_good e.receiving)

-- ---- 4: of each buffer that a call is lent, by its length

-- is the send buffer at least M?
abbrev pub send_lent : End → ℕ → Bool
send_lent e n = leb e.sending.max n

-- the unit buffer at least M+5?
abbrev pub unit_lent : End → ℕ → Bool
unit_lent e n = leb (e.sending.max + 5) n

-- the inbox exactly as long as the record says?
abbrev pub inbox_lent : End → ℕ → Bool
inbox_lent e n = eqb n e.receiving.inbox
