-- What a call leaves: a pure decision first, and then the cells of each buffer that it is lent, as the decision has them.
-- Assumes nothing.
use Rattle.std.specs.Prelude.{ℕ, ◌+◌, cond, List, eqb, length}
use Rattle.cells.specs.Cells.{front}
use Rattle.unit.specs.Unit.{RU_START, unit_of}
use Rattle.unit.specs.ExpeditedUnit.{expedited_ru, expedited_of}
use Rattle.header.specs.declared.Header.{Header}
use Rattle.header.specs.declared.ExpeditedHeader.{ExpeditedHeader}
use Rattle.control.specs.declared.Control.{Control}
use Rattle.answers.specs.Answers.{accepted, refused}
use Rattle.answers.specs.declared.Answer.{Answer}
use Rattle.sending.specs.declared.Sending.{Sending}
use Rattle.receiving.specs.declared.Receiving.{Receiving}
use Rattle.expedited.specs.declared.Expedited.{Expedited}
use Rattle.end.specs.declared.End.{End}
use Rattle.end.specs.declared.Done.{Done}
use Rattle.answers.specs.declared.ReadAnswer.{ReadAnswer}
use Rattle.answers.specs.declared.ExpeditedAnswer.{ExpeditedAnswer}

-- the unit that a call makes, if it makes one: number, header and RU; or, for the expedited line, number and header, which has one RU
pub data Out : Type 0 where
  nothing : Out
  a_unit : ℕ → Header → List ℕ → Out
  expedited_unit : ℕ → ExpeditedHeader → Out

abbrev pub length_out : Out → ℕ
length_out nothing = 0
length_out (a_unit n h ru) = RU_START + length ru
length_out (expedited_unit n h) = RU_START + length (expedited_ru h)

-- the unit stands at the front of the unit buffer
abbrev pub cells_out : Out → List ℕ → List ℕ
cells_out nothing cells = cells
cells_out (a_unit n h ru) cells = front (unit_of n h ru) cells
cells_out (expedited_unit n h) cells = front (expedited_of n h) cells

-- the decision of a call: its refusal number, 0 if it is accepted; the new record; and the unit made
pub record Decision : Type 0 where
  pub refusal : ℕ
  pub end : End
  pub out : Out

-- refused: nothing is changed and nothing made
abbrev pub refuse : ℕ → End → Decision
refuse q e = record { refusal = q; end = e; out = nothing }

abbrev pub accept : End → Out → Decision
accept e u = record { refusal = 0; end = e; out = u }

-- the questions are asked, and the effect stands if none is answered no
abbrev pub decided : ℕ → End → Decision → Decision
decided q e d = cond (eqb q 0) d (refuse q e)

abbrev pub answer_of : Decision → Answer
answer_of d = cond (eqb d.refusal 0) (accepted (length_out d.out)) (refused d.refusal)

abbrev pub done_of : Decision → Done Answer
done_of d = record { answer = answer_of d; end = d.end }

-- what a call leaves that is lent the unit buffer
pub record Made : Type 0 where
  pub done : Done Answer
  pub unit : List ℕ

-- the send buffer and the unit buffer
pub record Sent : Type 0 where
  pub done : Done Answer
  pub send : List ℕ
  pub unit : List ℕ

-- the inbox and the unit buffer
pub record Taken : Type 0 where
  pub done : Done Answer
  pub inbox : List ℕ
  pub unit : List ℕ

-- a take on the expedited line is lent the unit buffer
pub record TakenExpedited : Type 0 where
  pub done : Done ExpeditedAnswer
  pub unit : List ℕ

-- the inbox and the caller's buffer
pub record Copied : Type 0 where
  pub done : Done ReadAnswer
  pub inbox : List ℕ
  pub buffer : List ℕ

abbrev pub made : Decision → List ℕ → Made
made d cells = record { done = done_of d; unit = cells_out d.out cells }

-- ---- parts of a record changed

abbrev pub with_control : Control → End → End
with_control c e = record { control = c; sending = e.sending; receiving = e.receiving; bidding = e.bidding; owed = e.owed; expedited = e.expedited }

abbrev pub with_sending : Sending → End → End
with_sending s e = record { control = e.control; sending = s; receiving = e.receiving; bidding = e.bidding; owed = e.owed; expedited = e.expedited }

abbrev pub with_receiving : Receiving → End → End
with_receiving r e = record { control = e.control; sending = e.sending; receiving = r; bidding = e.bidding; owed = e.owed; expedited = e.expedited }

abbrev pub with_bidding : ℕ → End → End
with_bidding n e = record { control = e.control; sending = e.sending; receiving = e.receiving; bidding = n; owed = e.owed; expedited = e.expedited }

abbrev pub with_owed : ℕ → End → End
with_owed n e = record { control = e.control; sending = e.sending; receiving = e.receiving; bidding = e.bidding; owed = n; expedited = e.expedited }

abbrev pub with_expedited : Expedited → End → End
with_expedited x e =
    record { control = e.control; sending = e.sending; receiving = e.receiving; bidding = e.bidding; owed = e.owed; expedited = x }
