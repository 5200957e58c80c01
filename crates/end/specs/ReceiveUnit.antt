-- Take one unit from the normal line.
-- Assumes nothing.
use Rattle.std.specs.Prelude.{ℕ, ◌+◌, Bool, cond, ◌&&◌, List, [], ◌∷◌, ◌++◌, eqb, leb, length, drop}
use Rattle.cells.specs.Cells.{written}
use Rattle.logical_record.specs.Walk.{walk, place_or}
use Rattle.header.specs.Rules.{rule_number, lowest_broken, header_good}
use Rattle.header.specs.Header.{fields_of, confirms}
use Rattle.unit.specs.Ru.{fixed_ru}
use Rattle.unit.specs.Unit.{RU_START, number_in, header_in}
use Rattle.header.specs.declared.DataHeader.{DataHeader}
use Rattle.header.specs.declared.Header.{Header}
use Rattle.header.specs.declared.Header.TheVariants.{Data, Bid, ErrorDescription, PositiveBidResponse, NegativeBidResponse, Confirmation}
use Rattle.header.specs.declared.Header.TheVariants.{NegativeConfirmation, PacingResponse}
use Rattle.control.specs.StateTests.{is_nothing}
use Rattle.control.specs.Questions.{positive_response_fits, negative_response_fits, confirmation_fits}
use Rattle.transitions.specs.Transitions.{data_received, error_received, bid_received, bid_answer, positive_response_received, negative_response_received}
use Rattle.transitions.specs.Transitions.{confirmation_received, negative_confirmation_received}
use Rattle.answers.specs.FirstNo.{first_no}
use Rattle.answers.specs.Answers.{BAD_BUFFER, BAD_RECORD, UNREAD_MARK, SHORT_UNIT, BAD_HEADER, accepted, refused_naming}
use Rattle.answers.specs.declared.Answer.{Answer}
use Rattle.sending.specs.Sending.{credit_answered}
use Rattle.receiving.specs.Receiving.{request_received}
use Rattle.receiving.specs.UnitQuestions.{data_questions, bid_questions, error_questions, response_questions, pacing_questions}
use Rattle.end.specs.Record.{record_good, inbox_lent, unit_lent}
use Rattle.end.specs.Outcome.{nothing, a_unit, length_out, cells_out, Decision, accept, decided, Taken, with_control, with_sending, with_receiving, with_owed}
use Rattle.end.specs.declared.End.{End}
use Rattle.end.specs.declared.Done.{Done}

-- ---- questions

-- what is asked of each kind of unit, by number and RU
abbrev pub kind_questions : End → Header → ℕ → List ℕ → List (Bool × ℕ)
kind_questions e (Data d) n ru = data_questions e.control e.receiving d n ru
kind_questions e (Bid p) n ru = bid_questions e.control e.receiving p n ru
kind_questions e (ErrorDescription p) n ru = error_questions e.control e.receiving p n ru
kind_questions e PositiveBidResponse n ru =
    response_questions e.receiving.max PositiveBidResponse (positive_response_fits e.control && eqb n e.bidding) ru
kind_questions e NegativeBidResponse n ru =
    response_questions e.receiving.max NegativeBidResponse (negative_response_fits e.control && eqb n e.bidding) ru
kind_questions e Confirmation n ru =
    response_questions e.receiving.max Confirmation (confirmation_fits e.control && eqb n e.sending.number) ru
kind_questions e NegativeConfirmation n ru =
    response_questions e.receiving.max NegativeConfirmation (confirmation_fits e.control && eqb n e.sending.number) ru
kind_questions e PacingResponse n ru = pacing_questions e.receiving.max e.sending.window.pending n ru

-- what is asked of the end alone, before a byte of the unit is read
abbrev pub end_questions : End → ℕ → ℕ → List (Bool × ℕ)
end_questions e inbox unit =
    (inbox_lent e inbox && unit_lent e unit, BAD_BUFFER) ∷ (record_good e, BAD_RECORD) ∷ (is_nothing e.control.mark, UNREAD_MARK) ∷ []

-- what is asked before the kind is known
abbrev pub head_questions : End → List ℕ → ℕ → ℕ → List (Bool × ℕ)
head_questions e taken inbox unit =
    end_questions e inbox unit ++ ((leb RU_START (length taken), SHORT_UNIT) ∷ (header_good (header_in taken), BAD_HEADER) ∷ [])

abbrev pub header_received : List ℕ → Header
header_received taken = fields_of (header_in taken)

-- the RU is handed on from byte 5
abbrev pub ru_received : List ℕ → List ℕ
ru_received taken = drop RU_START taken

unfoldable pub receive_unit_refusal : End → List ℕ → ℕ → ℕ → ℕ
receive_unit_refusal e taken inbox unit =
    first_no (head_questions e taken inbox unit ++ kind_questions e (header_received taken) (number_in taken) (ru_received taken))

-- ---- effects

-- bytes join the inbox; a unit that marks leaves its mark, and the number owed if confirmation was requested
unfoldable pub data_joined : End → DataHeader → ℕ → List ℕ → Decision
data_joined e d n ru =
    accept
    (with_owed (cond (confirms d.ends) n e.owed)
    (with_receiving
    (request_received (e.receiving.held + length ru) (place_or e.receiving.taken (walk e.receiving.taken ru)) e.receiving)
    (with_control (data_received d.ends e.control) e)))
    nothing

-- an error header leaves its mark, and none of its bytes joins the inbox
unfoldable pub error_marked : End → Decision
error_marked e =
    accept
    (with_receiving (request_received e.receiving.held e.receiving.taken e.receiving) (with_control (error_received e.control) e))
    nothing

-- a bid is answered under its own number
unfoldable pub bid_answered : End → ℕ → Decision
bid_answered e n =
    accept
    (with_receiving (request_received e.receiving.held e.receiving.taken e.receiving) (with_control (bid_received e.control) e))
    (a_unit n (bid_answer e.control) (fixed_ru (bid_answer e.control)))

-- credit rises by W, unanswered off
unfoldable pub credit_raised : End → Decision
credit_raised e =
    accept
    (with_sending (credit_answered e.sending) e)
    nothing

abbrev pub kind_received : End → Header → ℕ → List ℕ → Decision
kind_received e (Data d) n ru = data_joined e d n ru
kind_received e (Bid p) n ru = bid_answered e n
kind_received e (ErrorDescription p) n ru = error_marked e
kind_received e PositiveBidResponse n ru = accept (with_control (positive_response_received e.control) e) nothing
kind_received e NegativeBidResponse n ru = accept (with_control (negative_response_received e.control) e) nothing
kind_received e Confirmation n ru = accept (with_control (confirmation_received e.control) e) nothing
kind_received e NegativeConfirmation n ru = accept (with_control (negative_confirmation_received e.control) e) nothing
kind_received e PacingResponse n ru = credit_raised e

unfoldable pub receive_unit_decision : End → List ℕ → ℕ → ℕ → Decision
receive_unit_decision e taken inbox unit =
    decided (receive_unit_refusal e taken inbox unit) e (kind_received e (header_received taken) (number_in taken) (ru_received taken))

-- the inbox: data's bytes behind those held
abbrev pub kind_joined : End → Header → List ℕ → List ℕ → List ℕ
kind_joined e (Data d) ru inbox = written e.receiving.held ru inbox
kind_joined e (Bid p) ru inbox = inbox
kind_joined e (ErrorDescription p) ru inbox = inbox
kind_joined e PositiveBidResponse ru inbox = inbox
kind_joined e NegativeBidResponse ru inbox = inbox
kind_joined e Confirmation ru inbox = inbox
kind_joined e NegativeConfirmation ru inbox = inbox
kind_joined e PacingResponse ru inbox = inbox

unfoldable pub inbox_cells : End → List ℕ → ℕ → List ℕ → List ℕ
inbox_cells e taken q inbox = cond (eqb q 0) (kind_joined e (header_received taken) (ru_received taken) inbox) inbox

-- 21 names the lowest rule that the header breaks
abbrev pub rule_named : List ℕ → ℕ
rule_named taken = rule_number (lowest_broken (header_in taken))

abbrev pub answer_naming : List ℕ → Decision → Answer
answer_naming taken d = cond (eqb d.refusal 0) (accepted (length_out d.out)) (refused_naming (rule_named taken) d.refusal)

-- what the decision hands back
abbrev pub done_naming : List ℕ → Decision → Done Answer
done_naming taken d = record { answer = answer_naming taken d; end = d.end }

unfoldable pub receive_unit : End → List ℕ → List ℕ → List ℕ → Taken
receive_unit e taken inbox unit =
    let d : Decision = receive_unit_decision e taken (length inbox) (length unit) in
    record {
      done = done_naming taken d;
      inbox = inbox_cells e taken d.refusal inbox;
      unit = cells_out d.out unit;
    }
