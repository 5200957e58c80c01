-- Send data, 1 to M bytes, in Send. If held plus new is at most M they are kept; otherwise one unit of the first M bytes goes out, not last in
-- its chain, and the rest is kept.
-- Assumes nothing.
use Rattle.std.specs.Prelude.{ℕ, ◌-◌, Bool, cond, ◌&&◌, ◌||◌, List, [], ◌∷◌, ◌++◌, eqb, leb, length, take, drop}
use Rattle.cells.specs.Cells.{front, written}
use Rattle.logical_record.specs.Walk.{walk, is_good, place_or}
use Rattle.logical_record.specs.declared.Position.{Position}
use Rattle.header.specs.declared.ChainEnd.TheVariants.{Continues}
use Rattle.pacing.specs.Pacing.{has_credit}
use Rattle.control.specs.Questions.{may_send}
use Rattle.transitions.specs.Transitions.{spilled}
use Rattle.answers.specs.FirstNo.{first_no}
use Rattle.answers.specs.Answers.{BAD_BUFFER, BAD_RECORD, BAD_LENGTH, WRONG_STATE, BAD_LL, NO_CREDIT}
use Rattle.unit.specs.Sequence.{next_number}
use Rattle.sending.specs.Sending.{request_made, keeps, bytes_added}
use Rattle.end.specs.Record.{record_good, send_lent, unit_lent}
use Rattle.end.specs.Requests.{data_header}
use Rattle.end.specs.Outcome.{nothing, a_unit, cells_out, done_of, Decision, accept, decided, Sent, with_control, with_sending}
use Rattle.end.specs.declared.End.{End}

abbrev pub send_questions : End → List ℕ → ℕ → ℕ → List (Bool × ℕ)
send_questions e bytes send unit =
    (send_lent e send && unit_lent e unit, BAD_BUFFER)
    ∷ (record_good e, BAD_RECORD)
    ∷ (leb 1 (length bytes) && leb (length bytes) e.sending.max, BAD_LENGTH)
    ∷ (may_send e.control, WRONG_STATE)
    ∷ (is_good (walk e.sending.given bytes), BAD_LL)
    ∷ (keeps e.sending (length bytes) || has_credit e.sending.window, NO_CREDIT)
    ∷ []

unfoldable pub send_refusal : End → List ℕ → ℕ → ℕ → ℕ
send_refusal e bytes send unit = first_no (send_questions e bytes send unit)

abbrev pub given : End → List ℕ → Position
given e bytes = place_or e.sending.given (walk e.sending.given bytes)

-- the bytes held in the send buffer
abbrev pub held_bytes : End → List ℕ → List ℕ
held_bytes e send = take e.sending.held send

-- how many of the new bytes go out at once
abbrev pub gone : End → ℕ
gone e = e.sending.max - e.sending.held

unfoldable pub bytes_kept : End → List ℕ → Decision
bytes_kept e bytes =
    accept
    (with_sending (bytes_added (length bytes) (given e bytes) e.sending) e)
    nothing

unfoldable pub bytes_spilled : End → List ℕ → List ℕ → Decision
bytes_spilled e bytes send =
    accept
    (with_sending (request_made (length bytes - gone e) (given e bytes) e.sending) (with_control (spilled e.control) e))
    (a_unit (next_number e.sending.number) (data_header e Continues) (held_bytes e send ++ take (gone e) bytes))

unfoldable pub send_decision : End → List ℕ → List ℕ → ℕ → Decision
send_decision e bytes send unit =
    decided (send_refusal e bytes (length send) unit) e (cond (keeps e.sending (length bytes)) (bytes_kept e bytes) (bytes_spilled e bytes send))

-- the send buffer: new bytes behind those held; or, where a unit went, the rest at the front
unfoldable pub send_cells : End → List ℕ → ℕ → List ℕ → List ℕ
send_cells e bytes q send =
    cond (eqb q 0) (cond (keeps e.sending (length bytes)) (written e.sending.held bytes send) (front (drop (gone e) bytes) send)) send

unfoldable pub send_data : End → List ℕ → List ℕ → List ℕ → Sent
send_data e bytes send unit =
    let d : Decision = send_decision e bytes send (length unit) in
    record { done = done_of d; send = send_cells e bytes d.refusal send; unit = cells_out d.out unit }
