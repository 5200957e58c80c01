-- Read into the caller's buffer, in all states.
-- Assumes nothing.
use Rattle.std.specs.Prelude.{ℕ, min, Bool, false, not, cond, ◌||◌, List, [], ◌∷◌, eqb, leb, length, take, drop, Result}
use Rattle.cells.specs.Cells.{front}
use Rattle.logical_record.specs.Positions.{is_between, more_follows}
use Rattle.logical_record.specs.Walk.{walk, place_or}
use Rattle.logical_record.specs.RestOfRecord.{rest}
use Rattle.logical_record.specs.declared.BadLength.{BadLength}
use Rattle.logical_record.specs.declared.Position.{Position}
use Rattle.control.specs.StateTests.{is_nothing}
use Rattle.transitions.specs.Transitions.{mark_answered}
use Rattle.control.specs.declared.WhatReceived.TheVariants as mark
use Rattle.answers.specs.FirstNo.{first_no}
use Rattle.answers.specs.Answers.{BAD_BUFFER, BAD_RECORD, BAD_LENGTH, BAD_LL, NOTHING_TO_READ, read_refused, read_accepted}
use Rattle.receiving.specs.BytesRead.{rest_bytes, rest_good, bytes_gone}
use Rattle.end.specs.Record.{record_good, inbox_lent}
use Rattle.end.specs.Outcome.{Copied, with_control, with_receiving}
use Rattle.end.specs.declared.End.{End}
use Rattle.end.specs.declared.Done.{Done}
use Rattle.answers.specs.declared.ReadAnswer.{ReadAnswer}

-- the bytes held in the inbox
abbrev pub inbox_bytes : End → List ℕ → List ℕ
inbox_bytes e inbox = take e.receiving.held inbox

-- the rest of the current record, LL included, by the bytes held
abbrev pub record_rest : End → List ℕ → Result ℕ BadLength
record_rest e inbox = rest e.receiving.read (inbox_bytes e inbox)

abbrev pub some_held : End → Bool
some_held e = leb 1 e.receiving.held

abbrev pub receive_questions : End → List ℕ → ℕ → List (Bool × ℕ)
receive_questions e inbox buffer =
    (inbox_lent e (length inbox), BAD_BUFFER)
    ∷ (record_good e, BAD_RECORD)
    ∷ (leb 1 buffer, BAD_LENGTH)
    ∷ (rest_good (record_rest e inbox), BAD_LL)
    ∷ (some_held e || not (is_nothing e.control.mark), NOTHING_TO_READ)
    ∷ []

unfoldable pub receive_refusal : End → List ℕ → ℕ → ℕ
receive_refusal e inbox buffer = first_no (receive_questions e inbox buffer)

-- the least of that buffer, the bytes held and the rest of the current record
unfoldable pub copy_count : End → List ℕ → ℕ → ℕ
copy_count e inbox buffer = min buffer (min e.receiving.held (rest_bytes (record_rest e inbox)))

-- the record place after k bytes
abbrev pub place_read : End → ℕ → List ℕ → Position
place_read e k inbox = place_or e.receiving.read (walk e.receiving.read (take k inbox))

-- k bytes copied; complete is said when the record ends, and more if it then says that another part follows
unfoldable pub bytes_read : End → ℕ → List ℕ → Done ReadAnswer
bytes_read e k inbox =
    record {
      answer = read_accepted k (is_between (place_read e k inbox)) (more_follows (place_read e k inbox)) mark.Nothing;
      end = with_receiving (bytes_gone k (place_read e k inbox) e.receiving) e;
    }

-- none held and a mark: the mark is answered and cleared
unfoldable pub mark_read : End → Done ReadAnswer
mark_read e =
    record {
      answer = read_accepted 0 false false e.control.mark;
      end = with_control (mark_answered e.control) e;
    }

unfoldable pub receive_decision : End → List ℕ → ℕ → Done ReadAnswer
receive_decision e inbox buffer =
    let q : ℕ = receive_refusal e inbox buffer in
    cond (eqb q 0)
    (cond (some_held e) (bytes_read e (copy_count e inbox buffer) inbox) (mark_read e))
    (record { answer = read_refused q; end = e })

-- k bytes gone, the rest of those held moves to the front; with none gone nothing moves
unfoldable pub inbox_moved : End → ℕ → List ℕ → List ℕ
inbox_moved e k inbox = cond (eqb k 0) inbox (front (drop k (inbox_bytes e inbox)) inbox)

-- the bytes copied stand at the front of the caller's buffer
unfoldable pub receive : End → List ℕ → List ℕ → Copied
receive e inbox buffer =
    let d : Done ReadAnswer = receive_decision e inbox (length buffer) in
    let k : ℕ = d.answer.copied in
    record { done = d; inbox = inbox_moved e k inbox; buffer = front (take k inbox) buffer }
