-- What is to be claimed of attach headers, for a reader to find. None of it is proved yet, and no function promises it.
-- Assumes nothing.
use Rattle.std.specs.Prelude.{◌≡◌, List, ℕ, ◌≤◌, length, take, drop}
use Rattle.answers.specs.Answers.{accepted}
use Rattle.attach_header.specs.Fields.{Fields, fields_of}
use Rattle.attach_header.specs.Read.{read_as, read_attach}
use Rattle.attach_header.specs.Written.{write_attach}
use Rattle.attach_header.specs.declared.Attach.{Attach}

abbrev pub IsRead : List ℕ → Type 0
IsRead h = (read_attach h).answer.refusal ≡ 0

abbrev pub IsWritten : Attach → List ℕ → Type 0
IsWritten a cells = (write_attach a cells).0.answer.refusal ≡ 0

-- the fields that were read, and the header that is written
abbrev pub fields_read : List ℕ → Fields
fields_read h = fields_of (read_attach h).attach

abbrev pub written : Attach → List ℕ → List ℕ
written a cells = take (write_attach a cells).0.length (write_attach a cells).1

-- what the writer makes is read back as the same fields
abbrev pub WrittenIsRead : Type 0
WrittenIsRead = (a : Attach) (cells : List ℕ) → IsWritten a cells → read_attach (written a cells) ≡ read_as (fields_of a)

-- two accepted headers with equal fields are written alike
abbrev pub WrittenAlike : Type 0
WrittenAlike = (h k cells : List ℕ) → IsRead h → IsRead k → fields_read h ≡ fields_read k
    → write_attach (read_attach h).attach cells ≡ write_attach (read_attach k).attach cells

-- so the written form of an accepted header is a normal form. Its fields are written; read, written and read again they are the same;
-- written, read and written again it is the same bytes; and no accepted header with the same fields is shorter
pub record Normal (h cells : List ℕ) : Type 0 where
  pub is_written : (write_attach (read_attach h).attach cells).0.answer ≡ accepted 0
  pub read_again : read_attach (written (read_attach h).attach cells) ≡ read_attach h
  pub written_again : write_attach (read_attach (written (read_attach h).attach cells)).attach cells ≡ write_attach (read_attach h).attach cells
  pub shortest : (k : List ℕ) → IsRead k → fields_read k ≡ fields_read h → length (written (read_attach h).attach cells) ≤ length k

abbrev pub NormalForm : Type 0
NormalForm = (h cells : List ℕ) → IsRead h → 255 ≤ length cells → Normal h cells

-- a refused write changes no cell, and an accepted one only those of the header
pub record Changed (a : Attach) (cells : List ℕ) : Type 0 where
  pub refused : (IsWritten a cells → ⊥) → (write_attach a cells).1 ≡ cells
  pub behind : drop (write_attach a cells).0.length (write_attach a cells).1 ≡ drop (write_attach a cells).0.length cells

abbrev pub CellsChanged : Type 0
CellsChanged = (a : Attach) (cells : List ℕ) → Changed a cells
