-- `attach_header::writing::write_attach` meets its contract.
-- Assumes nothing.
use mathlib.Core.Path.{◌≡◌}
use mathlib.Core.Bool.{true}
use Prim.Native.Nat.{ℕ, ◌≤◌}
use lib.ListN.{length}
use native.Mathlib.Omega.{arith}
use borrow.Author.Tests.{eq-eqb, leb-true}
use Rattle.answers.proofs.Outcomes.{passed}
use Rattle.answers.proofs.Rows.{yes}
use Rattle.answers.specs.FirstNo.{first_no}
use Rattle.attach_header.specs.Fields.{fields_of}
use Rattle.attach_header.specs.Written.{header_of, needed, writable, write_questions, write_attach}
use Rattle.attach_header.specs.declared.Attach.{Attach}
use Rattle.attach_header.proofs.Pieces.{put_front}
use Rattle.attach_header.proofs.Writable.{fits, whole_length}
use Rattle.attach_header.proofs.writing.write_attach.Goals as goal

-- every question was answered yes
asked : (a : Attach) (room : ℕ) → first_no (write_questions a room) ≡ 0 → (writable a ≡ true) × (needed a ≤ 255) × (255 ≤ room)
unfolding write_questions
asked a room z =
    let y = yes (write_questions a room) tt z in
    (y 2, leb-true (needed a) 255 (y 1), leb-true 255 room (y 0))

pub put_header-length-requires : goal.put_header-length-requires
put_header-length-requires c =
    let a = c.args in
    asked a.attach (length a.header.now) (passed c.in_default.is c.write_refusal.ensures)

pub returns : goal.returns
unfolding write_attach
returns c =
    let a = c.args in
    let z = passed c.in_default.is c.write_refusal.ensures in
    let g = asked a.attach (length a.header.now) z in
    let l = whole_length a.attach (fits a.attach g.0) in
    let f = put_front (header_of (fields_of a.attach)) a.header.now (omega (arith, l, g.1, g.2)) c.put_header-length.ensures in
    rw (c.accept.ensures, eq-eqb (first_no (write_questions a.attach (length a.header.now))) 0 z, f.0, f.1)
