-- `attach_header::written_parts::put_subfield` meets its contract.
-- Assumes nothing.
use mathlib.Core.Path.{◌∙◌}
use native.Mathlib.Omega.{arith}
use mathlib.Core.List.{List, [], ◌∷◌, ◌++◌}
use Prim.Native.Nat.{ℕ, ◌+◌}
use Rattle.digits.proofs.Puts.{left_less}
use Rattle.attach_header.specs.Fields.{text_of}
use Rattle.attach_header.proofs.Pieces.{last, put_none, in_pieces, subfield_none, subfield_some}
use Rattle.attach_header.specs.Written.{subfield}
use Rattle.attach_header.proofs.WrittenLengths.{data_fits_lem, data_short, text_length}
use Rattle.attach_header.proofs.written_parts.put_subfield.Goals as goal

pub returns-then-n-eq0 : goal.returns-then-n-eq0
returns-then-n-eq0 c =
    let a = c.args in
    let p = c.requires in
    let n = text_length a.s (data_fits_lem a.s p.0).0 in
    put_none (subfield a.kind (text_of a.s)) a.at a.out.now (subfield_none a.kind (text_of a.s) (n ∙ c.if-n-eq0.true)) p.1

pub overflow_add-head : goal.overflow_add-head
overflow_add-head c =
    let a = c.args in
    let f = data_fits_lem a.s c.requires.0 in
    let n = text_length a.s f.0 in
    let l = data_short (text_of a.s) f.1 in
    omega (arith, n, l)

pub returns : goal.returns
returns c =
    let d = c in
    let a = d.args in
    let p = d.requires in
    let x = text_of a.s in
    let n = text_length a.s (data_fits_lem a.s p.0).0 in
    let e = subfield_some a.kind x a.s.length n d.if-n-eq0.false in
    let head : List ℕ = (a.s.length + 1) ∷ a.kind ∷ [] in
    last x (left_less head (in_pieces (subfield a.kind x) (head ++ x) a.at a.out.now e p.1) c.put-next.ensures)
    c.put_string.ensures
