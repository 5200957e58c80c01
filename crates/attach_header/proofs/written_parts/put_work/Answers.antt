-- `attach_header::written_parts::put_work` meets its contract.
-- Assumes nothing.
use mathlib.Core.Path.{◌∙◌}
use mathlib.Core.List.{List, [], ◌∷◌, ◌++◌}
use Prim.Native.Nat.{ℕ}
use Rattle.digits.proofs.Puts.{left_less}
use Rattle.attach_header.specs.Fields.{text_of}
use Rattle.attach_header.specs.Written.{identifier}
use Rattle.attach_header.proofs.Pieces.{last, put_none, in_pieces, identifier_none, identifier_some}
use Rattle.attach_header.proofs.WrittenLengths.{lu_within, text_length}
use Rattle.attach_header.proofs.written_parts.put_work.Goals as goal

pub returns-then-n-eq0 : goal.returns-then-n-eq0
returns-then-n-eq0 c =
    let a = c.args in
    let p = c.requires in
    let lu = text_of a.lu in
    let n = text_length a.lu (lu_within a.lu p.0) in
    put_none (identifier lu a.instance a.sequence) a.at a.out.now (identifier_none lu a.instance a.sequence (n ∙ c.if-n-eq0.true)) p.1

pub returns : goal.returns
returns c =
    let s = c in
    let a = s.args in
    let lu = text_of a.lu in
    let n = text_length a.lu (lu_within a.lu s.requires.0) in
    let head : List ℕ = a.lu.length ∷ [] in
    let e = identifier_some lu a.instance a.sequence a.lu.length n c.if-n-eq0.false in
    let all = in_pieces (identifier lu a.instance a.sequence) (head ++ (lu ++ (a.instance ++ a.sequence))) a.at a.out.now e s.requires.1 in
    let one = left_less head all c.put-name.ensures in
    let two = left_less lu one c.put_string-first.ensures in
    let three = left_less a.instance two c.put-second.ensures in
    last a.sequence three c.put.ensures
