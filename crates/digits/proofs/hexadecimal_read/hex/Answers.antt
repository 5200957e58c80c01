-- `digits::hexadecimal_read::hex` meets its contract. The test on the number of digits is that on the number of bytes; a bad text writes none.
-- Assumes nothing.
use lib.ListN.{length}
use Rattle.cells.proofs.Fronts.{front_none}
use Rattle.digits.proofs.HexadecimalBytes.{hex_given, hex_none, hex_fits}
use Rattle.digits.proofs.hexadecimal_read.hex.Goals as goal

pub write_bytes-requires : goal.write_bytes-requires
write_bytes-requires c =
    let a = c.args in
    let t = hex_fits a.text.now (length a.into.now) (rw c.are_pairs.ensures at c.if-are_pairs-n.true) in
    (t.0, t.1)

pub returns-then-are_pairs-n : goal.returns-then-are_pairs-n
returns-then-are_pairs-n c =
    let a = c.args in
    let e = rw c.are_pairs.ensures at c.if-are_pairs-n.true in
    let t = hex_fits a.text.now (length a.into.now) e in
    let g = hex_given a.text.now (length a.into.now) e in
    (rw (g, t.2), rw (g, c.write_bytes.ensures))

pub returns : goal.returns
returns c =
    let a = c.args in
    let e = rw c.are_pairs.ensures at c.if-are_pairs-n.false in
    let g = hex_none a.text.now (length a.into.now) e in
    (rw g, rw (g, front_none))
