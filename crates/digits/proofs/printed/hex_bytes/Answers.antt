-- `digits::printed::hex_bytes` meets its contract. The invariant: what is left of the text, put at the next place, completes it.
-- Assumes nothing.
use mathlib.Core.Path.{◌≡◌, sym}
use mathlib.Core.List.{[]}
use native.Mathlib.Omega.{arith}
use lib.ListN.{drop, get_or, drop_of_length-le}
use Rattle.digits.specs.Printed.{hex_byte, hex_of}
use Rattle.digits.proofs.PrintedDigits.{length_hex, hex_more}
use Rattle.digits.proofs.Puts.{not_put, left_all, left_none, left_less}
use Rattle.digits.proofs.printed.hex_bytes.Goals as goal

pub returns-then-out-at : goal.returns-then-out-at
returns-then-out-at c =
    let a = c.args in
    let e = length_hex a.bytes.now in
    sym (not_put (hex_of a.bytes.now) a.at a.out.now (omega arith))

pub returns-then-out-at-2 : goal.returns-then-out-at-2
returns-then-out-at-2 c =
    let a = c.args in
    let e = length_hex a.bytes.now in
    sym (not_put (hex_of a.bytes.now) a.at a.out.now (omega arith))

pub loop-b-init : goal.loop-b-init
loop-b-init c = let e = length_hex c.args.bytes.now in left_all (omega arith)

pub loop-b-preserved : goal.loop-b-preserved
loop-b-preserved c =
    let bs = c.args.bytes.now in
    let l = c.loop-b in
    let m = hex_more bs l.b-index (omega arith) in
    left_less (hex_byte (get_or bs l.b-index 0)) (rw m at l.invariant) c.hex_byte-next.ensures

pub returns : goal.returns
unfolding hex_of
returns c =
    let bs = c.args.bytes.now in
    let l = c.loop-b in
    let n : drop l.b-index bs ≡ [] = drop_of_length-le bs {i = l.b-index} (omega arith) in
    left_none (rw n at l.invariant)
