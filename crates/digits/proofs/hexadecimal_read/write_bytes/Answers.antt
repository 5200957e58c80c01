-- `digits::hexadecimal_read::write_bytes` meets its contract. The loop's invariant: the first i bytes are written.
-- Assumes nothing.
use mathlib.Core.Path.{◌≡◌, refl, ap, ◌∙◌}
use native.Mathlib.Omega.{arith}
use lib.ListN.{length, length-set}
use lib.Seq.{paste, paste-zero}
use Rattle.digits.specs.HexadecimalRead.{bytes_of}
use Rattle.digits.proofs.HexadecimalBytes.{half}
use Rattle.cells.proofs.Moves.{moved_all}
use Rattle.digits.proofs.Pairs.{byte_at, written_more}
use Rattle.digits.proofs.hexadecimal_read.write_bytes.Goals as goal

pub loop-i-init : goal.loop-i-init
loop-i-init c = let a = c.args in
    (refl, paste-zero a.into.now 0 (bytes_of a.text.now))

pub bounds-into-i : goal.bounds-into-i
bounds-into-i c = let n = half c.args.text.now c.requires.0 in omega (arith, c.requires.1, c.loop-i.invariant.0)

pub loop-i-preserved : goal.loop-i-preserved
loop-i-preserved c =
    let l = c.loop-i in
    let a = c.args in
    let s = a.text.now in
    let h = c.requires.1 in
    let n = half s c.requires.0 in (
      simp length-set l.invariant.0,
      rw (l.invariant.1, c.byte.ensures, ← byte_at s l.i (omega arith)) (written_more a.into.now (bytes_of s) l.i (omega arith) (omega arith)),
    )

pub returns : goal.returns
returns c =
    let l = c.loop-i in
    let a = c.args in
    let n = half a.text.now c.requires.0 in
    let e : l.i ≡ length (bytes_of a.text.now) = omega arith in
    l.invariant.1 ∙ (ap (paste a.into.now 0 (bytes_of a.text.now)) e ∙ moved_all a.into.now (bytes_of a.text.now))
