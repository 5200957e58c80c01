-- `digits::hexadecimal_read::write_bytes` meets its contract. The loop's invariant: the first i bytes are written.
-- Assumes nothing.
use mathlib.Core.Path.{◌≡◌}
use lib.ListN.{length}
use lib.Seq.{paste}
use Rattle.digits.specs.HexadecimalRead.{bytes_of}
use Rattle.digits.proofs.hexadecimal_read.write_bytes.Given as goal

abbrev pub invariant-loop-i : goal.invariant-loop-i
invariant-loop-i l = (length l.into ≡ length l.initial.into) × (l.into ≡ paste l.initial.into 0 (bytes_of l.text) l.i)
