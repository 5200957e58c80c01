-- `digits::printed::hex_word` meets its contract. It is the text of its four bytes.
-- Assumes nothing.
use mathlib.Core.Path.{◌≡◌}
use Prim.Native.Nat.{◌/◌, ◌%◌}
use native.Mathlib.Omega.{arith}
use Rattle.digits.specs.Printed.{hex_word_of}
use Rattle.digits.proofs.printed.hex_word.Goals as goal

pub returns : goal.returns
unfolding hex_word_of
returns c = let n = c.args.n in
    let high : n / 0x1000000 % 256 ≡ n / 0x1000000 = omega arith in
    rw (c.to_be_bytes-bytes.ensures, high) at c.hex_bytes.ensures
