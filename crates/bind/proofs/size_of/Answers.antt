-- `bind::size_of` meets its contract. A mantissa of four bits moved by at most 15 places loses no bit of 32.
-- Assumes nothing.
use mathlib.Core.Path.{◌≡◌, sym, ap, ◌∙◌}
use mathlib.Core.Bool.{Bool, true, false, ◌&&◌}
use Prim.Native.Nat.{ℕ, ◌%◌, ◌^◌, ◌<◌}
use native.Mathlib.Omega.{arith}
use lib.Dec.{leb}
use lib.Pow.{shl_exact}
use Rattle.unit.specs.Maximum.{max_good}
use Rattle.bind.specs.SessionBytes.{mantissa, exponent, times, size_of}
use borrow.Author.Rules.{rules}
use Rattle.bind.proofs.size_of.Goals as goal

kept : (byte : ℕ) → byte < 256 → times (mantissa byte) (exponent byte) % 2 ^ 32 ≡ times (mantissa byte) (exponent byte)
kept byte h = shl_exact 4 (exponent byte) 32 (omega (arith, h)) (omega arith)

-- what is asked of the size as it was computed is what is asked of the product
asked : (byte : ℕ) {good outcome : Bool} → byte < 256 → good ≡ max_good (times (mantissa byte) (exponent byte) % 2 ^ 32)
    → leb 8 (mantissa byte) && good ≡ outcome → leb 8 (mantissa byte) && max_good (times (mantissa byte) (exponent byte)) ≡ outcome
asked byte h e t = ap (λ (s : Bool). leb 8 (mantissa byte) && s) (ap max_good (sym (kept byte h)) ∙ sym e) ∙ t

pub returns-then-mantissa-max_good : goal.returns-then-mantissa-max_good
unfolding size_of
returns-then-mantissa-max_good c =
    let byte = c.args.byte in
    rw (kept byte (search rules), asked byte {outcome = true} (search rules) c.max_good.ensures c.if-mantissa-max_good.true)

pub returns-else-mantissa-max_good : goal.returns-else-mantissa-max_good
unfolding size_of
returns-else-mantissa-max_good c = rw (asked c.args.byte {outcome = false} (search rules) c.max_good.ensures c.if-mantissa-max_good.false)
