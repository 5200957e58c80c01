-- `bind::byte_of` meets its contract. A size in range has its highest bit at the mantissa's place or above, so nothing is lost but below the
-- mantissa; and what the search finds is what is moved there.
-- Assumes nothing.
use mathlib.Core.Path.{◌≡◌, sym, ◌∙◌}
use mathlib.Core.Bool.{true}
use Prim.Native.Nat.{ℕ, ◌+◌, ◌*◌, ◌/◌, ◌%◌, ◌^◌, ◌<◌}
use native.Mathlib.Nat.{div-mul-le_self, mod-eq_of_lt, lt_of_le_of_lt}
use native.Mathlib.Omega.{arith}
use borrow.Author.Tests.{eq-eqb, ne_eqb}
use Rattle.unit.specs.Maximum.{max_good}
use Rattle.bind.proofs.Normalized.{place, normalized, byte_below}
use Rattle.bind.proofs.SizeBytes.{found_is_moved}
use borrow.Author.Rules.{rules}
use Rattle.bind.proofs.byte_of.Goals as goal

pub overflow_sub-exponent : goal.overflow_sub-exponent
overflow_sub-exponent c = (normalized c.args.size c.requires).zeros

below : (size : ℕ) → max_good size ≡ true → size / 2 ^ place size * 16 + place size < 256
below size g = byte_below size (normalized size g)

pub overflow_mul-result : goal.overflow_mul-result
overflow_mul-result c = let b = below c.args.size c.requires in record { fits = omega (arith, b) }

pub overflow_add-result : goal.overflow_add-result
overflow_add-result c = let b = below c.args.size c.requires in record { fits = omega (arith, b) }

pub overflow_cast-result : goal.overflow_cast-result
overflow_cast-result c = record { fits = below c.args.size c.requires }

-- what is moved back is no greater than the size, so it loses no bit
kept : (size e : ℕ) → size < 2 ^ 32 → (size / 2 ^ e * 2 ^ e) % 2 ^ 32 ≡ size / 2 ^ e * 2 ^ e
kept size e h = mod-eq_of_lt (lt_of_le_of_lt (div-mul-le_self size (2 ^ e)) h)

pub returns-then-mantissa-exponent : goal.returns-then-mantissa-exponent
returns-then-mantissa-exponent c =
    let size = c.args.size in
    let e = place size in
    let l = (normalized size c.requires).least in
    rw (
      found_is_moved size c.requires,
      eq-eqb (size / 2 ^ e * 2 ^ e) size (sym (kept size e (search rules)) ∙ c.if-mantissa-exponent.true),
      ne_eqb (size / 2 ^ e * 16 + e) 0 (λ z. absurd (omega (arith, l, z))),
    )

pub returns-else-mantissa-exponent : goal.returns-else-mantissa-exponent
returns-else-mantissa-exponent c =
    let size = c.args.size in
    let e = place size in
    rw (found_is_moved size c.requires, ne_eqb (size / 2 ^ e * 2 ^ e) size (λ same. c.if-mantissa-exponent.false (kept size e (search rules) ∙ same)))
