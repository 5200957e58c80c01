-- `digits::decimal_read::number` meets its contract. Each return is one row of the rule on leading zeros.
-- Assumes nothing.
use Rattle.std.proofs.Common.{◌≡◌, sym, ◌∙◌}
use Rattle.std.specs.Prelude.{None, Some, slice_get}
use Rattle.digits.proofs.DecimalDigits.{number_none, number_leading_zero, number_digits}
use Rattle.digits.proofs.decimal_read.number.Goals as goal

pub returns-in_err-first : goal.returns-in_err-first
returns-in_err-first c =
    let e : slice_get c.args.text.now 0 ≡ None = sym c.first.ensures.value ∙ rw c.in_err-first.was in
    c.from_residual.ensures ∙ sym (number_none c.args.text.now e)

pub returns-then-text-first : goal.returns-then-text-first
returns-then-text-first c =
    let b = c.in_ok-first.field-0.now in
    let e : slice_get c.args.text.now 0 ≡ Some b = sym c.first.ensures.value ∙ rw c.in_ok-first.was in
    sym (number_leading_zero b c.args.text.now e c.if-text-first.true)

pub returns : goal.returns
returns c =
    let b = c.in_ok-first.field-0.now in
    let e : slice_get c.args.text.now 0 ≡ Some b = sym c.first.ensures.value ∙ rw c.in_ok-first.was in
    c.read_digits.ensures ∙ number_digits b c.args.text.now e c.if-text-first.false
