-- `digits::decimal_read::read_digits` meets its contract. The loop's invariant: the digits left, read on from the value, lead where all lead.
-- Assumes nothing.
use mathlib.Core.Path.{sym, ◌∙◌}
use Rattle.digits.proofs.DecimalDigits.{read_more, read_other, read_past, read_end}
use Rattle.digits.proofs.decimal_read.read_digits.Goals as goal

pub returns-then-not-is_decimal : goal.returns-then-not-is_decimal
returns-then-not-is_decimal c =
    let l = c.loop-b in
    let s = c.args.text.now in
    let d = sym c.is_decimal.ensures ∙ c.if-not-is_decimal.true in
    sym (read_other l.value l.b-index s c.loop-b-test.true d) ∙ l.invariant.1

pub returns-then-value-gt-GREATEST : goal.returns-then-value-gt-GREATEST
returns-then-value-gt-GREATEST c =
    let l = c.loop-b in
    let s = c.args.text.now in
    let d = sym c.is_decimal.ensures ∙ c.if-not-is_decimal.false in
    sym (read_past l.value l.b-index s c.loop-b-test.true d c.if-value-gt-GREATEST.true) ∙ l.invariant.1

pub loop-b-preserved : goal.loop-b-preserved
loop-b-preserved c =
    let l = c.loop-b in
    let s = c.args.text.now in
    let d = sym c.is_decimal.ensures ∙ c.if-not-is_decimal.false in
    (c.if-value-gt-GREATEST.false, read_more l.value l.b-index s c.loop-b-test.true d c.if-value-gt-GREATEST.false ∙ l.invariant.1)

pub returns : goal.returns
returns c = sym (read_end c.loop-b.value c.loop-b.b-index c.args.text.now c.loop-b-test.false) ∙ c.loop-b.invariant.1
