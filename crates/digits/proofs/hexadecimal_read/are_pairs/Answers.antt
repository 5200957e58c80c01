-- `digits::hexadecimal_read::are_pairs` meets its contract. The loop's invariant: the digits left are pairs exactly where all are.
-- The measure is the number of digits left.
-- Assumes nothing.
use mathlib.Core.Path.{sym, ◌∙◌}
use Rattle.cells.proofs.PartLent.{part_is}
use Rattle.digits.proofs.Pairs.{pairs_more, pairs_other, pairs_end}
use Rattle.digits.proofs.hexadecimal_read.are_pairs.Goals as goal

pub returns-then-not-is_pair : goal.returns-then-not-is_pair
returns-then-not-is_pair c =
    let s = c.loop-left.left.now in
    sym (pairs_other s c.in-len2-up.len_at_least (sym c.is_pair.ensures ∙ c.if-not-is_pair.true)) ∙ c.loop-left.invariant

pub loop-left-preserved : goal.loop-left-preserved
loop-left-preserved c =
    let s = c.loop-left.left.now in
    rw (part_is 2 s) (pairs_more s c.in-len2-up.len_at_least (sym c.is_pair.ensures ∙ c.if-not-is_pair.false) ∙ c.loop-left.invariant)

pub returns : goal.returns
returns c = c.none_left.ensures ∙ pairs_end c.loop-left.left.now c.in_default.len_below ∙ c.loop-left.invariant
