-- `logical_record::walk::walk_over` meets its contract.
-- Assumes nothing.
use Rattle.std.proofs.Common.{sym, ◌∙◌}
use Rattle.logical_record.proofs.Walks.{walk_bad}
use Rattle.logical_record.proofs.RecordEnds.{walk_all_data}
use Rattle.logical_record.proofs.BytesAhead.{err_is, behind, walk_none, walk_high, walk_low, walk_length, walk_jump}
use Rattle.logical_record.proofs.walk.walk_over.Goals as goal

pub returns-then-all_data : goal.returns-then-all_data
returns-then-all_data c =
    let a = c.args in
    rw c.past_data.ensures (sym (walk_all_data a.from a.bytes.now (sym c.all_data.ensures.test ∙ c.if-all_data.true)))

pub returns-in_default-after : goal.returns-in_default-after
returns-in_default-after c =
    let l = c.loop-left in
    sym (walk_high l.position _ l.left.now c.in-Between.is c.in-len1-up.len_at_least c.in_default-after.len_below) ∙ l.invariant

pub returns-in_err-position-in-Between : goal.returns-in_err-position-in-Between
returns-in_err-position-in-Between c =
    let l = c.loop-left in
    let s = l.left.now in
    err_is _ c.from_residual.ensures.0
    ∙ sym (walk_bad (behind (behind s)))
    ∙ walk_length l.position _ _ s c.in-Between.is c.in-len1-up.len_at_least c.in-len1-up-after.len_at_least c.in_err-position-in-Between.ensures
    ∙ l.invariant

pub loop-left-preserved-in-Between : goal.loop-left-preserved-in-Between
loop-left-preserved-in-Between c =
    let l = c.loop-left in
    walk_length l.position _ _ l.left.now c.in-Between.is c.in-len1-up.len_at_least c.in-len1-up-after.len_at_least c.in_ok-position-in-Between.ensures
    ∙ l.invariant

pub returns-in_err-position-in-AfterFirst : goal.returns-in_err-position-in-AfterFirst
returns-in_err-position-in-AfterFirst c =
    let l = c.loop-left in
    let s = l.left.now in
    err_is _ c.from_residual-in_err-position-in-AfterFirst.ensures.0
    ∙ sym (walk_bad (behind s))
    ∙ walk_low l.position _ _ s c.in-AfterFirst.is c.in-len1-up.len_at_least c.in_err-position-in-AfterFirst.ensures
    ∙ l.invariant

pub loop-left-preserved-in-AfterFirst : goal.loop-left-preserved-in-AfterFirst
loop-left-preserved-in-AfterFirst c =
    let l = c.loop-left in
    walk_low l.position _ _ l.left.now c.in-AfterFirst.is c.in-len1-up.len_at_least c.in_ok-position-in-AfterFirst.ensures ∙ l.invariant

pub loop-left-preserved : goal.loop-left-preserved
loop-left-preserved c =
    let l = c.loop-left in
    walk_jump l.position _ _ _ _ l.left.now c.in-Remaining.is c.in-len1-up.len_at_least c.data_passed-k.ensures
    (c.remaining-position.ensures ∙ rw c.saturating_sub.ensures)
    ∙ l.invariant

pub returns : goal.returns
returns c =
    let l = c.loop-left in
    sym (walk_none l.position l.left.now c.in_default.len_below) ∙ l.invariant
