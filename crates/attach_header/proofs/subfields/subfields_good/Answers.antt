-- `attach_header::subfields::subfields_good` meets its contract. The loop's invariant: what is left is good exactly where all is.
-- Assumes nothing.
use mathlib.Core.Path.{◌≡◌, refl, sym, ◌∙◌}
use Prim.Native.Nat.{◌+◌, ◌-◌}
use native.Mathlib.Omega.{arith}
use lib.ListN.{drop}
use Rattle.attach_header.proofs.FoundParts.{found_by}
use Rattle.attach_header.proofs.Security.{none_left, good_end, all_read, good_at}
use Rattle.attach_header.proofs.subfields.subfields_good.Goals as goal

pub returns-then-s-at : goal.returns-then-s-at
returns-then-s-at c =
    let s = c.args.s.now in
    let l = c.loop in
    sym (good_end (3 - l.counter) (drop l.at s) (none_left s l.at c.if-s-at.true)) ∙ l.invariant.1

pub returns-then-not-p-subfield_good : goal.returns-then-not-p-subfield_good
returns-then-not-p-subfield_good c =
    let s = c.args.s.now in
    let l = c.loop in
    let p = c.part_at-p in
    let f = found_by l.invariant.0 p.ensures.value in
    let b = c.subfield_good in
    let t = c.if-not-p-subfield_good.true in
    sym (good_at f (omega arith) (3 - l.counter) (omega arith) ∙ rw (sym b.ensures, t) refl) ∙ l.invariant.1

pub loop-preserved : goal.loop-preserved
loop-preserved c =
    let s = c.args.s.now in
    let l = c.loop in
    let p = c.part_at-p in
    let f = found_by l.invariant.0 p.ensures.value in
    let b = c.subfield_good in
    let t = c.if-not-p-subfield_good.false in
    let e : 3 - (l.counter + 1) ≡ 3 - l.counter - 1 = omega arith in
    (p.ensures.start_le_end.1, rw e (sym (good_at f (omega arith) (3 - l.counter) (omega arith) ∙ rw (sym b.ensures, t) refl) ∙ l.invariant.1))

pub returns : goal.returns
returns c =
    let l = c.loop in
    all_read c.args.s.now l.at (3 - l.counter) (omega arith) ∙ l.invariant.1
