-- `attach_header::subfields::count` meets its contract. The loop's invariant: those counted and those that are left are all.
-- Assumes nothing.
use mathlib.Core.Path.{◌≡◌, sym, ◌∙◌}
use Prim.Native.Nat.{◌+◌, ◌-◌, ◌≤◌}
use native.Mathlib.Omega.{arith}
use lib.ListN.{drop}
use Rattle.attach_header.proofs.FoundParts.{found_by}
use Rattle.attach_header.proofs.Security.{none_left, none_end, none_more, count_end, count_at, one_if, at_most_one}
use Rattle.attach_header.proofs.subfields.count.Goals as goal

pub returns-then-s-at : goal.returns-then-s-at
returns-then-s-at c =
    let a = c.args in
    let l = c.loop in
    let x = drop l.at a.s.now in
    let e = count_end a.kind (3 - l.counter) x (none_end (3 - l.counter) x (none_left a.s.now l.at c.if-s-at.true)) in
    omega (arith, e, l.invariant.2)

pub loop-preserved : goal.loop-preserved
loop-preserved c =
    let l = c.loop in
    let p = c.part_at-p in
    let f = found_by l.invariant.0 p.ensures.value in
    let m : c.from-n.result ≤ 1 = rw c.from-n.ensures (at_most_one c.is_type.result) in
    let e : 3 - (l.counter + 1) ≡ 3 - l.counter - 1 = omega arith in (
      p.ensures.start_le_end.1,
      omega (arith, m),
      rw (e, c.from-n.ensures, one_if c.is_type.result, c.is_type.ensures)
          (sym (count_at f (omega arith) (3 - l.counter) (omega arith) c.args.kind l.n)) ∙ l.invariant.2,
    )

pub returns : goal.returns
returns c =
    let a = c.args in
    let l = c.loop in
    let x = drop l.at a.s.now in
    let e = count_end a.kind (3 - l.counter) x (none_more (3 - l.counter) x (omega arith)) in
    omega (arith, e, l.invariant.2)
