-- `attach_header::names::lu_name_good` meets its contract.
-- Assumes nothing.
use mathlib.Core.Path.{◌≡◌, refl, sym, ◌∙◌}
use Prim.Native.Nat.{ℕ, ◌+◌, ◌-◌}
use native.Mathlib.Omega.{arith}
use lib.ListN.{length}
use lib.Seq.{length-take-le, take-length}
use native.Mathlib.Nat.{zero-add}
use mathlib.Core.List.{List}
use Rattle.std.specs.Prelude.{slice_range}
use Rattle.cells.specs.Found.{index_of}
use borrow.Author.Tests.{eq-eqb, ne_eqb}
use Rattle.cells.proofs.PartLent.{part_is}
use Rattle.attach_header.specs.Characters.{PERIOD, lu_name_good}
use Rattle.attach_header.proofs.names.lu_name_good.Goals as goal

-- the whole string is searched
found : (s : List ℕ) {r : ℕ} → r ≡ 0 + index_of PERIOD (slice_range s 0 (length s)) → r ≡ index_of PERIOD s
found s e =
    let n : length s - 0 ≡ length s = omega arith in
    e ∙ rw (zero-add, n, take-length s) refl

pub returns-then-p-n : goal.returns-then-p-n
unfolding lu_name_good
returns-then-p-n c =
    let s = c.args.s.now in
    rw (c.part_good.ensures, eq-eqb (index_of PERIOD s) (length s) (sym (found s c.find-p.ensures.place) ∙ c.if-p-n.true))

pub returns : goal.returns
unfolding lu_name_good
returns c =
    let s = c.args.s.now in
    let p = c.find-p in
    rw (c.part_good-2.ensures, c.part_good-3.ensures, part_is (p.result + 1) s, found s p.ensures.place, ne_eqb (index_of PERIOD s) (length s) (λ z. c.if-p-n.false (found s p.ensures.place ∙ z)))

pub slice_bounds-part_good-end : goal.slice_bounds-part_good-end
slice_bounds-part_good-end c = sym (length-take-le c.find-p.result _ c.find-p.ensures.within)
