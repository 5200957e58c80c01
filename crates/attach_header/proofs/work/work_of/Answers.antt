-- `attach_header::work::work_of` meets its contract.
-- Assumes nothing.
use mathlib.Core.Path.{◌≡◌, ap}
use Prim.Native.Nat.{ℕ, ◌-◌, zero-le}
use native.Mathlib.Omega.{arith}
use mathlib.Core.Bool.{true}
use mathlib.Core.List.{List}
use lib.ListN.{length}
use borrow.Rule.Slice.PartMut.{mid_of}
use borrow.Author.Tests.{ne_eqb}
use Rattle.cells.proofs.PartLent.{part_is}
use Rattle.attach_header.specs.declared.parts.Part.{Part}
use Rattle.attach_header.specs.Read.{identifier_good}
use Rattle.attach_header.proofs.Identifier.{identifier, no_work}
use Rattle.attach_header.specs.Places.{work_of}
use Rattle.attach_header.proofs.FoundParts.{Found, found_by}
use Rattle.attach_header.proofs.work.work_of.Goals as goal

-- the numbers behind the name
eight : (s : List ℕ) {p : Part} → identifier_good s ≡ true → (length s ≡ 0 → ⊥) → Found 0 s p → length (mid_of p.end (length s - p.end) s) ≡ 8
eight s {p} g n f = rw (part_is p.end s, f.rest) (identifier s g (ne_eqb (length s) 0 n)).numbers

pub returns-then-s-eq0 : goal.returns-then-s-eq0
returns-then-s-eq0 c = no_work c.args.s.now c.if-s-eq0.true c.symbol_string.ensures

pub instance_of-instance-requires : goal.instance_of-instance-requires
instance_of-instance-requires c =
    let a = c in
    let p = c.part_at-p in
    eight a.args.s.now a.requires c.if-s-eq0.false (found_by zero-le p.ensures.value)

pub sequence_of-sequence-requires : goal.sequence_of-sequence-requires
sequence_of-sequence-requires c =
    let a = c in
    let p = c.part_at-p in
    eight a.args.s.now a.requires c.if-s-eq0.false (found_by zero-le p.ensures.value)

pub symbol_string-requires-2 : goal.symbol_string-requires-2
symbol_string-requires-2 c =
    let a = c in
    let p = c.part_at-p in
    let f = found_by {at = 0} {s = a.args.s.now} zero-le p.ensures.value in
    let i = identifier a.args.s.now a.requires (ne_eqb _ 0 c.if-s-eq0.false) in
    let t = i.short in
    let e = ap length f.field in
    omega (arith, t, e)

pub returns : goal.returns
unfolding work_of
returns c =
    let s = c.args.s.now in
    let p = c.part_at-p in
    let f = found_by {at = 0} {s = s} zero-le p.ensures.value in
    rw (
      c.symbol_string-2.ensures,
      c.instance_of-instance.ensures,
      c.sequence_of-sequence.ensures,
      part_is p.result.end s,
      f.field,
      f.rest,
    )
