-- `attach_header::subfields::data_of` meets its contract. The loop's invariant: what is left is good, and has the subfield that is looked for
-- exactly where all have it.
-- Assumes nothing.
use mathlib.Core.Path.{◌≡◌, sym, ap, ◌∙◌}
use Prim.Native.Nat.{ℕ, ◌+◌, ◌-◌}
use native.Mathlib.Omega.{arith}
use lib.ListN.{length, take, drop, length-drop}
use Rattle.cells.proofs.PartLent.{part_is}
use Rattle.attach_header.specs.Characters.{unpadded}
use Rattle.attach_header.specs.Fields.{string_of}
use mathlib.Core.List.{List}
use Rattle.attach_header.proofs.FoundParts.{found_by}
use Rattle.attach_header.proofs.Security.{has_type, subfield_length, good_here, none_left, none_end, none_more, type_end, type_at, other_at}
use Rattle.attach_header.proofs.subfields.data_of.Goals as goal

-- the data of what was found
of_found : {x y : List ℕ} → x ≡ y → string_of (unpadded (drop 1 x)) ≡ string_of (unpadded (drop 1 y))
of_found e = ap (λ (x : List ℕ). string_of (unpadded (drop 1 x))) e

pub returns-then-s-at : goal.returns-then-s-at
returns-then-s-at c =
    let a = c.args in
    let l = c.loop in
    let x = drop l.at a.s.now in
    c.symbol_string.ensures ∙ of_found (sym (type_end a.kind (3 - l.counter) x (none_end (3 - l.counter) x (none_left a.s.now l.at c.if-s-at.true))) ∙ l.invariant.2)

pub symbol_string-requires-then-is_type : goal.symbol_string-requires-then-is_type
symbol_string-requires-then-is_type c =
    let s = c.args.s.now in
    let l = c.loop in
    let p = c.part_at-p in
    let f = found_by l.invariant.0 p.ensures.value in
    let x = take (p.result.end - p.result.start) (drop p.result.start s) in
    let g = (subfield_length x (good_here f (omega arith) (3 - l.counter) (omega arith) l.invariant.1).0).1 in
    let t = ap length (part_is 1 x) ∙ length-drop 1 x in
    omega (arith, g, t)

pub returns-then-is_type : goal.returns-then-is_type
returns-then-is_type c =
    let a = c.args in
    let l = c.loop in
    let p = c.part_at-p in
    let f = found_by l.invariant.0 p.ensures.value in
    let x = take (p.result.end - p.result.start) (drop p.result.start a.s.now) in
    let t = sym c.is_type.ensures ∙ c.if-is_type.true in
    c.symbol_string-then-is_type.ensures
    ∙ (rw (part_is 1 x) (of_found (sym (type_at f (omega arith) (3 - l.counter) (omega arith) a.kind t) ∙ l.invariant.2)))

pub loop-preserved : goal.loop-preserved
loop-preserved c =
    let a = c.args in
    let l = c.loop in
    let p = c.part_at-p in
    let f = found_by l.invariant.0 p.ensures.value in
    let t = sym c.is_type.ensures ∙ c.if-is_type.false in
    let e : 3 - (l.counter + 1) ≡ 3 - l.counter - 1 = omega arith in (
      p.ensures.start_le_end.1,
      rw e (good_here f (omega arith) (3 - l.counter) (omega arith) l.invariant.1).1,
      rw e (sym (other_at f (omega arith) (3 - l.counter) (omega arith) a.kind t) ∙ l.invariant.2),
    )

pub returns : goal.returns
returns c =
    let a = c.args in
    let l = c.loop in
    let x = drop l.at a.s.now in
    c.symbol_string-2.ensures ∙ of_found (sym (type_end a.kind (3 - l.counter) x (none_more (3 - l.counter) x (omega arith))) ∙ l.invariant.2)

pub slice_bounds-symbol_string-count : goal.slice_bounds-symbol_string-count
slice_bounds-symbol_string-count c =
    let a = c.args in
    let p = c.part_at-p in
    has_type a.kind (take (p.result.end - p.result.start) (drop p.result.start a.s.now)) (sym c.is_type.ensures ∙ c.if-is_type.true)

pub slice_bounds-symbol_string-start : goal.slice_bounds-symbol_string-start
slice_bounds-symbol_string-start c =
    let a = c.args in
    let p = c.part_at-p in
    has_type a.kind (take (p.result.end - p.result.start) (drop p.result.start a.s.now)) (sym c.is_type.ensures ∙ c.if-is_type.true)
