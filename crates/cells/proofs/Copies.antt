-- What a copy of bytes leaves in the cells of a buffer.
-- Assumes nothing.
use mathlib.Core.Path.{◌≡◌, ◌∙◌}
use mathlib.Core.List.{List, ◌++◌, append_assoc}
use Prim.Native.Nat.{ℕ, ◌-◌, ◌≤◌}
use native.Mathlib.Omega.{arith}
use lib.ListN.{length, take, drop, take-append-drop}
use lib.Seq.{take-length, length-take-le, drop-append-le}
use borrow.Rule.Slice.PartMut.{mid_of, put_mid}
use Rattle.cells.specs.Cells.{front, written}
use Rattle.cells.proofs.PartLent.{part_is, part_back}

-- to the front
pub copy_front : (bs cells after : List ℕ) → after ≡ take (length bs) bs ++ drop (length bs) cells → after ≡ front bs cells
unfolding front
copy_front bs cells after e = e ∙ rw (take-length bs)

-- to the part that starts at `at`
pub copy_part : (at : ℕ) (bs cells after : List ℕ)
    → after ≡ take (length bs) bs ++ drop (length bs) (mid_of at (length cells - at) cells)
    → put_mid at (length cells - at) cells after ≡ written at bs cells
unfolding written front
copy_part at bs cells after e = rw (part_back at cells after, e, part_is at cells, take-length bs)

-- of what stands past the first k of the bytes
pub copy_rest : (k : ℕ) (bs cells after : List ℕ)
    → (let rest = mid_of k (length bs - k) bs in after ≡ take (length rest) rest ++ drop (length rest) cells)
    → after ≡ front (drop k bs) cells
copy_rest k bs cells after e = copy_front (mid_of k (length bs - k) bs) cells after e ∙ rw (part_is k bs)

-- within the first h cells
pub front_within : (h : ℕ) (bs cells after : List ℕ) → h ≤ length cells → length bs ≤ h → after ≡ front bs (take h cells)
    → after ++ drop h cells ≡ front bs cells
unfolding front
front_within h bs cells after l s e =
    let n = length-take-le h cells l in
    rw (
      e,
      append_assoc bs (drop (length bs) (take h cells)) (drop h cells),
      ← drop-append-le (length bs) (take h cells) (drop h cells) (omega arith),
      take-append-drop h cells,
    )
