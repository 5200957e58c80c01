-- Units behind their lengths, as lists.
-- Assumes nothing.
use mathlib.Core.Path.{◌≡◌, refl, sym, ap, ◌∙◌}
use mathlib.Core.List.{List, [], ◌∷◌, ◌++◌, append_assoc, append-nil}
use Prim.Native.Nat.{ℕ, ◌-◌, ◌*◌, ◌≤◌, zero-le}
use native.Mathlib.Omega.{arith}
use lib.ListN.{length, take, drop, set, length-append}
use lib.Seq.{take-length}
use borrow.Rule.Slice.PartMut.{mid_of, put_mid}
use Rattle.cells.specs.Cells.{front}
use Rattle.cells.proofs.PartLent.{part_is, part_back}
use Rattle.unit_lines.specs.UnitLine.{framed, frames, NoneLonger}

-- two stores, and the unit in the part that starts at cell 2
two_and_unit : (h l : ℕ) (u c : List ℕ) → 2 ≤ length c
    → take 2 (set (set c 0 h) 1 l) ++ (u ++ drop (length u) (drop 2 (set (set c 0 h) 1 l))) ≡ front (h ∷ l ∷ u) c
unfolding front
two_and_unit h l u [] b = absurd (omega arith)
two_and_unit h l u (x ∷ []) b = absurd (omega arith)
two_and_unit h l u (x ∷ y ∷ c) b = refl

pub frame_put : (h l : ℕ) (u c after : List ℕ) → 2 ≤ length c
    → (let s = set (set c 0 h) 1 l in after ≡ take (length u) u ++ drop (length u) (mid_of 2 (length s - 2) s))
    → (let s = set (set c 0 h) 1 l in put_mid 2 (length s - 2) s after ≡ front (h ∷ l ∷ u) c)
frame_put h l u c after b e =
    let s = set (set c 0 h) 1 l in
    rw (part_back 2 s after, e, part_is 2 s, take-length u) (two_and_unit h l u c b)

-- one unit more
pub frames_more : (us : List (List ℕ)) (u : List ℕ) → frames (us ++ (u ∷ [])) ≡ frames us ++ framed u
unfolding frames
frames_more [] u = append-nil (framed u)
frames_more (v ∷ us) u = ap (λ (l : List ℕ). framed v ++ l) (frames_more us u) ∙ sym (append_assoc (framed v) (frames us) (framed u))

pub none_more : (us : List (List ℕ)) (u : List ℕ) → NoneLonger us → length u ≤ 1029 → NoneLonger (us ++ (u ∷ []))
unfolding NoneLonger
none_more [] u n h = (h, tt)
none_more (v ∷ us) u n h = (n.0, none_more us u n.1 h)

-- the cells that units take
pub frames_length : (us : List (List ℕ)) → NoneLonger us → length (frames us) ≤ 1031 * length us
unfolding frames NoneLonger
frames_length [] n = zero-le
frames_length (u ∷ us) n =
    let h = frames_length us n.1 in
    let k = n.0 in
    omega (arith, length-append u (frames us))
