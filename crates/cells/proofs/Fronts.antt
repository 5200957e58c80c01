-- Laws of `front` and `written`.
-- Assumes nothing.
use mathlib.Core.Path.{◌≡◌, refl, sym, ap, ◌∙◌}
use mathlib.Core.List.{List, [], ◌++◌, append_assoc}
use Prim.Native.Nat.{ℕ, ◌+◌, ◌-◌, ◌≤◌}
use native.Mathlib.Omega.{arith}
use lib.ListN.{length, take, drop, length-append, length-drop, length-take, take-append-drop}
use lib.Seq.{take-append_seam, drop-drop, take-take, length-take-le, take_at}
use Rattle.cells.specs.Cells.{front, written}

-- a buffer keeps its length
pub front_length : (bs cells : List ℕ) → length bs ≤ length cells → length (front bs cells) ≡ length cells
unfolding front
front_length bs cells h = simp (length-append, length-drop) (omega arith)

-- the bytes stand at the front, and the cells past them are as they were
pub front_bytes : (bs cells : List ℕ) → take (length bs) (front bs cells) ≡ bs
unfolding front
front_bytes bs cells = take-append_seam bs (drop (length bs) cells)

-- nothing written
pub front_none : (cells : List ℕ) → front [] cells ≡ cells
unfolding front
front_none cells = refl

pub written_none : (at : ℕ) (cells : List ℕ) → written at [] cells ≡ cells
unfolding written front
written_none at cells = take-append-drop at cells

-- bytes at the front, and more bytes right behind them
pub front_then : (vs bs cells : List ℕ) → vs ++ front bs (drop (length vs) cells) ≡ front (vs ++ bs) cells
unfolding front
front_then vs bs cells = simp (drop-drop, length-append, append_assoc)

pub written_length : (at : ℕ) (bs cells : List ℕ) → at + length bs ≤ length cells → length (written at bs cells) ≡ length cells
unfolding written
written_length at bs cells h =
    let f : length (front bs (drop at cells)) ≡ length (drop at cells) = front_length bs (drop at cells) (simp length-drop (omega arith)) in
    length-append (take at cells) (front bs (drop at cells)) ∙ simp (f, length-take, length-drop) (omega arith)

-- the cells before the bytes, and the bytes
pub written_bytes : (at : ℕ) (bs cells : List ℕ) → at ≤ length cells → take (at + length bs) (written at bs cells) ≡ take at cells ++ bs
unfolding written front
written_bytes at bs cells h =
    let n : length (take at cells ++ bs) ≡ at + length bs = simp (length-append, length-take-le at cells h) in
    ap (take (at + length bs)) (sym (append_assoc (take at cells) bs (drop (length bs) (drop at cells))))
    ∙ take_at (take at cells ++ bs) (drop (length bs) (drop at cells)) (at + length bs) n

-- ---- bytes copied from the front of cells, and those behind them moved there

pub front_of : (n : ℕ) (bs cells : List ℕ) → n ≡ length bs → take n (front bs cells) ≡ bs
front_of n bs cells e = rw e (front_bytes bs cells)

pub copied_front : (k : ℕ) (from to : List ℕ) → k ≤ length from → take k (front (take k from) to) ≡ take k from
copied_front k from to h = front_of k (take k from) to (sym (length-take-le k from h))

-- of the cells held, the first k and the others
pub held_parts : (k held : ℕ) (cells : List ℕ) → k ≤ held → take held cells ≡ take k cells ++ drop k (take held cells)
held_parts k held cells h = sym (take-append-drop k (take held cells)) ∙ ap (λ (l : List ℕ). l ++ drop k (take held cells)) (take-take k held cells h)

pub moved_front : (k held : ℕ) (cells : List ℕ) → held ≤ length cells
    → take (held - k) (front (drop k (take held cells)) cells) ≡ drop k (take held cells)
moved_front k held cells h =
    front_of (held - k) (drop k (take held cells)) cells (sym (length-drop k (take held cells) ∙ ap (λ (n : ℕ). n - k) (length-take-le held cells h)))
