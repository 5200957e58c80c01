-- Stores at neighbouring cells, and parts written one right behind the other, are one run of bytes written.
-- Assumes nothing.
use mathlib.Core.Path.{◌≡◌, sym, ◌∙◌}
use mathlib.Core.List.{List, [], ◌∷◌, ◌++◌, append_assoc, append-nil}
use Prim.Native.Nat.{ℕ, suc, ◌+◌, ◌≤◌}
use native.Mathlib.Numerals.{add-one}
use native.Mathlib.Nat.{le_of_eq, add_assoc}
use native.Mathlib.Omega.{arith}
use lib.ListN.{length, set, take, drop, length-append, drop_of_length-le}
use lib.Seq.{sets, sets-eq, drop-drop, length-take-le, take_at, drop_at}
use Rattle.cells.specs.Cells.{front, written}
use Rattle.cells.proofs.Fronts.{written_length, written_none}

pub stored : (vs cells : List ℕ) (at : ℕ) → at + length vs ≤ length cells → sets cells at vs ≡ written at vs cells
unfolding written front
stored vs cells at h = sets-eq vs cells at h ∙ simp (drop-drop, append_assoc)

pub two_stored : (a b : ℕ) (cells : List ℕ) (at : ℕ) → at + 2 ≤ length cells
    → set (set cells at a) (at + 1) b ≡ written at (a ∷ b ∷ []) cells
two_stored a b cells at h = rw add-one (stored (a ∷ b ∷ []) cells at h)

pub three_stored : (a b d : ℕ) (cells : List ℕ) (at : ℕ) → at + 3 ≤ length cells
    → set (set (set cells at a) (at + 1) b) (at + 2) d ≡ written at (a ∷ b ∷ d ∷ []) cells
three_stored a b d cells at h =
    let e : at + 2 ≡ suc (suc at) = omega arith in
    rw (e, add-one) (stored (a ∷ b ∷ d ∷ []) cells at h)

-- a part right behind another
behind : (at : ℕ) (a b cells : List ℕ) → at + length a ≤ length cells
    → written (at + length a) b (written at a cells) ≡ written at (a ++ b) cells
unfolding written front
behind at a b cells h =
    let p : List ℕ = take at cells ++ a in
    let r : List ℕ = drop (length a) (drop at cells) in
    let n : length (take at cells ++ a) ≡ at + length a = simp (length-append, length-take-le at cells (omega arith)) in
    rw (← append_assoc (take at cells) a r, take_at (take at cells ++ a) r (at + length a) n, drop_at (take at cells ++ a) r (at + length a) n)
    (simp (append_assoc, length-append, drop-drop, add_assoc))

-- one store, and a part right behind it
pub one_stored : (a : ℕ) (b cells : List ℕ) (at : ℕ) → at + 1 ≤ length cells → written (at + 1) b (set cells at a) ≡ written at (a ∷ b) cells
one_stored a b cells at h = rw (stored (a ∷ []) cells at h) (behind at (a ∷ []) b cells h)

-- parts written one right behind the other; on a list that is written out it computes to the writes themselves
abbrev pub run : ℕ → List (List ℕ) → List ℕ → List ℕ
run at [] cells = cells
run at (p ∷ ps) cells = run (at + length p) ps (written at p cells)

abbrev pub joined : List (List ℕ) → List ℕ
joined [] = []
joined (p ∷ ps) = p ++ joined ps

pub runs : (ps : List (List ℕ)) (at : ℕ) (cells : List ℕ) → at + length (joined ps) ≤ length cells
    → run at ps cells ≡ written at (joined ps) cells
runs [] at cells h = sym (written_none at cells)
runs (p ∷ ps) at cells h =
    let n : length (p ++ joined ps) ≡ length p + length (joined ps) = length-append p (joined ps) in
    let hp : at + length p ≤ length cells = omega arith in
    let k : length (written at p cells) ≡ length cells = written_length at p cells hp in
    runs ps (at + length p) (written at p cells) (omega arith) ∙ behind at p (joined ps) cells hp

-- as many bytes as there are cells
pub written_all : (vs cells : List ℕ) → length vs ≡ length cells → written 0 vs cells ≡ vs
unfolding written front
written_all vs cells h = rw (drop_of_length-le cells {i = length vs} (le_of_eq (sym h)), append-nil)
