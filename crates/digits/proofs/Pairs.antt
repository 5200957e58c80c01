-- Pairs of hexadecimal digits: one more is passed, and the bytes that they are.
-- Assumes nothing.
use mathlib.Core.Path.{◌≡◌, refl}
use mathlib.Core.Bool.{true, false}
use mathlib.Core.List.{List, [], ◌∷◌}
use Prim.Native.Nat.{ℕ, zero, suc, ◌+◌, ◌*◌, ◌≤◌, ◌<◌}
use native.Mathlib.Nat.{zero-add}
use native.Mathlib.Numerals.{add-one}
use native.Mathlib.Omega.{arith}
use lib.Dec.{eqb, leb}
use lib.ListN.{length, get_or, set, drop}
use lib.Seq.{paste, paste-suc}
use borrow.Author.Tests.{leb-true}
use Rattle.bools.proofs.Tests.{both}
use Rattle.digits.specs.HexadecimalRead.{is_letter, is_pair, byte_of, are_pairs, bytes_of}

-- ---- one digit

pub letter_bounds : (b : ℕ) → is_letter b ≡ true → (0x41 ≤ b) × (b ≤ 0x46)
letter_bounds b e =
    let t = both (leb 0x41 b) (leb b 0x46) e in
    (leb-true 0x41 b t.0, leb-true b 0x46 t.1)

-- ---- the first pair, and what is behind it

pub pairs_more : (s : List ℕ) → 2 ≤ length s → is_pair (get_or s 0 0) (get_or s 1 0) ≡ true → are_pairs (drop 2 s) ≡ are_pairs s
unfolding are_pairs
pairs_more [] h p = absurd (omega arith)
pairs_more (x ∷ []) h p = absurd (omega arith)
pairs_more (x ∷ y ∷ rest) h p = rw p

pub pairs_other : (s : List ℕ) → 2 ≤ length s → is_pair (get_or s 0 0) (get_or s 1 0) ≡ false → are_pairs s ≡ false
unfolding are_pairs
pairs_other [] h p = absurd (omega arith)
pairs_other (x ∷ []) h p = absurd (omega arith)
pairs_other (x ∷ y ∷ rest) h p = rw p

-- none is left, or one digit without its pair
pub pairs_end : (s : List ℕ) → length s < 2 → eqb (length s) 0 ≡ are_pairs s
unfolding are_pairs
pairs_end [] h = refl
pairs_end (x ∷ []) h = refl
pairs_end (x ∷ y ∷ rest) h = absurd (omega arith)

-- ---- the bytes

pub pairs_length : (s : List ℕ) → are_pairs s ≡ true → length s ≡ 2 * length (bytes_of s)
unfolding are_pairs bytes_of
pairs_length [] e = refl
pairs_length (h ∷ []) e = cc
pairs_length (h ∷ l ∷ rest) e =
    let t : length rest ≡ 2 * length (bytes_of rest) = pairs_length rest (both (is_pair h l) (are_pairs rest) e).1 in
    omega arith

pub byte_at : (s : List ℕ) (i : ℕ) → i < length (bytes_of s) → get_or (bytes_of s) i 0 ≡ byte_of (get_or s (2 * i) 0) (get_or s (2 * i + 1) 0)
unfolding bytes_of
byte_at [] i h = absurd (omega arith)
byte_at (a ∷ []) i h = absurd (omega arith)
byte_at (a ∷ b ∷ rest) zero h = refl
byte_at (a ∷ b ∷ rest) (suc i) h =
    let e : 2 * suc i ≡ suc (suc (2 * i)) = omega arith in
    let f : suc (suc (2 * i)) + 1 ≡ suc (suc (2 * i + 1)) = omega arith in
    rw (e, f) (byte_at rest i (omega arith))

-- ---- the cells

pub written_more : (cells bs : List ℕ) (i : ℕ) → i < length cells → i < length bs
    → set (paste cells 0 bs i) i (get_or bs i 0) ≡ paste cells 0 bs (i + 1)
written_more cells bs i h l = rw add-one (simp zero-add (simp zero-add at (paste-suc cells 0 bs i 0 (omega arith) l)))
