-- The bytes of a text that a line gives, 2,048 and no more: whether they are given, from the number of its digits.
-- Assumes nothing.
use mathlib.Core.Path.{◌≡◌, refl}
use mathlib.Core.Bool.{Bool, true, false, ◌&&◌}
use mathlib.Core.List.{List}
use Rattle.std.specs.Prelude.{None}
use Prim.Native.Nat.{ℕ, ◌≤◌, ◌<◌, min}
use native.Mathlib.Omega.{arith}
use lib.Dec.{leb}
use lib.ListN.{length}
use borrow.Author.Tests.{leb-true, leb-false, le-leb, lt-leb}
use Rattle.digits.proofs.Pairs.{pairs_length}
use Rattle.digits.specs.HexadecimalRead.{are_pairs, bytes_of, bytes_read}

least_leb : (t : Bool) (k m : ℕ) → leb k m ≡ t → k ≤ 2048 → leb k (min 2048 m) ≡ t
least_leb true k m e h = let l = leb-true k m e in le-leb k (min 2048 m) (omega arith)
least_leb false k m e h = let l = leb-false k m e in lt-leb k (min 2048 m) (omega arith)

short : (g : Bool) (s : List ℕ) (m : ℕ) → are_pairs s ≡ g → length s ≤ 4096
    → g && leb 1 (length (bytes_of s)) && leb (length (bytes_of s)) (min 2048 m) ≡ g && leb 1 (length (bytes_of s)) && leb (length (bytes_of s)) m
short true s m e h =
    let t = pairs_length s e in
    rw (least_leb (leb (length (bytes_of s)) m) (length (bytes_of s)) m refl (omega arith))
short false s m e h = refl

pub hex_short : (s : List ℕ) (m : ℕ) → length s ≤ 4096 → bytes_read s (min 2048 m) ≡ bytes_read s m
unfolding bytes_read
hex_short s m h = rw (short (are_pairs s) s m refl h)

long : (g : Bool) (s : List ℕ) (m : ℕ) → are_pairs s ≡ g → 4096 < length s
    → g && leb 1 (length (bytes_of s)) && leb (length (bytes_of s)) (min 2048 m) ≡ false
long true s m e h =
    let t = pairs_length s e in
    rw (le-leb 1 (length (bytes_of s)) (omega arith), lt-leb (length (bytes_of s)) (min 2048 m) (omega arith))
long false s m e h = refl

pub hex_long : (s : List ℕ) (m : ℕ) → 4096 < length s → bytes_read s (min 2048 m) ≡ None
unfolding bytes_read
hex_long s m h = rw (long (are_pairs s) s m refl h)
