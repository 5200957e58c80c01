-- The bytes of a text in hexadecimal: whether they are given, from the number of its digits.
-- Assumes nothing.
use mathlib.Core.Path.{◌≡◌, refl, sym, ◌∙◌}
use mathlib.Core.Bool.{Bool, true, false, ◌&&◌}
use mathlib.Core.List.{List}
use Prim.Native.Nat.{ℕ, ◌/◌, ◌≤◌}
use native.Mathlib.Omega.{arith}
use lib.Dec.{leb}
use lib.ListN.{length}
use borrow.Author.Tests.{leb-true}
use Rattle.std.specs.Prelude.{Some, None}
use Rattle.bools.proofs.Tests.{both}
use Rattle.digits.proofs.Pairs.{pairs_length}
use Rattle.digits.specs.HexadecimalRead.{are_pairs, bytes_of, bytes_read}

-- a pair for each byte
pub half : (s : List ℕ) → are_pairs s ≡ true → length s / 2 ≡ length (bytes_of s)
half s e = let t = pairs_length s e in omega arith

flag : (g : Bool) (s : List ℕ) (most : ℕ) → are_pairs s ≡ g
    → g && leb 1 (length s / 2) && leb (length s / 2) most ≡ g && leb 1 (length (bytes_of s)) && leb (length (bytes_of s)) most
flag true s most e = rw (half s e)
flag false s most e = refl

module _ (s : List ℕ) (most : ℕ) where
  pub hex_given : are_pairs s && leb 1 (length s / 2) && leb (length s / 2) most ≡ true → bytes_read s most ≡ Some (bytes_of s)
  unfolding bytes_read
  hex_given e = rw (sym (flag (are_pairs s) s most refl) ∙ e)

  pub hex_none : are_pairs s && leb 1 (length s / 2) && leb (length s / 2) most ≡ false → bytes_read s most ≡ None
  unfolding bytes_read
  hex_none e = rw (sym (flag (are_pairs s) s most refl) ∙ e)

  pub hex_fits : are_pairs s && leb 1 (length s / 2) && leb (length s / 2) most ≡ true
      → (are_pairs s ≡ true) × (length (bytes_of s) ≤ most) × (length s / 2 ≡ length (bytes_of s))
  hex_fits e =
      let t = both (are_pairs s && leb 1 (length s / 2)) (leb (length s / 2) most) e in
      let p = (both (are_pairs s) (leb 1 (length s / 2)) t.0).0 in
      let h = half s p in
      let m = leb-true (length s / 2) most t.1 in
      (p, omega arith, h)
