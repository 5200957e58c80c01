-- Decimal digits: one more is read, and when none can be.
-- Assumes nothing.
use mathlib.Core.Path.{◌≡◌, refl}
use mathlib.Core.Bool.{true, false, ◌&&◌}
use mathlib.Core.List.{List, [], ◌∷◌}
use Prim.Native.Nat.{ℕ, ◌+◌, ◌≤◌, ◌<◌}
use native.Mathlib.Numerals.{add-one}
use native.Mathlib.Omega.{arith}
use lib.Dec.{eqb, ltb}
use lib.ListN.{length, get_or, drop, drop_of_length-le}
use lib.Seq.{drop-cons}
use borrow.Author.Tests.{le-leb, lt-leb, lt-ltb}
use Rattle.bools.proofs.Tests.{both}
use Rattle.digits.specs.DecimalRead.{is_decimal, with_digit, read_on, number_of}
use Rattle.std.specs.Prelude.{Some, None, slice_get}

-- ---- the digits from a place on

module _ (value i : ℕ) (s : List ℕ) (h : i < length s) where
  pub read_more : is_decimal (get_or s i 0) ≡ true → with_digit value (get_or s i 0) ≤ 65535
      → read_on (with_digit value (get_or s i 0)) (drop (i + 1) s) ≡ read_on value (drop i s)
  unfolding read_on
  read_more d l = rw (add-one, drop-cons s i 0 h, d, le-leb (with_digit value (get_or s i 0)) 65535 l)

  pub read_other : is_decimal (get_or s i 0) ≡ false → read_on value (drop i s) ≡ None
  unfolding read_on
  read_other d = rw (drop-cons s i 0 h, d)

  pub read_past : is_decimal (get_or s i 0) ≡ true → 65535 < with_digit value (get_or s i 0) → read_on value (drop i s) ≡ None
  unfolding read_on
  read_past d l = rw (drop-cons s i 0 h, d, lt-leb (with_digit value (get_or s i 0)) 65535 l)

pub read_end : (value i : ℕ) (s : List ℕ) → length s ≤ i → read_on value (drop i s) ≡ Some value
unfolding read_on
read_end value i s h = rw (drop_of_length-le s {i = i} h)

-- ---- leading zeros

pub number_none : (s : List ℕ) → slice_get s 0 ≡ None → number_of s ≡ None
unfolding number_of
number_none [] e = refl
number_none (b ∷ s) e = cc

pub number_leading_zero : (b : ℕ) (s : List ℕ) → slice_get s 0 ≡ Some b → ltb 1 (length s) && eqb b 0x30 ≡ true → number_of s ≡ None
unfolding number_of
number_leading_zero b [] h e = refl
number_leading_zero b (x ∷ []) h e = cc
number_leading_zero b (x ∷ y ∷ rest) h e =
    let z : x ≡ b = cc in
    rw (z, (both (ltb 1 (length (x ∷ y ∷ rest))) (eqb b 0x30) e).1)

pub number_digits : (b : ℕ) (s : List ℕ) → slice_get s 0 ≡ Some b → ltb 1 (length s) && eqb b 0x30 ≡ false → read_on 0 s ≡ number_of s
unfolding number_of
number_digits b [] h e = cc
number_digits b (x ∷ []) h e = refl
number_digits b (x ∷ y ∷ rest) h e =
    let z : x ≡ b = cc in
    let n : eqb x 0x30 ≡ false = rw (z) (rw (lt-ltb 1 (length (x ∷ y ∷ rest)) (omega arith)) at e) in
    rw n
