-- A part of a buffer that is lent to a call, and the whole buffer once the part has come back.
-- Assumes nothing.
use mathlib.Core.Path.{◌≡◌}
use mathlib.Core.List.{List, ◌++◌, append-nil}
use Prim.Native.Nat.{ℕ, ◌-◌}
use native.Mathlib.Nat.{le_of_eq}
use lib.ListN.{length, take, drop, length-drop, drop_of_length-le}
use lib.Seq.{take_all}
use borrow.Rule.Slice.PartMut.{mid_of, put_mid}

-- `&s[a..]`, `&mut s[a..]`
pub part_is : (a : ℕ) (xs : List ℕ) → mid_of a (length xs - a) xs ≡ drop a xs
part_is a xs = take_all (length xs - a) (drop a xs) (le_of_eq (length-drop a xs))

-- the whole, once `&mut s[a..]` has come back as ys
pub part_back : (a : ℕ) (xs ys : List ℕ) → put_mid a (length xs - a) xs ys ≡ take a xs ++ ys
part_back a xs ys = rw (drop_of_length-le (drop a xs) {i = length xs - a} (le_of_eq (length-drop a xs)), append-nil)
