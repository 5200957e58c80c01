-- Sizes and their bytes. One test, which antt computes at every mantissa and exponent, carries the way there and the way back.
-- Assumes nothing.
use mathlib.Core.Path.{◌≡◌, refl, sym, ◌∙◌, subst}
use mathlib.Core.Bool.{Bool, true, false, cond, not, ◌&&◌, ◌||◌}
use Prim.Native.Nat.{ℕ, ◌+◌, ◌*◌, ◌/◌, ◌%◌, ◌^◌, ◌<◌}
use native.Mathlib.Nat.{div-add-mod'}
use native.Mathlib.Omega.{arith}
use lib.Arith.{digits_div, digits_mod}
use lib.Count.{count_leading_zeros}
use lib.Dec.{eqb, leb}
use borrow.Author.Tests.{eqb-true, le-leb}
use Rattle.bools.proofs.Below.{all_below, at_below}
use Rattle.bools.proofs.Cases.{never, split}
use Rattle.bools.proofs.Tests.{left, right, join, follows_from}
use Rattle.unit.specs.Maximum.{max_good}
use Rattle.bind.specs.SessionBytes.{times, means, maximum_good, size_of, byte_of}
use Rattle.bind.proofs.Normalized.{place, Normalized, normalized, byte_below}
use Rattle.bind.proofs.Search.{byte_means, none_means}

-- the byte of a size whose highest bit is moved to the mantissa's place; 0 if a bit is lost there
abbrev pub moved : ℕ → ℕ
moved size = cond (eqb (size / 2 ^ place size * 2 ^ place size) size) (size / 2 ^ place size * 16 + place size) 0

-- ---- each mantissa and exponent, there and back

abbrev there : ℕ → ℕ → Bool
there a b = eqb (size_of (a * 16 + b)) (cond (maximum_good a b) (times a b) 0)

abbrev back : ℕ → ℕ → Bool
back a b = not (maximum_good a b) || eqb (moved (times a b)) (a * 16 + b)

abbrev checks : ℕ → Bool
checks a = all_below (λ b. there a b && back a b) 16

all_check : all_below checks 16 ≡ true
unfolding size_of count_leading_zeros
all_check = refl

checked : (a b : ℕ) → a < 16 → b < 16 → there a b && back a b ≡ true
checked a b h k = at_below (λ b. there a b && back a b) 16 (at_below checks 16 all_check a h) b k

pub size_at : (a b : ℕ) → a < 16 → b < 16 → size_of (a * 16 + b) ≡ cond (maximum_good a b) (times a b) 0
size_at a b h k = eqb-true (size_of (a * 16 + b)) (cond (maximum_good a b) (times a b) 0) (left (there a b) (back a b) (checked a b h k))

pub moved_at : (a b : ℕ) → a < 16 → b < 16 → maximum_good a b ≡ true → moved (times a b) ≡ a * 16 + b
moved_at a b h k m =
    let s = moved (times a b) in
    eqb-true s (a * 16 + b) (follows_from (maximum_good a b) (eqb s (a * 16 + b)) (right (there a b) (back a b) (checked a b h k)) m)

-- ---- a byte by its mantissa and its exponent

pub mantissa_below : (byte : ℕ) → byte < 256 → byte / 16 < 16
mantissa_below byte h = omega (arith, h)

pub exponent_below : (byte : ℕ) → byte % 16 < 16
exponent_below byte = omega arith

-- ---- the size moved is the byte that is found

moved_means : (size : ℕ) → Normalized size → eqb (size / 2 ^ place size * 2 ^ place size) size ≡ true
    → means (size / 2 ^ place size * 16 + place size) size ≡ true
moved_means size n e =
    let k = n.most_exponent in
    let l = n.least in
    let s : place size < 16 = omega (arith, k) in
    rw (digits_div (size / 2 ^ place size) s, digits_mod (size / 2 ^ place size) s)
    (join (leb 8 (size / 2 ^ place size)) _ (le-leb 8 (size / 2 ^ place size) l) e)

-- a byte found has a mantissa and an exponent, at which the test was computed
at_byte : (size byte : ℕ) → max_good size ≡ true → means byte size ≡ true → byte < 256 → moved size ≡ byte
at_byte size byte g m h =
    let e = eqb-true (times (byte / 16) (byte % 16)) size (right (leb 8 (byte / 16)) _ m) in
    let w = subst (λ (s : ℕ). max_good s ≡ true) (sym e) g in
    subst (λ (s : ℕ). moved s ≡ byte) e
    (moved_at (byte / 16) (byte % 16) (mantissa_below byte h) (exponent_below byte) (join (leb 8 (byte / 16)) _ (left _ _ m) w) ∙ div-add-mod' byte 16)

pub found_is_moved : (size : ℕ) → max_good size ≡ true → byte_of size ≡ moved size
found_is_moved size g =
    split (eqb (byte_of size) 0) (λ z. let e = eqb-true (byte_of size) 0 z in e ∙ sym (nothing (none_means size e)))
    (λ z. let b = byte_means size z in sym (at_byte size (byte_of size) g b.0 b.1))
  where
    nothing : ((byte : ℕ) → byte < 256 → means byte size ≡ false) → moved size ≡ 0
    nothing f =
        let n = normalized size g in
        split (eqb (size / 2 ^ place size * 2 ^ place size) size)
        (λ e. never (sym (f (size / 2 ^ place size * 16 + place size) (byte_below size n)) ∙ moved_means size n e))
        (λ e. rw e)
