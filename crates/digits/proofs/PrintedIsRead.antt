-- What is printed is read back: digit by digit, in decimal from the first, in hexadecimal two by two.
-- Assumes nothing.
use mathlib.Core.Path.{◌≡◌, refl, ◌∙◌}
use mathlib.Core.Bool.{true, false, ◌&&◌, ◌||◌}
use mathlib.Core.List.{List, [], ◌∷◌, ◌++◌}
use Prim.Native.Nat.{ℕ, zero, suc, ◌+◌, ◌*◌, ◌/◌, ◌%◌, ◌^◌, ◌≤◌, ◌<◌}
use native.Mathlib.Omega.{arith}
use lib.Dec.{eqb, ltb, leb}
use lib.ListN.{length}
use borrow.Author.Tests.{ltb-true, ltb-false, le-leb, lt-leb, ne_eqb}
use Rattle.bools.proofs.Tests.{both}
use Rattle.bools.proofs.Cases.{split}
use Rattle.digits.specs.DecimalRead.{is_decimal, with_digit, read_on, number_of}
use Rattle.digits.specs.HexadecimalRead.{is_letter, digit_of, are_pairs, bytes_of, bytes_read}
use Rattle.digits.specs.Printed.{decimal_in, decimal_of, hex_digit, hex_of}
use Rattle.digits.specs.ReadBack.{NumberReadBack, are_bytes, BytesReadBack}
use Rattle.std.specs.Prelude.{Option, Some, None}
use Rattle.digits.proofs.PrintedDigits.{below_ten, ten_up, fewer}

-- ---- decimal

one_digit : (value d m : ℕ) → d < 10 → 10 * value + d ≡ m → m ≤ 65535 → read_on value ((48 + d) ∷ []) ≡ Some m
unfolding read_on
one_digit value d m h e l =
    let w : with_digit value (48 + d) ≡ m = omega arith in
    rw (le-leb 0x30 (48 + d) (omega arith), le-leb (48 + d) 0x39 (omega arith), w, le-leb m 65535 l)

-- digits behind digits
read_then : (xs ys : List ℕ) (value m : ℕ) → read_on value xs ≡ Some m → read_on value (xs ++ ys) ≡ read_on m ys
unfolding read_on
read_then [] ys value m e = let v : value ≡ m = cc in rw v
read_then (b ∷ xs) ys value m e =
    split (is_decimal b && leb (with_digit value b) 65535)
    (λ t. rw t (read_then xs ys (with_digit value b) m (rw t at e)))
    (λ t. let u : ◌≡◌ {A = Option ℕ} None (Some m) = rw t at e in cc)

digits_read : (k n : ℕ) → n < 10 ^ k → n ≤ 65535 → read_on 0 (decimal_in k n) ≡ Some n
unfolding read_on decimal_in
digits_read zero n h m = let e : 0 ≡ n = omega arith in rw e
digits_read (suc k) n h m =
    split (ltb n 10)
    (λ t. let l = ltb-true n 10 t in rw (below_ten k n l) (one_digit 0 n n l (omega arith) m))
    (λ t.
    let f = digits_read k (n / 10) (fewer n k h) (omega arith) in
    rw (ten_up k n (ltb-false n 10 t), read_then (decimal_in k (n / 10)) ((48 + n % 10) ∷ []) 0 (n / 10) f)
    (one_digit (n / 10) (n % 10) n (omega arith) (omega arith) m))

-- a number that is not 0 begins with another digit
begins_with : (k n : ℕ) → n < 10 ^ k → 0 < n → (d : ℕ) × (rest : List ℕ) × (decimal_in k n ≡ (48 + d) ∷ rest) × (0 < d)
begins_with zero n h p = absurd (omega arith)
begins_with (suc k) n h p =
    split (ltb n 10)
    (λ t. (n, [], below_ten k n (ltb-true n 10 t), p))
    (λ t.
    let l = ltb-false n 10 t in
    let f = begins_with k (n / 10) (fewer n k h) (omega arith) in
    (f.0, f.1 ++ ((48 + n % 10) ∷ []), ten_up k n l ∙ rw f.2, f.3))

no_leading_zero : (b : ℕ) (bs : List ℕ) → eqb b 0x30 ≡ false → number_of (b ∷ bs) ≡ read_on 0 (b ∷ bs)
unfolding number_of
no_leading_zero b [] e = refl
no_leading_zero b (c ∷ bs) e = rw e

pub number_read_back : NumberReadBack
unfolding decimal_of number_of read_on
number_read_back zero h = rw (below_ten 19 0 (omega arith))
number_read_back (suc n) h =
    let f = begins_with 20 (suc n) (omega arith) (omega arith) in
    let r = rw f.2 at (digits_read 20 (suc n) (omega arith) h) in
    rw f.2 (no_leading_zero (48 + f.0) f.1 (ne_eqb (48 + f.0) 0x30 (omega (arith, f.3))) ∙ r)

-- ---- hexadecimal

figure_read : (d x : ℕ) → d < 10 → x ≡ 48 + d → (is_decimal x || is_letter x ≡ true) × (digit_of x ≡ d)
figure_read d x h e =
    let t = le-leb 0x30 x (omega arith) in
    let u = le-leb x 0x39 (omega arith) in
    (rw (t, u), rw (t, u) (omega arith))

letter_read : (d x : ℕ) → 10 ≤ d → d < 16 → x ≡ 55 + d → (is_decimal x || is_letter x ≡ true) × (digit_of x ≡ d)
letter_read d x h l e =
    let t = le-leb 0x30 x (omega arith) in
    let u = lt-leb x 0x39 (omega arith) in
    let v = le-leb 0x41 x (omega arith) in
    let w = le-leb x 0x46 (omega arith) in
    (rw (t, u, v, w), rw (t, u, v, w) (omega arith))

digit_read : (d : ℕ) → d < 16 → (is_decimal (hex_digit d) || is_letter (hex_digit d) ≡ true) × (digit_of (hex_digit d) ≡ d)
digit_read d h =
    split (ltb d 10)
    (λ t. figure_read d (hex_digit d) (ltb-true d 10 t) (rw t))
    (λ t. letter_read d (hex_digit d) (ltb-false d 10 t) h (rw t))

bytes_read_lem : (bs : List ℕ) → are_bytes bs ≡ true → (are_pairs (hex_of bs) ≡ true) × (bytes_of (hex_of bs) ≡ bs)
unfolding are_bytes are_pairs bytes_of hex_of
bytes_read_lem [] h = (refl, refl)
bytes_read_lem (b ∷ bs) h =
    let p = both (ltb b 256) (are_bytes bs) h in
    let l = ltb-true b 256 p.0 in
    let high = digit_read (b / 16) (omega arith) in
    let low = digit_read (b % 16) (omega arith) in
    let rest = bytes_read_lem bs p.1 in
    let e : 16 * (b / 16) + b % 16 ≡ b = omega arith in
    (rw (high.0, low.0) rest.0, rw (high.1, low.1, e, rest.1))

pub bytes_read_back : BytesReadBack
unfolding bytes_read
bytes_read_back bs h =
    let r = bytes_read_lem bs h in
    record { pairs = r.0; same = r.1; given = λ most l m. rw (r.0, r.1, le-leb 1 (length bs) l, le-leb (length bs) most m) }
