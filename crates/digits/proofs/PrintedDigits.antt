-- Laws of numbers and bytes as text.
-- Assumes nothing.
use mathlib.Core.Path.{◌≡◌, refl, sym, ap, ◌∙◌}
use mathlib.Core.Bool.{Bool, true, false}
use mathlib.Core.List.{List, [], ◌∷◌, ◌++◌, append_assoc}
use Prim.Native.Nat.{ℕ, zero, suc, ◌+◌, ◌-◌, ◌*◌, ◌/◌, ◌%◌, ◌^◌, ◌≤◌, ◌<◌}
use native.Mathlib.Nat.{pow-suc}
use native.Mathlib.Numerals.{add-one}
use native.Mathlib.Omega.{arith}
use lib.Dec.{ltb}
use lib.ListN.{length, take, drop, get_or, set, length-set, length-drop}
use lib.Seq.{take_all, drop-cons, get_or-set_same, drop-set-lt}
use borrow.Author.Tests.{lt-ltb, le-ltb, ltb-true, ltb-false}
use Rattle.digits.specs.Printed.{decimal_in, decimal_of, hex_byte, hex_of}

-- ---- decimal

pub below_ten : (k n : ℕ) → n < 10 → decimal_in (suc k) n ≡ (48 + n) ∷ []
unfolding decimal_in
below_ten k n h = rw (lt-ltb n 10 h)

pub ten_up : (k n : ℕ) → 10 ≤ n → decimal_in (suc k) n ≡ decimal_in k (n / 10) ++ ((48 + n % 10) ∷ [])
unfolding decimal_in
ten_up k n h = rw (le-ltb n 10 h)

-- a digit fewer is left
pub fewer : (n k : ℕ) → n < 10 ^ suc k → n / 10 < 10 ^ k
fewer n k h = let e : 10 ^ suc k ≡ 10 ^ k * 10 = pow-suc 10 k in omega arith

-- any number of steps that is enough gives the same digits
enough_step : (b : Bool) (k l n : ℕ) → (n / 10 < 10 ^ k → n / 10 < 10 ^ l → 0 < n / 10 → decimal_in k (n / 10) ≡ decimal_in l (n / 10))
    → ltb n 10 ≡ b → n < 10 ^ suc k → n < 10 ^ suc l → decimal_in (suc k) n ≡ decimal_in (suc l) n
enough_step true k l n f e h g = let t : n < 10 = ltb-true n 10 e in below_ten k n t ∙ sym (below_ten l n t)
enough_step false k l n f e h g =
    let t : 10 ≤ n = ltb-false n 10 e in
    ten_up k n t ∙ ap (λ (d : List ℕ). d ++ ((48 + n % 10) ∷ [])) (f (fewer n k h) (fewer n l g) (omega arith)) ∙ sym (ten_up l n t)

enough : (k l n : ℕ) → n < 10 ^ k → n < 10 ^ l → 0 < n → decimal_in k n ≡ decimal_in l n
enough zero l n h g p = absurd (omega arith)
enough (suc k) zero n h g p = absurd (omega arith)
enough (suc k) (suc l) n h g p = enough_step (ltb n 10) k l n (enough k l (n / 10)) refl h g

decimal_more : (n : ℕ) → n < 10 ^ 20 → 9 < n → decimal_of n ≡ decimal_of (n / 10) ++ ((48 + n % 10) ∷ [])
unfolding decimal_of
decimal_more n g h =
    ten_up 19 n h
    ∙ ap (λ (d : List ℕ). d ++ ((48 + n % 10) ∷ [])) (enough 19 20 (n / 10) (omega arith) (omega arith) (omega arith))

decimal_last : (n : ℕ) → n < 10 → decimal_of n ≡ (48 + n) ∷ []
unfolding decimal_of
decimal_last n h = below_ten 19 n h

-- digits are stored from the last to the first
stored : (ds : List ℕ) (i v : ℕ) → i < length ds → drop i (set ds i v) ≡ v ∷ drop (i + 1) ds
stored ds i v h =
    let g : i < length (set ds i v) = rw length-set h in
    drop-cons (set ds i v) i 0 g ∙ rw (get_or-set_same ds i v 0 h, drop-set-lt (suc i) ds i v (omega arith), add-one)

pub digit_stored : (n rest i : ℕ) (ds : List ℕ) → rest < 10 ^ 20 → 9 < rest → i < length ds → decimal_of n ≡ decimal_of rest ++ drop (i + 1) ds
    → decimal_of n ≡ decimal_of (rest / 10) ++ drop i (set ds i (48 + rest % 10))
digit_stored n rest i ds b h g e =
    rw (stored ds i (48 + rest % 10) g)
    (e ∙ ap (λ (d : List ℕ). d ++ drop (i + 1) ds) (decimal_more rest b h)
    ∙ append_assoc (decimal_of (rest / 10)) ((48 + rest % 10) ∷ []) (drop (i + 1) ds))

pub first_stored : (n rest i : ℕ) (ds : List ℕ) → rest < 10 → i < length ds → decimal_of n ≡ decimal_of rest ++ drop (i + 1) ds
    → drop i (set ds i (48 + rest)) ≡ decimal_of n
first_stored n rest i ds h g e =
    stored ds i (48 + rest) g ∙ sym (e ∙ ap (λ (d : List ℕ). d ++ drop (i + 1) ds) (decimal_last rest h))

-- the digits found, as a part of the array of 20
pub rest_is_lem : (i : ℕ) (ds : List ℕ) → length ds ≡ 20 → take (20 - i) (drop i ds) ≡ drop i ds
rest_is_lem i ds e = take_all (20 - i) (drop i ds) (simp length-drop (omega arith))

-- more than one digit is left, so that there is a cell for the next
pub more_left : (rest i : ℕ) → rest < 10 ^ (i + 1) → 9 < rest → (0 < i) × (rest / 10 < 10 ^ i)
more_left rest zero h g = absurd (omega arith)
more_left rest (suc i) h g = (omega arith, fewer rest (suc i) (rw add-one at h))

-- ---- hexadecimal

pub length_hex : (bs : List ℕ) → length (hex_of bs) ≡ 2 * length bs
unfolding hex_of
length_hex [] = refl
length_hex (b ∷ bs) = let e : length (hex_of bs) ≡ 2 * length bs = length_hex bs in omega arith

pub hex_more : (bs : List ℕ) (i : ℕ) → i < length bs → hex_of (drop i bs) ≡ hex_byte (get_or bs i 0) ++ hex_of (drop (i + 1) bs)
unfolding hex_of
hex_more bs i h = rw (add-one, drop-cons bs i 0 h)
