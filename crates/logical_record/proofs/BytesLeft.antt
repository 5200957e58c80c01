-- What a good LL bounds, and the record places that a number of bytes left gives.
-- Assumes nothing.
use mathlib.Core.Path.{◌≡◌, refl, ap}
use mathlib.Core.Bool.{Bool, true, false, cond}
use Prim.Native.Nat.{ℕ, ◌+◌, ◌*◌, ◌-◌, ◌%◌, ◌≤◌, ◌<◌}
use native.Mathlib.Nat.{mod-lt}
use native.Mathlib.Omega.{arith}
use lib.Dec.{leb, eqb}
use borrow.Author.Tests.{le-leb, leb-true, eqb-true, eqb-false, eq-eqb, ne_eqb}
use Rattle.logical_record.specs.Length.{more_bit, part, bad_length, length_of}
use Rattle.logical_record.specs.Positions.{remaining, is_position, is_between}
use Rattle.std.specs.Prelude.{Ok, Err}
use Rattle.logical_record.specs.declared.Length.{Length}
use Rattle.logical_record.specs.declared.Position.TheVariants.{Remaining}

-- 15 bits are below 32,768
length_bounds' :
    (t : Bool) (ll n : ℕ) (more : Bool)
    → leb 2 (ll % more_bit) ≡ t
    → cond t (Ok (part (ll % more_bit) (leb more_bit ll))) (Err bad_length) ≡ Ok (part n more)
    → (2 ≤ n) × (n ≤ 32767)
length_bounds' true ll n more g e =
    let p : part (ll % more_bit) (leb more_bit ll) ≡ part n more = cc in
    let f = ap (λ (l : Length). l.bytes) p in
    let l = leb-true 2 (ll % more_bit) g in
    let h : ll % more_bit < 32768 = mod-lt ll (omega arith) in
    (omega arith, omega arith)
length_bounds' false ll n more g e = cc

pub length_bounds : (high low n : ℕ) (more : Bool) → length_of high low ≡ Ok (part n more) → (2 ≤ n) × (n ≤ 32767)
length_bounds high low n more e = length_bounds' (leb 2 ((high * 256 + low) % more_bit)) (high * 256 + low) n more refl e

pub remaining_some : (n : ℕ) (more : Bool) → 0 < n → remaining n more ≡ Remaining more n
remaining_some n more h = rw (ne_eqb n 0 (λ e. omega arith))

remaining_position' : (t : Bool) (n : ℕ) (more : Bool) → eqb n 0 ≡ t → n ≤ 32765 → is_position (remaining n more) ≡ true
remaining_position' true n more e h = rw e
remaining_position' false n more e h =
    let m : 1 ≤ n = omega (arith, eqb-false n 0 e) in
    rw (e, le-leb 1 n m, le-leb n 32765 h)

pub remaining_position : (n : ℕ) (more : Bool) → n ≤ 32765 → is_position (remaining n more) ≡ true
remaining_position n more h = remaining_position' (eqb n 0) n more refl h

between_remaining' : (t : Bool) (n : ℕ) (more : Bool) → eqb n 0 ≡ t → is_between (remaining n more) ≡ t
between_remaining' true n more e = rw e
between_remaining' false n more e = rw e

pub between_remaining : (n : ℕ) (more : Bool) → is_between (remaining n more) ≡ eqb n 0
between_remaining n more = between_remaining' (eqb n 0) n more refl

eqb_none' : (t : Bool) (k n : ℕ) → eqb k n ≡ t → k ≤ n → eqb (n - k) 0 ≡ t
eqb_none' true k n e h = let f = eqb-true k n e in eq-eqb (n - k) 0 (omega arith)
eqb_none' false k n e h = ne_eqb (n - k) 0 (λ f. eqb-false k n e (omega arith))

-- none of n is left after k exactly where k is n
pub eqb_none : (k n : ℕ) → k ≤ n → eqb (n - k) 0 ≡ eqb k n
eqb_none k n h = eqb_none' (eqb k n) k n refl h
