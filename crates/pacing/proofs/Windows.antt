-- Windows: what is good of one stays good, what a request costs and what a pacing response gives.
-- Assumes nothing.
use Prim.Native.Nat.{ℕ, ◌+◌, ◌-◌, ◌≤◌, ◌<◌}
use mathlib.Core.Path.{◌≡◌, refl, sym, subst}
use mathlib.Core.Bool.{Bool, true, false, cond, ◌&&◌, ◌||◌}
use native.Mathlib.Omega.{arith}
use borrow.Author.Tests.{eqb-true, leb-true, leb-false, ltb-true, ne_eqb, le-leb, lt-ltb}
use lib.Dec.{eqb, leb, ltb}
use Rattle.bools.proofs.Tests.{left, right, join}
use Rattle.bools.proofs.Cases.{never, split}
use Rattle.pacing.specs.Pacing as W
use Rattle.pacing.specs.Pacing.{least_window, greatest_window, size_good, window_good, whole, credit, has_credit, paced, next_position, advanced, answered, fresh_window}
use Rattle.pacing.specs.declared.Window.{Window}

pub size_least : (w : Window) → window_good w ≡ true → 1 ≤ w.size
size_least w g = leb-true 1 w.size (left (leb least_window w.size) _ g)

pub position_below : (w : Window) → window_good w ≡ true → w.position < w.size
position_below w g =
    ltb-true w.position w.size (right (leb w.size greatest_window) (ltb w.position w.size) (right (leb least_window w.size) _ g))

-- ---- the place moves on, the flag goes off, a window is opened

next_below : (position size : ℕ) → 1 ≤ size → next_position position size < size
next_below position size l =
    split (leb size (position + 1)) (λ y. rw y (omega arith)) (λ y. let k = leb-false size (position + 1) y in rw y (omega arith))

pub advanced_good : (w : Window) → window_good w ≡ true → window_good (advanced w) ≡ true
unfolding advanced
advanced_good w g =
    join (leb least_window w.size) _ (left (leb least_window w.size) _ g)
    (join (leb w.size greatest_window) _ (left (leb w.size greatest_window) (ltb w.position w.size) (right (leb least_window w.size) _ g))
    (lt-ltb (next_position w.position w.size) w.size (next_below w.position w.size (size_least w g))))

pub answered_good : (w : Window) → window_good w ≡ true → window_good (answered w) ≡ true
unfolding answered
answered_good w g = g

-- a window as opened: its whole size is open
pub fresh_window_lem : (w : ℕ) → size_good w ≡ true → window_good (fresh_window w) ≡ true
fresh_window_lem w g =
    let one = leb-true 1 w (left (leb 1 w) (leb w 63) g) in
    join (leb 1 w) (leb w 63 && ltb 0 w) (left (leb 1 w) (leb w 63) g) (join (leb w 63) (ltb 0 w) (right (leb 1 w) (leb w 63) g) (lt-ltb 0 w (omega arith)))

pub fresh_open : (w : ℕ) → credit (fresh_window w) ≡ w
unfolding credit
fresh_open w = let z : w + 0 ≡ w = omega arith in z

-- ---- credit and the flag

-- at place 0 there is credit exactly where the flag is off; elsewhere there always is
pub no_flag_at_start : (w : Window) → has_credit w ≡ true → paced w ≡ true → w.pending ≡ false
unfolding credit
no_flag_at_start w h p = by w.pending refl
  where
    by : (b : Bool) → w.pending ≡ b → w.pending ≡ false
    by true e =
        absurd
        (let k : 1 ≤ whole true w.size + cond true 0 (w.size - w.position) =
        leb-true 1 _
        (subst (λ (x : Bool). leb 1 (whole true w.size + cond x 0 (w.size - w.position)) ≡ true) p
        (subst (λ (x : Bool). leb 1 (whole x w.size + cond (eqb w.position 0) 0 (w.size - w.position)) ≡ true) e h)) in
        omega arith)
    by false e = e

pub credit_there : (w : Window) → window_good w ≡ true → (paced w ≡ true → w.pending ≡ false) → has_credit w ≡ true
unfolding credit
credit_there w g f = by (paced w) refl
  where
    big : 1 ≤ w.size
    big = leb-true 1 w.size (left (leb 1 w.size) _ g)

    small : w.position < w.size
    small = ltb-true w.position w.size (right (leb w.size greatest_window) (ltb w.position w.size) (right (leb 1 w.size) _ g))

    by : (b : Bool) → paced w ≡ b → has_credit w ≡ true
    by true e =
        subst (λ (x : Bool). leb 1 (whole w.pending w.size + cond x 0 (w.size - w.position)) ≡ true) (sym e)
        (subst (λ (x : Bool). leb 1 (whole x w.size + 0) ≡ true) (sym (f e)) (le-leb 1 (w.size + 0) (omega (arith, big))))
    by false e =
        subst (λ (x : Bool). leb 1 (whole w.pending w.size + cond x 0 (w.size - w.position)) ≡ true) (sym e)
        (le-leb 1 (whole w.pending w.size + (w.size - w.position)) (omega (arith, small)))

-- ---- what a request costs, and what a pacing response gives

-- a request costs 1 credit
costs : (b : Bool) (pending : Bool) (size position : ℕ) → 1 ≤ size → position < size → eqb position 0 ≡ b → (b ≡ true → pending ≡ false)
    → whole (pending || b) size + W.left (next_position position size) size + 1 ≡ whole pending size + W.left position size
costs true pending size position s p e f =
    let z : position ≡ 0 = eqb-true position 0 e in
    rw (f refl, e)
    (split (leb size (position + 1))
    (λ l. let k : size ≤ position + 1 = leb-true size (position + 1) l in rw l (omega arith))
    (λ l.
    let k : position + 1 < size = leb-false size (position + 1) l in
    rw (l, ne_eqb (position + 1) 0 (λ y. omega arith)) (omega arith)))
costs false true size position s p e f =
    rw e
    (split (leb size (position + 1))
    (λ l. let k : size ≤ position + 1 = leb-true size (position + 1) l in rw l (omega arith))
    (λ l.
    let k : position + 1 < size = leb-false size (position + 1) l in
    rw (l, ne_eqb (position + 1) 0 (λ y. omega arith)) (omega arith)))
costs false false size position s p e f =
    rw e
    (split (leb size (position + 1))
    (λ l. let k : size ≤ position + 1 = leb-true size (position + 1) l in rw l (omega arith))
    (λ l.
    let k : position + 1 < size = leb-false size (position + 1) l in
    rw (l, ne_eqb (position + 1) 0 (λ y. omega arith)) (omega arith)))

pub request_costs : (w : Window) → window_good w ≡ true → has_credit w ≡ true → credit (advanced w) + 1 ≡ credit w
unfolding credit advanced
request_costs w g h =
    costs (paced w) w.pending w.size w.position (size_least w g) (position_below w g) refl (no_flag_at_start w h)

-- a pacing response raises it by the window
raised : (pending : Bool) (size rest : ℕ) → pending ≡ true → whole false size + rest ≡ whole pending size + rest + size
raised true size rest e = omega arith
raised false size rest e = never e

pub response_raises : (w : Window) → w.pending ≡ true → credit (answered w) ≡ credit w + w.size
unfolding credit answered
response_raises w e = raised w.pending w.size (W.left w.position w.size) e
