-- A header that breaks H1 breaks only H1: H2 is of the fixed kinds and H3 to H6 are of data, and it is neither.
-- Assumes nothing.
use mathlib.Core.Path.{◌≡◌, refl, sym, ◌∙◌}
use mathlib.Core.Bool.{Bool, true, false, not, ◌||◌}
use Prim.Native.Nat.{ℕ, zero, suc, ◌≤◌}
use native.Mathlib.Omega.{arith}
use borrow.Author.Tests.{leb-true, not-true}
use lib.Dec.{eqb}
use Rattle.header.specs.Rules.{bytes, one_of_headers, is_fixed, is_data, fixed_headers, data_h3, data_h4, data_h5, data_h6, keeps_h1, keeps, breaks}
use Rattle.header.specs.HeaderClaims.{OnlyH1}
use Rattle.header.specs.declared.HeaderBytes.{HeaderBytes}
use Rattle.header.specs.declared.Rule.{Rule}
use Rattle.header.specs.declared.Rule.TheVariants.{H1, H2, H3, H4, H5, H6}
use Rattle.bools.proofs.Cases.{never}

-- data keeps H1
data_head : (x y z : ℕ) → x ≤ 0x03 → keeps_h1 (bytes x y z) ≡ true
data_head zero y z h = refl
data_head (suc zero) y z h = refl
data_head (suc (suc zero)) y z h = refl
data_head (suc (suc (suc zero))) y z h = refl
data_head (suc (suc (suc (suc n)))) y z h = absurd (omega arith)

or_yes : (a b : Bool) → b ≡ true → a || b ≡ true
or_yes true b e = refl
or_yes false b e = e

-- and so does a fixed kind
fixed_head : (x y z : ℕ) → is_fixed (bytes x y z) ≡ true → keeps_h1 (bytes x y z) ≡ true
fixed_head x y z e = or_yes (eqb x 0x00) _ (or_yes (eqb x 0x01) _ (or_yes (eqb x 0x02) _ (or_yes (eqb x 0x03) _ e)))

absent : (a b : Bool) → b ≡ false → (a ≡ true → b ≡ true) → a ≡ false
absent true b e f = never (sym e ∙ f refl)
absent false b e f = refl

-- a rule of a kind is kept by what is not of the kind
unconcerned : (kind rule : Bool) → kind ≡ false → not (not kind || rule) ≡ true → ⊥
unconcerned true rule e t = never (sym e)
unconcerned false rule e t = never t

no_other : (h : HeaderBytes) → is_data h ≡ false → is_fixed h ≡ false → (r : Rule) → breaks r h ≡ true → r ≡ H1
unfolding keeps
no_other h d f H1 b = refl
no_other h d f H2 b = absurd (unconcerned (is_fixed h) (one_of_headers h fixed_headers) f b)
no_other h d f H3 b = absurd (unconcerned (is_data h) (data_h3 h.b1) d b)
no_other h d f H4 b = absurd (unconcerned (is_data h) (data_h4 h.b0 h.b1) d b)
no_other h d f H5 b = absurd (unconcerned (is_data h) (data_h5 h.b2) d b)
no_other h d f H6 b = absurd (unconcerned (is_data h) (data_h6 h.b0 h.b2) d b)

pub only_h1 : OnlyH1
unfolding keeps
only_h1 h b =
    let n : keeps_h1 h ≡ false = not-true (keeps_h1 h) b in
    no_other h (absent (is_data h) (keeps_h1 h) n (λ t. data_head h.b0 h.b1 h.b2 (leb-true h.b0 0x03 t)))
    (absent (is_fixed h) (keeps_h1 h) n (fixed_head h.b0 h.b1 h.b2))
