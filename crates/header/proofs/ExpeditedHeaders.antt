-- Headers on the expedited lines: the round trips, the rule that is named, the count of two, and the bits in document 000's order.
-- Assumes nothing.
use mathlib.Core.Path.{◌≡◌, refl, sym, ap, ◌∙◌}
use mathlib.Core.Bool.{Bool, true, false, not, cond, ◌&&◌, ◌||◌}
use mathlib.Core.List.{[], ◌∷◌}
use Prim.Native.Nat.{ℕ, ◌<◌}
use native.Mathlib.Omega.{arith}
use lib.Dec.{eqb}
use Rattle.std.specs.Prelude.{Result, Ok, Err}
use Rattle.bools.proofs.Cases.{never, split}
use Rattle.bools.proofs.Tests.{both, follows_from}
use Rattle.header.specs.Rules.{bytes, one_of, same_header, one_of_headers, lowest_broken, header_good, keeps}
use Rattle.header.specs.Header.{fields_of, read_header}
use Rattle.header.specs.Indicators.{byte0}
use Rattle.header.specs.ExpeditedHeader.{keeps_expedited_h1, keeps_expedited_h2, expedited_headers, expedited_good, broken_expedited}
use Rattle.header.specs.ExpeditedHeader.{expedited_bytes, expedited_fields, read_expedited}
use Rattle.header.specs.ExpeditedSteps.{bits_expedited_h1, read_expedited_bits}
use Rattle.header.specs.ExpeditedClaims.{ExpeditedBuiltIsRead, ExpeditedReadIsBuilt, ExpeditedRuleBroken, ExpeditedTwo, ExpeditedSameAnswers, ByTheLine}
use Rattle.header.specs.declared.HeaderBytes.{HeaderBytes}
use Rattle.header.specs.declared.Rule.{Rule}
use Rattle.header.specs.declared.Rule.TheVariants.{H1, H2}
use Rattle.header.specs.declared.ExpeditedHeader.{ExpeditedHeader}
use Rattle.header.specs.declared.ExpeditedHeader.TheVariants.{Signal, SignalResponse}
use Rattle.header.proofs.FiniteHeader.{All, at_member, each, same_header_lem, at_header}
use Rattle.header.proofs.EveryByte.{at_byte}
use Rattle.header.proofs.HeadersCounted.{guarded_below, plausible, counted_where}
use Rattle.header.proofs.SameAnswers.{unpaced, bracket}

-- ---- a good header is one of the two

good_is : (h : HeaderBytes) → expedited_good h ≡ true → one_of_headers h expedited_headers ≡ true
unfolding expedited_good
good_is h g =
    let p = both (keeps_expedited_h1 h) (keeps_expedited_h2 h) g in
    follows_from (keeps_expedited_h1 h) (one_of_headers h expedited_headers) p.1 p.0

pub expedited_at : (f : HeaderBytes → Bool) → each f expedited_headers ≡ true → (h : HeaderBytes) → expedited_good h ≡ true → f h ≡ true
expedited_at f t h g = at_header f h expedited_headers t (good_is h g)

-- ---- the round trips

pub expedited_built_good : (f : ExpeditedHeader) → expedited_good (expedited_bytes f) ≡ true
unfolding expedited_bytes expedited_good
expedited_built_good Signal = refl
expedited_built_good SignalResponse = refl

pub expedited_built_fields : (f : ExpeditedHeader) → expedited_fields (expedited_bytes f) ≡ f
unfolding expedited_bytes expedited_fields
expedited_built_fields Signal = refl
expedited_built_fields SignalResponse = refl

pub expedited_built_is_read : ExpeditedBuiltIsRead
unfolding read_expedited
expedited_built_is_read f = rw (expedited_built_good f, expedited_built_fields f)

rebuilt : HeaderBytes → Bool
rebuilt h = same_header (expedited_bytes (expedited_fields h)) h

each_rebuilt : each rebuilt expedited_headers ≡ true
unfolding rebuilt expedited_bytes expedited_fields
each_rebuilt = refl

pub expedited_read_bytes : (h : HeaderBytes) → expedited_good h ≡ true → expedited_bytes (expedited_fields h) ≡ h
unfolding rebuilt
expedited_read_bytes h g = same_header_lem (expedited_bytes (expedited_fields h)) h (expedited_at rebuilt each_rebuilt h g)

accepted : (ok : Bool) (f g : ExpeditedHeader) (r : Rule) → cond ok (Ok g) (Err r) ≡ Ok f → (ok ≡ true) × (g ≡ f)
accepted true f g r e = (refl, cc)
accepted false f g r e = absurd (let z : ◌≡◌ {A = ℕ} 0 1 = cc in omega arith)

pub expedited_read_is_built : ExpeditedReadIsBuilt
unfolding read_expedited
expedited_read_is_built h f e =
    let p = accepted (expedited_good h) f (expedited_fields h) (broken_expedited h) e in
    ap expedited_bytes (sym p.1) ∙ expedited_read_bytes h p.0

-- ---- the rule that is named

-- by the two tests: H1 kept, and one of the two headers
abbrev read_by : Bool → Bool → ExpeditedHeader → Result ExpeditedHeader Rule
read_by h1 one f = cond (h1 && (not h1 || one)) (Ok f) (Err (cond h1 H2 H1))

named_h1 : (h1 one : Bool) (f : ExpeditedHeader) → read_by h1 one f ≡ Err H1 → h1 ≡ false
named_h1 true true f e = absurd (let z : ◌≡◌ {A = ℕ} 0 1 = cc in omega arith)
named_h1 true false f e = absurd (let z : ◌≡◌ {A = ℕ} 0 1 = cc in omega arith)
named_h1 false one f e = refl

named_h2 : (h1 one : Bool) (f : ExpeditedHeader) → read_by h1 one f ≡ Err H2 → not h1 || one ≡ false
named_h2 true true f e = absurd (let z : ◌≡◌ {A = ℕ} 0 1 = cc in omega arith)
named_h2 true false f e = refl
named_h2 false one f e = absurd (let z : ◌≡◌ {A = ℕ} 0 1 = cc in omega arith)

never_both : (h1 one : Bool) → h1 ≡ false → not h1 || one ≡ false → ⊥
never_both true one e f = never (sym e)
never_both false one e f = never (sym f)

pub expedited_rule_broken : ExpeditedRuleBroken
unfolding read_expedited expedited_good broken_expedited
expedited_rule_broken =
    record {
      h1 = λ h e. named_h1 (keeps_expedited_h1 h) (one_of_headers h expedited_headers) (expedited_fields h) e;
      h2 = λ h e. named_h2 (keeps_expedited_h1 h) (one_of_headers h expedited_headers) (expedited_fields h) e;
      not_both = λ h e f. never_both (keeps_expedited_h1 h) (one_of_headers h expedited_headers) e f;
    }

-- ---- the count

head : ℕ → Bool
head x = one_of x (0x4B ∷ 0xCB ∷ [])

answer : ℕ → ℕ → Bool
answer x y = eqb y 0x80

nothing : ℕ → Bool
nothing z = eqb z 0x00

here : HeaderBytes → Bool
here h = plausible expedited_good head answer nothing h

each_here : each here expedited_headers ≡ true
unfolding here head answer nothing
each_here = refl

here_is : (h : HeaderBytes) → expedited_good h ≡ true → plausible expedited_good head answer nothing h ≡ true
unfolding here
here_is h g = expedited_at here each_here h g

counted : guarded_below expedited_good head answer nothing 256 ≡ 2
unfolding guarded_below head answer nothing expedited_good
counted = refl

pub expedited_two : ExpeditedTwo
expedited_two = counted_where expedited_good head answer nothing here_is ∙ counted

-- ---- document 000's order

h1_bits : (x : ℕ) → x < 256 → bits_expedited_h1 (byte0 x) ≡ one_of x (0x4B ∷ 0xCB ∷ [])
h1_bits = at_byte (λ x. bits_expedited_h1 (byte0 x)) (λ x. one_of x (0x4B ∷ 0xCB ∷ [])) refl

-- what is left of H2's list where byte 0 is one of the two
one_row : (a c : Bool) (f : ExpeditedHeader) → cond (a && c) (Ok f) (Err H2) ≡ read_by true (a && c || false) f
one_row true true f = refl
one_row true false f = refl
one_row false c f = refl

module _ (y z : ℕ) (hy : y < 256) (hz : z < 256) where
  abbrev Same : ℕ → Type 0
  Same x = read_expedited_bits (bytes x y z) ≡ read_expedited (bytes x y z)

  both_kinds : All Same (0x4B ∷ 0xCB ∷ [])
  unfolding read_expedited_bits read_expedited expedited_good broken_expedited expedited_fields
  both_kinds = (
    rw (unpaced true false false y hy, bracket false z hz) (one_row (eqb y 0x80) (eqb z 0x00) Signal),
    (rw (unpaced true false false y hy, bracket false z hz) (one_row (eqb y 0x80) (eqb z 0x00) SignalResponse), tt),
  )

no_kind : (x y z : ℕ) → one_of x (0x4B ∷ 0xCB ∷ []) ≡ false → Err H1 ≡ read_expedited (bytes x y z)
unfolding read_expedited expedited_good broken_expedited
no_kind x y z e = rw e

no_bits : (x y z : ℕ) → bits_expedited_h1 (byte0 x) ≡ false → read_expedited_bits (bytes x y z) ≡ Err H1
unfolding read_expedited_bits
no_bits x y z e = rw e

pub expedited_same_answers : ExpeditedSameAnswers
expedited_same_answers x y z hx hy hz =
    split (one_of x (0x4B ∷ 0xCB ∷ []))
    (λ k. at_member (Same y z hy hz) x (0x4B ∷ 0xCB ∷ []) (both_kinds y z hy hz) k)
    (λ k. no_bits x y z (h1_bits x hx ∙ k) ∙ no_kind x y z k)

-- ---- by the line

pub by_the_line : ByTheLine
unfolding read_expedited expedited_good broken_expedited expedited_fields read_header header_good lowest_broken keeps fields_of
by_the_line = record { signal = refl; no_bid = refl; response = refl; grant = refl; bid = refl; confirmation = refl }
