-- The rule that is named is broken, and no lower one is: a test of the outcomes of the six rules, which antt computes at all 64 of them.
-- Assumes nothing.
use mathlib.Core.Path.{◌≡◌, refl, sym, ap, ◌∙◌}
use mathlib.Core.Bool.{Bool, true, false, not, cond, ◌&&◌, ◌||◌}
use Prim.Native.Nat.{ℕ}
use native.Mathlib.Omega.{arith}
use borrow.Author.Tests.{leb-true}
use lib.Dec.{leb}
use Rattle.std.specs.Prelude.{Ok, Err}
use Rattle.bools.proofs.Tests.{left, right, or_right, not_true}
use Rattle.bools.proofs.Finite.{Finite, pairs, bools, halves}
use Rattle.header.specs.Rules.{keeps_h1, keeps_h2, keeps_h3, keeps_h4, keeps_h5, keeps_h6, keeps, breaks, rule_number, lowest, lowest_broken, header_good}
use Rattle.header.specs.Header.{fields_of, read_header}
use Rattle.header.specs.HeaderClaims.{LowestNamed}
use Rattle.header.specs.declared.HeaderBytes.{HeaderBytes}
use Rattle.header.specs.declared.Header.{Header}
use Rattle.header.specs.declared.Rule.{Rule}
use Rattle.header.specs.declared.Rule.TheVariants.{H1, H2, H3, H4, H5, H6}

-- ---- outcomes of the six rules

abbrev Outcomes : Type 0
Outcomes = Bool × (Bool × (Bool × (Bool × (Bool × Bool))))

abbrev outcomes : Finite Outcomes
outcomes = pairs bools (pairs bools (pairs bools (pairs bools (pairs bools bools))))

abbrev kept : Outcomes → Rule → Bool
kept p H1 = p.0
kept p H2 = p.1.0
kept p H3 = p.1.1.0
kept p H4 = p.1.1.1.0
kept p H5 = p.1.1.1.1.0
kept p H6 = p.1.1.1.1.1

abbrev all : (Rule → Bool) → Bool
all f = f H1 && (f H2 && (f H3 && (f H4 && (f H5 && f H6))))

at_rule : (f : Rule → Bool) → all f ≡ true → (r : Rule) → f r ≡ true
at_rule f t H1 = search halves
at_rule f t H2 = search halves
at_rule f t H3 = search halves
at_rule f t H4 = search halves
at_rule f t H5 = search halves
at_rule f t H6 = search halves

-- ---- the test

abbrev broken : Outcomes → Rule → Bool
broken p r = not (kept p r)

-- where not all are kept, the lowest that is broken is broken, and every rule is kept or has no lower number
abbrev lowest_right : Outcomes → Bool
lowest_right p = all (kept p) || broken p (lowest (broken p)) && all (λ s. kept p s || leb (rule_number (lowest (broken p))) (rule_number s))

every_right : outcomes.all lowest_right ≡ true
every_right = refl

-- ---- of a header

abbrev outcomes_of : HeaderBytes → Outcomes
outcomes_of h = (keeps_h1 h, (keeps_h2 h, (keeps_h3 h, (keeps_h4 h, (keeps_h5 h, keeps_h6 h)))))

kept_is : (h : HeaderBytes) (r : Rule) → keeps r h ≡ kept (outcomes_of h) r
unfolding keeps
kept_is h H1 = refl
kept_is h H2 = refl
kept_is h H3 = refl
kept_is h H4 = refl
kept_is h H5 = refl
kept_is h H6 = refl

lowest_is : (h : HeaderBytes) → lowest_broken h ≡ lowest (broken (outcomes_of h))
unfolding lowest_broken keeps
lowest_is h = refl

names : (ok : Bool) (f : Header) (l r : Rule) → cond ok (Ok f) (Err l) ≡ Err r → (ok ≡ false) × (l ≡ r)
names true f l r e = absurd (let z : ◌≡◌ {A = ℕ} 0 1 = cc in omega arith)
names false f l r e = (refl, cc)

module _ (h : HeaderBytes) (r : Rule) (e : read_header h ≡ Err r) where
  abbrev p : Outcomes
  p = outcomes_of h

  named : (header_good h ≡ false) × (lowest_broken h ≡ r)
  unfolding read_header
  named = names (header_good h) (fields_of h) (lowest_broken h) r e

  rule_is : lowest (broken p) ≡ r
  rule_is = sym (lowest_is h) ∙ named.1

  holds : broken p (lowest (broken p)) && all (λ s. kept p s || leb (rule_number (lowest (broken p))) (rule_number s)) ≡ true
  unfolding header_good
  holds = or_right (all (kept p)) _ (outcomes.at lowest_right every_right p) named.0

  is_broken : breaks r h ≡ true
  is_broken = ap not (kept_is h r ∙ ap (kept p) (sym rule_is)) ∙ left (broken p (lowest (broken p))) _ holds

  none_lower : (s : Rule) → breaks s h ≡ true → leb (rule_number r) (rule_number s) ≡ true
  none_lower s b =
      ap (λ (q : Rule). leb (rule_number q) (rule_number s)) (sym rule_is)
      ∙ or_right (kept p s) _ (at_rule (λ s. kept p s || leb (rule_number (lowest (broken p))) (rule_number s)) (right (broken p (lowest (broken p))) _ holds) s)
      (sym (kept_is h s) ∙ not_true (keeps s h) b)

pub lowest_named : LowestNamed
lowest_named =
    record {
      broken = λ h r e. is_broken h r e;
      lowest = λ h r s e b. leb-true (rule_number r) (rule_number s) (none_lower h r e s b);
    }
