-- A unit is read by its header, on either line.
-- Assumes nothing.
use Rattle.std.proofs.Common.{◌≡◌, ℕ, ◌<◌, ◌≤◌, Bool, true, false, cond, leb, List, length, Result, Ok, Err, refl, ap, ◌∙◌, leb-true, leb-false}
use Rattle.bools.proofs.Cases.{split}
use Rattle.header.specs.declared.Rule.{Rule}
use Rattle.unit.specs.Unit.{RU_START, number_in, heading_read}
use Rattle.unit.specs.declared.Heading.{Heading}
use Rattle.unit.specs.declared.Unreadable.{Unreadable}
use Rattle.unit.specs.declared.Unreadable.TheVariants.{TooShort, Breaks}

module _ {H : Type 0} (u : List ℕ) (ok : Bool) (f : H) (rule : Rule) where
  abbrev n : ℕ
  n = number_in u

  -- the heading of a good header, or the rule that another breaks
  by_header : (good : Bool) → heading_read n (cond good (Ok f) (Err rule)) ≡ cond good (Ok (record { number = n; header = f })) (Err (Breaks rule))
  by_header true = refl
  by_header false = refl

  -- what `read_heading` ensures, told as one value
  pub read_as : (r : Result (Heading H) Unreadable) → (length u < RU_START → r ≡ Err TooShort)
      → (RU_START ≤ length u → (q : Result H Rule) × (q ≡ cond ok (Ok f) (Err rule)) × (r ≡ heading_read n q))
      → r ≡ cond (leb RU_START (length u)) (cond ok (Ok (record { number = n; header = f })) (Err (Breaks rule))) (Err TooShort)
  read_as r short read =
      split (leb RU_START (length u))
      (λ y. let p = read (leb-true RU_START (length u) y) in rw y (p.2 ∙ ap (heading_read n) p.1 ∙ by_header ok))
      (λ s. rw s (short (leb-false RU_START (length u) s)))

-- ---- what was read, told from the two tests of a unit's head

abbrev pub read_by : {H : Type 0} → Bool → Bool → Heading H → Rule → Result (Heading H) Unreadable
read_by long good x rule = cond long (cond good (Ok x) (Err (Breaks rule))) (Err TooShort)

pub good_of : {H : Type 0} (long good : Bool) (h x : Heading H) (rule : Rule) → Ok h ≡ read_by long good x rule → (long ≡ true) × (good ≡ true) × (h ≡ x)
good_of true true h x rule e = (refl, refl, cc)
good_of true false h x rule e = absurd cc
good_of false good h x rule e = absurd cc

pub short_of : {H : Type 0} (long good : Bool) (x : Heading H) (rule : Rule) → Err TooShort ≡ read_by long good x rule → long ≡ false
short_of true true x rule e = absurd cc
short_of true false x rule e = absurd cc
short_of false good x rule e = refl

pub broken_of : {H : Type 0} (long good : Bool) (x : Heading H) (named rule : Rule) → Err (Breaks named) ≡ read_by long good x rule
    → (long ≡ true) × (good ≡ false) × (named ≡ rule)
broken_of true true x named rule e = absurd cc
broken_of true false x named rule e = (refl, refl, cc)
broken_of false good x named rule e = absurd cc
