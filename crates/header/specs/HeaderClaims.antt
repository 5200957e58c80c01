-- What is claimed of headers, for a reader to find. Proved in proofs/, and promised by the function `theorems::headers`.
-- Assumes nothing.
use Rattle.std.specs.Prelude.{◌≡◌, Bool, true, cond, ℕ, zero, suc, ◌+◌, ◌≤◌, Ok, Err}
use Rattle.header.specs.Rules.{bytes, breaks, rule_number, header_good}
use Rattle.header.specs.Header.{header_bytes, read_header}
use Rattle.header.specs.declared.HeaderBytes.{HeaderBytes}
use Rattle.header.specs.declared.Header.{Header}
use Rattle.header.specs.declared.Rule.{Rule}
use Rattle.header.specs.declared.Rule.TheVariants.{H1}

-- every header built is read back as the same fields
abbrev pub BuiltIsRead : Type 0
BuiltIsRead = (f : Header) → read_header (header_bytes f) ≡ Ok f

-- every header accepted is rebuilt as the same bytes
abbrev pub ReadIsBuilt : Type 0
ReadIsBuilt = (h : HeaderBytes) (f : Header) → read_header h ≡ Ok f → header_bytes f ≡ h

-- a header that breaks H1 breaks only H1
abbrev pub OnlyH1 : Type 0
OnlyH1 = (h : HeaderBytes) → breaks H1 h ≡ true → (r : Rule) → breaks r h ≡ true → r ≡ H1

-- the rule that is named is broken, and every rule that is broken has its number or a higher one
pub record LowestNamed : Type 0 where
  pub broken : (h : HeaderBytes) (r : Rule) → read_header h ≡ Err r → breaks r h ≡ true
  pub lowest : (h : HeaderBytes) (r s : Rule) → read_header h ≡ Err r → breaks s h ≡ true → rule_number r ≤ rule_number s

-- how many numbers below n pass, and how much they count for
abbrev pub sum_below : (ℕ → ℕ) → ℕ → ℕ
sum_below f zero = 0
sum_below f (suc n) = f n + sum_below f n

-- how many of the 256 × 256 × 256 headers a test finds good
unfoldable pub how_many : (HeaderBytes → Bool) → ℕ
how_many good = sum_below (λ x. sum_below (λ y. sum_below (λ z. cond (good (bytes x y z)) 1 0) 256) 256) 256

-- on the normal line exactly 51 of them
abbrev pub FiftyOne : Type 0
FiftyOne = how_many header_good ≡ 51
