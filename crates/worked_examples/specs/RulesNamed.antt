-- The rule that 21 names: a header for each of H1 to H6, headers that break two rules, and headers that break three, which is the most there are.
-- Assumes nothing.
use Rattle.std.specs.Prelude.{ℕ, ◌≡◌, cond, List, [], ◌∷◌}
use Rattle.header.specs.Rules.{bytes, breaks}
use Rattle.header.specs.declared.HeaderBytes.{HeaderBytes}
use Rattle.header.specs.declared.Rule.{Rule}
use Rattle.header.specs.declared.Rule.TheVariants.{H1, H2, H3, H4, H5, H6}
use Rattle.worked_examples.specs.Stations.{receiving}
use Rattle.worked_examples.specs.Breaches.{Names}

-- those of a list of rules that the header breaks
abbrev pub broken : HeaderBytes → List Rule → List Rule
broken h [] = []
broken h (r ∷ rs) = cond (breaks r h) (r ∷ broken h rs) (broken h rs)

-- the header breaks just these rules, and the take of a unit with it, in Receive, is refused with 21 and names this one
pub record Named (b0 b1 b2 : ℕ) (rules : List Rule) (rule : ℕ) : Type 0 where
  pub breaks_these : broken (bytes b0 b1 b2) (H1 ∷ H2 ∷ H3 ∷ H4 ∷ H5 ∷ H6 ∷ []) ≡ rules
  pub names : Names receiving (0x00 ∷ 0x02 ∷ b0 ∷ b1 ∷ b2 ∷ 0x00 ∷ 0x02 ∷ []) rule

pub record RulesNamed : Type 0 where
  -- one rule is broken
  pub format_alone : Named 0x08 0x90 0x00 (H1 ∷ []) 1
  pub every_bit : Named 0xFF 0xFF 0xFF (H1 ∷ []) 1
  pub bid_without_bb : Named 0x4B 0x80 0x00 (H2 ∷ []) 2
  pub grant_with_bb : Named 0xCB 0x80 0x80 (H2 ∷ []) 2
  pub both_responses : Named 0x03 0xB0 0x00 (H3 ∷ []) 3
  pub confirm_not_last : Named 0x02 0x20 0x00 (H4 ∷ []) 4
  pub cd_and_ceb : Named 0x03 0x90 0x21 (H5 ∷ []) 5
  pub bb_not_first : Named 0x01 0x90 0x80 (H6 ∷ []) 6
  pub cd_not_last : Named 0x02 0x90 0x20 (H6 ∷ []) 6
  -- two
  pub h5_and_h6 : Named 0x00 0x90 0x21 (H5 ∷ H6 ∷ []) 5
  pub h4_and_h6 : Named 0x00 0x20 0x20 (H4 ∷ H6 ∷ []) 4
  pub h3_and_h5 : Named 0x01 0x30 0x22 (H3 ∷ H5 ∷ []) 3
  pub h3_and_h5_again : Named 0x03 0x31 0x88 (H3 ∷ H5 ∷ []) 3
  -- three
  pub h4_h5_and_h6 : Named 0x00 0x20 0x21 (H4 ∷ H5 ∷ H6 ∷ []) 4
  pub h3_h5_and_h6 : Named 0x00 0x30 0x22 (H3 ∷ H5 ∷ H6 ∷ []) 3
