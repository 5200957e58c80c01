-- The statements of specs/RulesNamed.antt hold, by computation.
-- Assumes nothing.
use Rattle.std.specs.Prelude.{refl}
use Rattle.worked_examples.specs.Computed.{computed}
use Rattle.worked_examples.specs.RulesNamed.{RulesNamed}

pub rules_named : RulesNamed
unfolding computed
rules_named =
    record {
      format_alone = record { breaks_these = refl; names = refl };
      every_bit = record { breaks_these = refl; names = refl };
      bid_without_bb = record { breaks_these = refl; names = refl };
      grant_with_bb = record { breaks_these = refl; names = refl };
      both_responses = record { breaks_these = refl; names = refl };
      confirm_not_last = record { breaks_these = refl; names = refl };
      cd_and_ceb = record { breaks_these = refl; names = refl };
      bb_not_first = record { breaks_these = refl; names = refl };
      cd_not_last = record { breaks_these = refl; names = refl };
      h5_and_h6 = record { breaks_these = refl; names = refl };
      h4_and_h6 = record { breaks_these = refl; names = refl };
      h3_and_h5 = record { breaks_these = refl; names = refl };
      h3_and_h5_again = record { breaks_these = refl; names = refl };
      h4_h5_and_h6 = record { breaks_these = refl; names = refl };
      h3_h5_and_h6 = record { breaks_these = refl; names = refl };
    }
