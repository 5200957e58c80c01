-- The statements of specs/Table.antt hold, by computation.
-- Assumes nothing.
use Rattle.std.specs.Prelude.{refl}
use Rattle.worked_examples.specs.Computed.{computed}
use Rattle.worked_examples.specs.Table.{Table}

pub proved : Table
unfolding computed
proved =
    record {
      bid = refl;
      grant = refl;
      refusal = refl;
      confirmation = refl;
      ends = refl;
      cut = refl;
      confirm = refl;
      good_header = refl;
      good_taken = refl;
      good_mark = refl;
      bad_header = refl;
      good_length = refl;
      whole_record = refl;
      whole_place = refl;
      whole_carried = refl;
      bad_length = refl;
      no_credit = refl;
      read_first = refl;
      not_complete = refl;
      read_second = refl;
      is_complete = refl;
      read_third = refl;
      not_complete_again = refl;
    }
