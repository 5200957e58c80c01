-- The statements of specs/Parts.antt hold, by computation.
-- Assumes nothing.
use Rattle.std.specs.Prelude.{refl}
use Rattle.worked_examples.specs.Computed.{computed}
use Rattle.worked_examples.specs.Parts.{Lengths, PartAlone, Forged, CutByMaximum, CutByFlush, Parts}

lengths_read : Lengths
unfolding computed
lengths_read =
    record {
      part_2 = refl;
      part_2_place = refl;
      part_1 = refl;
      part_0 = refl;
      first_byte_lem = refl;
      then_1 = refl;
      then_2 = refl;
      part_32767 = refl;
      part_32767_place = refl;
    }

alone : PartAlone
unfolding computed
alone =
    record {
      flushed = refl;
      taken = refl;
      read = record { copies = refl; answers = refl };
      turn = refl;
      turn_confirm = refl;
      end = refl;
      end_confirm = refl;
      confirm = refl;
      turn_sent = refl;
      end_sent = refl;
      confirm_sent = refl;
      turn_whole = refl;
      end_whole = refl;
      confirm_whole = refl;
    }

forged_refused : Forged
unfolding computed
forged_refused =
    record {
      turn = record { part = refl; last = refl };
      end = record { part = refl; last = refl };
      confirm = record { part = refl; last = refl };
      confirm_turn_lem = record { part = refl; last = refl };
      confirm_end = record { part = refl; last = refl };
      no_mark = refl;
      empty_turn = refl;
      last_turn = refl;
      part_1 = refl;
      part_0 = refl;
    }

by_maximum_lem : CutByMaximum
unfolding computed
by_maximum_lem =
    record {
      units = refl;
      pieces_read = refl;
      table_read = record { none_refused = (refl, refl); tables_given = refl; tables_read = refl; turned = (refl, refl) };
    }

by_flush : CutByFlush
unfolding computed
by_flush =
    record {
      units = refl;
      pieces_read = refl;
      two_records = refl;
      no_table = refl;
      table_read = record { none_refused = (refl, refl); tables_given = refl; tables_read = refl; turned = (refl, refl) };
    }

pub parts : Parts
parts =
    record {
      lengths = lengths_read;
      part_alone = alone;
      forged = forged_refused;
      cut_by_maximum = by_maximum_lem;
      cut_by_flush = by_flush;
    }
