-- The statements of specs/Prepared.antt hold, by computation.
-- Assumes nothing.
use Rattle.std.specs.Prelude.{refl}
use Rattle.control.specs.declared.Deferred.TheVariants as deferral
use Rattle.worked_examples.specs.Computed.{computed}
use Rattle.worked_examples.specs.Prepared.{record_given, prepared, OnlyNoted, PreparedWhere, Withdrawn, CarriedOut, RefusedInDefer, BidMet, WaitsForCredit, FarEnd, BidAndConfirm, Prepared}

only_noted : OnlyNoted
unfolding computed
only_noted = record { turn = refl; end = refl; nothing_given = refl; chain_open = refl }

prepared_where : PreparedWhere
unfolding computed
prepared_where =
    record {
      in_record = record { turn = refl; end = refl };
      in_record_sent = record { turn = refl; end = refl };
      in_length = record { turn = refl; end = refl };
      after_part = record { turn = refl; end = refl };
      in_reset = record { turn = refl; end = refl };
      in_receive = record { turn = refl; end = refl };
      in_owes = record { turn = refl; end = refl };
      in_waits = record { turn = refl; end = refl };
      in_defer_turn = record { turn = refl; end = refl };
      in_defer_end = record { turn = refl; end = refl };
    }

dropped : Withdrawn
unfolding computed
dropped =
    record {
      turn = refl;
      end = refl;
      sends_on = refl;
      in_send_lem = refl;
      twice = refl;
      in_reset = refl;
      in_receive = refl;
      in_owes = refl;
      in_waits = refl;
    }

carried : CarriedOut
unfolding computed
carried =
    record {
      turn = refl;
      confirm_turn_lem = refl;
      end = refl;
      confirm_end = refl;
      as_turn = refl;
      as_confirm_turn = refl;
      as_end = refl;
      as_confirm_end = refl;
      nothing_given = refl;
      nothing_held = refl;
      chain_open = refl;
    }

turn_prepared : RefusedInDefer (prepared deferral.Turn record_given)
unfolding computed
turn_prepared =
    record {
      send = refl;
      send_none = refl;
      turn = refl;
      confirm_turn_lem = refl;
      end = refl;
      confirm_end = refl;
      allocate = refl;
      confirmed = refl;
      data_taken = refl;
      read = refl;
      pace = refl;
    }

end_prepared : RefusedInDefer (prepared deferral.End record_given)
unfolding computed
end_prepared =
    record {
      send = refl;
      send_none = refl;
      turn = refl;
      confirm_turn_lem = refl;
      end = refl;
      confirm_end = refl;
      allocate = refl;
      confirmed = refl;
      data_taken = refl;
      read = refl;
      pace = refl;
    }

bid_refused : BidMet
unfolding computed
bid_refused = record { at_turn = refl; at_end = refl; prepared_still = refl; paces = refl; turn = refl }

waited : WaitsForCredit
unfolding computed
waited = record { flush = refl; confirm = refl; answer_taken = refl; end = refl }

marks : FarEnd
unfolding computed
marks =
    record {
      turn = record { mark = refl; speaker = refl };
      end = record { mark = refl; speaker = refl };
      confirm_turn_lem = record { mark = refl; speaker = refl };
      confirm_end = record { mark = refl; speaker = refl };
    }

crossed : BidAndConfirm
unfolding computed
crossed =
    record {
      speaker_answers = refl;
      bidder_answers = refl;
      record_read = refl;
      flag_off = refl;
      speaker_receives = refl;
      bidder_sends = refl;
    }

pub all_prepared : Prepared
all_prepared =
    record {
      only_noted = only_noted;
      prepared_where = prepared_where;
      withdrawn = dropped;
      carried_out = carried;
      in_defer_turn = turn_prepared;
      in_defer_end = end_prepared;
      bid_met_lem = bid_refused;
      waits_for_credit = waited;
      far_end = marks;
      bid_and_confirm_lem = crossed;
    }
