-- The statements of specs/Denied.antt hold, by computation.
-- Assumes nothing.
use Rattle.std.specs.Prelude.{refl}
use Rattle.worked_examples.specs.Computed.{computed}
use Rattle.worked_examples.specs.Denied.{Denies, FarReceives, Flushes, Until, ErrorTaken, MarkRead, OnlyThere, CardDenied, Denied}

denies : Denies
unfolding computed
denies =
    record {
      stay = refl;
      turn = refl;
      end = refl;
      after_stay = refl;
      after_turn = refl;
      after_end = refl;
      no_credit = refl;
      in_reset = refl;
      in_send_lem = refl;
      in_receive = refl;
      in_waits = refl;
      in_defer_lem = refl;
      twice = refl;
    }

far_receives : FarReceives
unfolding computed
far_receives =
    record { stay = refl; turn = refl; end = refl; wrong_ru = refl; no_ru = refl; another_number = refl; not_awaited = refl }

flushes : Flushes
unfolding computed
flushes =
    record {
      at_place_0 = refl;
      behind_a_bid = refl;
      sends = (refl, refl);
      sends_on = refl;
      nothing_more = refl;
      waits_for_credit = refl;
      credit_taken = refl;
    }

waits_until : Until
unfolding computed
waits_until =
    record {
      send = refl;
      send_none = refl;
      confirm = refl;
      turn = refl;
      confirm_turn_lem = refl;
      end = refl;
      confirm_end = refl;
      prepare_turn = refl;
      prepare_end = refl;
      bid_refusal = refl;
      forged_bid = refl;
      data_taken = refl;
      nothing_read = refl;
    }

error_taken : ErrorTaken
unfolding computed
error_taken =
    record {
      taken = refl;
      no_exception = refl;
      with_bb = refl;
      positive = refl;
      with_ceb = refl;
      not_last = refl;
      wrong_ru = refl;
      pacing_on = refl;
      one_left_out = refl;
      in_chain_lem = refl;
      bidder_in_reset = refl;
      speaker_in_reset = refl;
      in_send_lem = refl;
      in_owes = refl;
      in_waits = refl;
      in_record = refl;
      after_part = refl;
    }

mark_read_lem : MarkRead
unfolding computed
mark_read_lem =
    record {
      left = refl;
      none_held = refl;
      unread = refl;
      answered = refl;
      receives_on = refl;
      none_left = refl;
      bytes_first = refl;
    }

only_there : OnlyThere
unfolding computed
only_there = record { in_receive = refl; in_defer_lem = refl; bytes_held = refl; bb_due = refl; good = refl }

card_denied_lem : CardDenied
unfolding computed
card_denied_lem =
    record {
      speaker_answers = refl;
      units_taken_lem = refl;
      given_twice = refl;
      none_read = refl;
      speaker_sends = refl;
      bidder_receives = refl;
    }

pub all_denied : Denied
all_denied =
    record {
      denies = denies;
      far_receives = far_receives;
      flushes = flushes;
      until = waits_until;
      error_taken = error_taken;
      mark_read_lem = mark_read_lem;
      only_there = only_there;
      card_denied_lem = card_denied_lem;
    }
