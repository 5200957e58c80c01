-- The statements of specs/Breaches.antt hold, by computation.
-- Assumes nothing.
use Rattle.std.specs.Prelude.{refl}
use Rattle.worked_examples.specs.Computed.{computed}
use Rattle.worked_examples.specs.Breaches.{Breaches, MarkFirst}

pub breached : Breaches
unfolding computed
breached =
    record {
      next_unit = refl;
      four_bytes = refl;
      no_byte_lem = refl;
      cd_and_ceb = refl;
      empty_ru = refl;
      empty_with_mark = refl;
      nine_of_8 = refl;
      eight_of_8 = refl;
      bid_ru = refl;
      grant_ru = refl;
      confirmation_ru = refl;
      pacing_on = refl;
      pacing_off = refl;
      none_open_lem = refl;
      open_again_lem = refl;
      none_unanswered = refl;
      one_unanswered = refl;
      one_left_out = refl;
      same_again = refl;
      pacing_numbered_1 = refl;
      bit_and_number = refl;
      first_in_chain = refl;
      last_in_chain = refl;
      no_first = refl;
      bid_in_chain = refl;
      bid_at_bidder = refl;
      bb_in_receive = refl;
      bb_at_speaker = refl;
      bb_in_reset = refl;
      no_bb_in_reset = refl;
      states = (refl, refl, refl, refl, refl, refl, refl);
      data_in_reset = refl;
      data_in_send = refl;
      data_in_owes = refl;
      data_in_waits = refl;
      data_in_defer_turn = refl;
      data_in_defer_end = refl;
      length_1 = refl;
      unfinished_at_mark = refl;
      unfinished_without_mark = refl;
      another_grant = refl;
      its_grant = refl;
      grant_without_bid = refl;
      another_refusal = refl;
      its_refusal = refl;
      another_confirmation = refl;
      its_confirmation = refl;
      confirmation_in_send = refl;
    }

pub marked_first : MarkFirst
unfolding computed
marked_first =
    record {
      next_unit = refl;
      no_byte_lem = refl;
      four_bytes = refl;
      bad_header = refl;
      empty_ru = refl;
      none_unanswered = refl;
      another_number = refl;
      no_first = refl;
      bb_in_receive = refl;
      length_1 = refl;
      no_confirmation_awaited = refl;
    }
