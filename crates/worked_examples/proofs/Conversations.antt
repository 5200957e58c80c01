-- The statements of specs/Conversations.antt hold, by computation.
-- Assumes nothing.
use Rattle.std.specs.Prelude.{refl}
use Rattle.worked_examples.specs.Computed.{computed}
use Rattle.worked_examples.specs.Conversations.{Conversations}

pub held : Conversations
unfolding computed
held =
    record {
      race =
          record { speaker_answers = refl; bidder_answers = refl; record_read = refl; speaker_receives = refl; bidder_sends = refl };
      refused = record { bidder_answers = refl; record_read = refl; flag_off = refl; speaker_receives = refl; bidder_sends = refl };
      cut =
          record {
            speaker_answers = refl;
            bidder_answers = refl;
            one_record = refl;
            three_requests = refl;
            one_answer = refl;
            credit_left = refl;
            both_reset = (refl, refl);
          };
      confirm_turn_lem = record { speaker_answers = refl; bidder_answers = refl; speaker_receives = refl; bidder_sends = refl };
    }
