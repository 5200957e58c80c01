-- The statements of specs/Signalled.antt hold, by computation.
-- Assumes nothing.
use Rattle.std.specs.Prelude.{refl}
use Rattle.worked_examples.specs.Computed.{computed}
use Rattle.worked_examples.specs.Signalled.{Signalled}

pub all_signalled : Signalled
unfolding computed
all_signalled =
    record {
      requests =
          record {
            in_receive = refl;
            in_owes = refl;
            none_normal = refl;
            kept = refl;
            no_state = (refl, refl);
            normal_number = refl;
            in_reset = refl;
            in_send_lem = refl;
            in_waits = refl;
            in_defer_lem = refl;
            twice = refl;
            state_first = refl;
            wraps = refl;
          };
      answers =
          record {
            made = refl;
            told = refl;
            kept = refl;
            no_state = refl;
            under_mark = (refl, refl);
            in_defer_lem = (refl, refl);
            in_reset = refl;
            wraps = refl;
            cleared = refl;
            untold = refl;
            nothing_made = refl;
          };
      questions =
          record {
            short = refl;
            confirmation = refl;
            bid = refl;
            negative = refl;
            signal_there = refl;
            response_there = refl;
            manual = refl;
            grant = refl;
            no_ru = refl;
            not_next = refl;
            again = refl;
            another_number = refl;
            not_asked = refl;
          };
      crossing =
          record {
            made = (refl, refl);
            waiting = (refl, refl);
            told = (refl, refl);
            kept = (refl, refl);
          };
    }
