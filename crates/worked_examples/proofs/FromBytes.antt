-- The statements of specs/FromBytes.antt hold, by computation.
-- Assumes nothing.
use Rattle.std.specs.Prelude.{refl}
use Rattle.worked_examples.specs.Computed.{computed}
use Rattle.worked_examples.specs.FromBytes.{FromBytes}

pub all_from_bytes : FromBytes
unfolding computed
all_from_bytes =
    record {
      meanings =
          record {
            size_85 = refl;
            size_87 = refl;
            size_97 = refl;
            fails_97 = refl;
            fails_75 = refl;
            fails_outsize = refl;
            fails_insize = refl;
            window_c7 = refl;
            fails_40 = refl;
            greatest_window = refl;
            least = refl;
            greatest = refl;
          };
      same_way =
          record {
            equal = record { role = refl; outwindow = refl; inwindow = refl; outmax = refl; inmax = refl };
            same = refl;
            accepts = refl;
            role_first = refl;
            window_second = refl;
            size_third = refl;
            buffers_last = refl;
          };
      back =
          record {
            of_256 = refl;
            of_1024 = refl;
            of_8 = refl;
            of_960 = refl;
            of_1023 = refl;
            of_17 = refl;
            of_7 = refl;
            of_1025 = refl;
            of_1152 = refl;
            of_0 = refl;
          };
    }
