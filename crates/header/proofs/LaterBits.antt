-- Headers in which an earlier bit alone would give another answer: antt computes what the reader's steps name.
-- Assumes nothing.
use mathlib.Core.Path.{refl}
use Rattle.header.specs.HeaderSteps.{kind_read, read_bits}
use Rattle.header.specs.ManualOrder.{LaterBits}

pub later_bits : LaterBits
unfolding read_bits kind_read
later_bits =
    record {
      bb_code_selection = refl;
      bb_end_bracket = refl;
      cd_enciphered = refl;
      bb_padded = refl;
      bb_cd_ceb = refl;
      dr2_exception = refl;
      dr2_queued = refl;
      dr2_reserved = refl;
      network_control = refl;
      network_control_response = refl;
      session_control = refl;
    }
