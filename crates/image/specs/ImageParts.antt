-- The parts that occur more than once in an image: a flag, a number, a window, a record place. Each as its bytes, and read at the byte where it starts.
-- Assumes nothing.
use Rattle.std.specs.Prelude.{ℕ, ◌+◌, ◌/◌, ◌%◌, Bool, cond, List, [], ◌∷◌, eqb, leb, get_or, Option, Some, None}
use Rattle.unit.specs.Unit.{number_of}
use Rattle.pacing.specs.declared.Window.{Window}
use Rattle.logical_record.specs.declared.Position.{Position}
use Rattle.logical_record.specs.declared.Position.TheVariants.{Between, AfterFirst, Remaining}

abbrev pub byte_at : List ℕ → ℕ → ℕ
byte_at image at = get_or image at 0

-- a flag is 0 or 1
abbrev pub flag_byte : Bool → ℕ
flag_byte on = cond on 1 0

abbrev pub flag_at : List ℕ → ℕ → Bool
flag_at image at = leb 1 (byte_at image at)

abbrev pub flag_good : List ℕ → ℕ → Bool
flag_good image at = leb (byte_at image at) 1

-- a number of 16 bits, low byte first
abbrev pub number_bytes : ℕ → List ℕ
number_bytes n = n % 256 ∷ n / 256 ∷ []

abbrev pub number_at : List ℕ → ℕ → ℕ
number_at image at = number_of (byte_at image (at + 1)) (byte_at image at)

-- a window: W, the place in it, the flag
abbrev pub window_bytes : Window → List ℕ
window_bytes w = w.size ∷ w.position ∷ flag_byte w.pending ∷ []

abbrev pub window_at : List ℕ → ℕ → Window
window_at image at = record { size = byte_at image at; position = byte_at image (at + 1); pending = flag_at image (at + 2) }

-- a record place: its kind, and a number; between records 0, with bytes left 2, and one more where LL says that another part follows
abbrev pub place_kind : Position → ℕ
place_kind (Between more) = cond more 1 0
place_kind (AfterFirst byte) = 4
place_kind (Remaining more n) = cond more 3 2

abbrev pub place_value : Position → ℕ
place_value (Between more) = 0
place_value (AfterFirst byte) = byte
place_value (Remaining more n) = n

-- the first LL byte, where the place is after it; else 0
abbrev pub first_byte : Position → ℕ
first_byte (Between more) = 0
first_byte (AfterFirst byte) = byte
first_byte (Remaining more n) = 0

abbrev pub place_bytes : Position → List ℕ
place_bytes p = place_kind p ∷ number_bytes (place_value p)

abbrev pub place_of : ℕ → ℕ → ℕ → Position
place_of kind low high =
    cond (leb kind 1) (Between (eqb kind 1)) (cond (eqb kind 4) (AfterFirst low) (Remaining (eqb kind 3) (number_of high low)))

abbrev pub place_at : List ℕ → ℕ → Position
place_at image at = place_of (byte_at image at) (byte_at image (at + 1)) (byte_at image (at + 2))

-- between records the number is 0; after the first LL byte it is one byte; else the kind is 2 or 3
abbrev pub place_fits : ℕ → ℕ → ℕ → Bool
place_fits kind low high = cond (leb kind 1) (eqb (number_of high low) 0) (cond (eqb kind 4) (eqb high 0) (leb kind 3))

abbrev pub place_good : List ℕ → ℕ → Bool
place_good image at = place_fits (byte_at image at) (byte_at image (at + 1)) (byte_at image (at + 2))

-- the place that three bytes hold, if they are one's
abbrev pub place_read : List ℕ → ℕ → Option Position
place_read image at = cond (place_good image at) (Some (place_at image at)) None
