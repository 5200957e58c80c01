-- Pacing of one direction: the window W, the place in it, and the flag. One definition for credit (sending) and open (receiving).
-- Assumes nothing.
use Rattle.std.specs.Prelude.{ℕ, ◌+◌, ◌-◌, Bool, false, cond, ◌&&◌, ◌||◌, eqb, leb, ltb}
use Rattle.pacing.specs.declared.Window.{Window}

-- W, 1 to 63
abbrev pub least_window : ℕ
least_window = 1

abbrev pub greatest_window : ℕ
greatest_window = 63

abbrev pub size_good : ℕ → Bool
size_good w = leb least_window w && leb w greatest_window

-- window place, 0 to W−1
abbrev pub window_good : Window → Bool
window_good w = leb least_window w.size && (leb w.size greatest_window && ltb w.position w.size)

-- a whole window, if the flag is off
abbrev pub whole : Bool → ℕ → ℕ
whole pending size = cond pending 0 size

-- what is left of the window in hand, if the place is not 0
abbrev pub left : ℕ → ℕ → ℕ
left position size = cond (eqb position 0) 0 (size - position)

-- credit and open are each W if that way's flag is off, else 0, plus W less the place if the place is not 0
unfoldable pub credit : Window → ℕ
credit w = whole w.pending w.size + left w.position w.size

abbrev pub has_credit : Window → Bool
has_credit w = leb 1 (credit w)

-- a request carries the pacing bit when the window place is 0
abbrev pub paced : Window → Bool
paced w = eqb w.position 0

-- the place moves on by one, W wrapping to 0
abbrev pub next_position : ℕ → ℕ → ℕ
next_position position size = cond (leb size (position + 1)) 0 (position + 1)

-- after a request: the place has moved on, and a request with the pacing bit has set the flag
unfoldable pub advanced : Window → Window
advanced w =
    record {
      size = w.size;
      position = next_position w.position w.size;
      pending = w.pending || paced w;
    }

-- after a pacing answer: the flag is off, so that credit has risen by W
unfoldable pub answered : Window → Window
answered w = record { size = w.size; position = w.position; pending = false }

-- as opened: credit and open equal to their W
abbrev pub fresh_window : ℕ → Window
fresh_window size = record { size = size; position = 0; pending = false }
