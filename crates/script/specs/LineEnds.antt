-- How long a script may be, where a line of it ends, what of a line is read, and which lines are passed over.
-- Assumes nothing.
use Rattle.std.specs.Prelude.{ℕ, ◌+◌, ◌-◌, Bool, cond, ◌||◌, List, eqb, ltb, length, get_or, slice_range}
use Rattle.cells.specs.Found.{index_of}

-- the bytes of the longest script
abbrev pub SCRIPT_MOST : ℕ
SCRIPT_MOST = 1048576

-- of a script of more bytes no line is read
abbrev pub too_long : ℕ → Bool
too_long bytes = ltb SCRIPT_MOST bytes

-- at the next byte 0A, or at the end of the text
unfoldable pub line_end : ℕ → List ℕ → ℕ
line_end from text = cond (ltb (length text) from) (length text) (from + index_of 0x0A (slice_range text from (length text)))

-- a line without one byte 0D at its end: so many bytes of it
abbrev pub text_length : List ℕ → ℕ
text_length line = cond (eqb (get_or line (length line - 1) 0) 0x0D) (length line - 1) (length line)

-- an empty line, and one that begins with `#`
abbrev pub passed_over : List ℕ → Bool
passed_over text = eqb (length text) 0 || eqb (get_or text 0 0) 0x23
