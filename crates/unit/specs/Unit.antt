-- The unit: number, header and RU; how it is written at the front of a buffer and how it is read.
-- Assumes nothing.
use Rattle.std.specs.Prelude.{ℕ, ◌+◌, ◌*◌, ◌/◌, ◌%◌, Bool, cond, List, ◌∷◌, length, nat_le, slice_index, Result, Ok, Err, ◌≡◌, refl}
use Rattle.cells.specs.Cells.{front}
use Rattle.header.specs.Rules.{bytes, lowest_broken, header_good}
use Rattle.header.specs.Header.{header_bytes, fields_of}
use Rattle.header.specs.declared.HeaderBytes.{HeaderBytes}
use Rattle.header.specs.declared.Header.{Header}
use Rattle.header.specs.declared.Rule.{Rule}
use Rattle.unit.specs.declared.Heading.{Heading}
use Rattle.unit.specs.declared.Unreadable.{Unreadable}
use Rattle.unit.specs.declared.Unreadable.TheVariants.{TooShort, Breaks}

-- the RU starts at byte 5
abbrev pub RU_START : ℕ
RU_START = 5

-- ---- writing

unfoldable pub unit_bytes : ℕ → HeaderBytes → List ℕ → List ℕ
unit_bytes n h ru = n / 256 ∷ n % 256 ∷ h.b0 ∷ h.b1 ∷ h.b2 ∷ ru

-- the bytes of a unit
unfoldable pub unit_of : ℕ → Header → List ℕ → List ℕ
unit_of n h ru = unit_bytes n (header_bytes h) ru

-- a unit of this RU fits the buffer
abbrev pub fits : List ℕ → List ℕ → Bool
fits ru cells = nat_le (RU_START + length ru) (length cells)

-- the length of the unit made; 0 for one that does not fit
abbrev pub length_made : List ℕ → List ℕ → ℕ
length_made ru cells = cond (fits ru cells) (RU_START + length ru) 0

-- the buffer after that: the unit at its front, or as it was; by the bytes of its header, and by its fields
unfoldable pub bytes_made : ℕ → HeaderBytes → List ℕ → List ℕ → List ℕ
bytes_made n h ru cells = cond (fits ru cells) (front (unit_bytes n h ru) cells) cells

unfoldable pub cells_made : ℕ → Header → List ℕ → List ℕ → List ℕ
cells_made n h ru cells = bytes_made n (header_bytes h) ru cells

pub cells_made_is : (n : ℕ) (h : Header) (ru cells : List ℕ) → cells_made n h ru cells ≡ bytes_made n (header_bytes h) ru cells
unfolding cells_made
cells_made_is n h ru cells = refl

-- ---- reading

-- the number of two bytes, high byte first
abbrev pub number_of : ℕ → ℕ → ℕ
number_of high low = high * 256 + low

abbrev pub number_in : List ℕ → ℕ
number_in u = number_of (slice_index u 0) (slice_index u 1)

abbrev pub header_in : List ℕ → HeaderBytes
header_in u = bytes (slice_index u 2) (slice_index u 3) (slice_index u 4)

-- what is read of a unit's head, by its number and what is read of its header: the two, or the rule that is broken
abbrev pub heading_read : {H : Type 0} → ℕ → Result H Rule → Result (Heading H) Unreadable
heading_read n (Ok h) = Ok (record { number = n; header = h })
heading_read n (Err rule) = Err (Breaks rule)

unfoldable pub heading_of : List ℕ → Heading Header
heading_of u = record { number = number_in u; header = fields_of (header_in u) }

-- what is read of a unit: its number and the fields of its header, or the lowest rule that the header breaks
unfoldable pub read_unit : List ℕ → Result (Heading Header) Unreadable
read_unit u =
    cond (nat_le RU_START (length u))
    (cond (header_good (header_in u)) (Ok (heading_of u)) (Err (Breaks (lowest_broken (header_in u)))))
    (Err TooShort)
