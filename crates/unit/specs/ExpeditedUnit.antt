-- The units of the expedited lines: their RUs, how they are written and how they are read.
-- Assumes nothing.
use Rattle.std.specs.Prelude.{ℕ, Bool, cond, List, [], ◌∷◌, length, nat_le, Result, Ok, Err, ◌≡◌, refl}
use Rattle.cells.specs.Equal.{same_bytes}
use Rattle.header.specs.ExpeditedHeader.{expedited_good, broken_expedited, expedited_bytes, expedited_fields}
use Rattle.header.specs.declared.ExpeditedHeader.{ExpeditedHeader}
use Rattle.header.specs.declared.ExpeditedHeader.TheVariants.{Signal, SignalResponse}
use Rattle.unit.specs.Unit.{RU_START, unit_bytes, bytes_made, number_in, header_in}
use Rattle.unit.specs.declared.Heading.{Heading}
use Rattle.unit.specs.declared.Unreadable.{Unreadable}
use Rattle.unit.specs.declared.Unreadable.TheVariants.{TooShort, Breaks}

-- a signal is SIG C9 00 01 00 00, its answer C9
abbrev pub expedited_ru : ExpeditedHeader → List ℕ
expedited_ru Signal = 0xC9 ∷ 0x00 ∷ 0x01 ∷ 0x00 ∷ 0x00 ∷ []
expedited_ru SignalResponse = 0xC9 ∷ []

abbrev pub expedited_ru_good : ExpeditedHeader → List ℕ → Bool
expedited_ru_good h ru = same_bytes ru (expedited_ru h)

-- ---- writing

-- the bytes of a unit
unfoldable pub expedited_of : ℕ → ExpeditedHeader → List ℕ
expedited_of n h = unit_bytes n (expedited_bytes h) (expedited_ru h)

-- the buffer after one is made at its front; as it was if it does not fit
unfoldable pub expedited_made : ℕ → ExpeditedHeader → List ℕ → List ℕ
expedited_made n h cells = bytes_made n (expedited_bytes h) (expedited_ru h) cells

pub expedited_made_is : (n : ℕ) (h : ExpeditedHeader) (cells : List ℕ) → expedited_made n h cells ≡ bytes_made n (expedited_bytes h) (expedited_ru h) cells
unfolding expedited_made
expedited_made_is n h cells = refl

-- ---- reading

unfoldable pub expedited_heading : List ℕ → Heading ExpeditedHeader
expedited_heading u = record { number = number_in u; header = expedited_fields (header_in u) }

-- what is read of a unit: its number and the fields of its header, or the rule that the header breaks
unfoldable pub read_expedited_unit : List ℕ → Result (Heading ExpeditedHeader) Unreadable
read_expedited_unit u =
    cond (nat_le RU_START (length u))
    (cond (expedited_good (header_in u)) (Ok (expedited_heading u)) (Err (Breaks (broken_expedited (header_in u)))))
    (Err TooShort)
