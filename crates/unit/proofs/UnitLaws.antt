-- Laws of units and headers, for the crates above; the round trip of headers is passed on from its own file.
-- Assumes nothing.
pub use Rattle.header.proofs.RoundTrip.{built_good, built_fields, read_bytes}
use Rattle.std.proofs.Common.{Ok, ◌≡◌, ℕ, ◌+◌, ◌≤◌, List, length, drop, refl, div-add-mod', arith, le-leb}
use Rattle.cells.specs.Cells.{front}
use Rattle.header.specs.Header.{header_bytes}
use Rattle.unit.specs.Unit.{RU_START, unit_bytes, unit_of, bytes_made, cells_made, number_in, header_in, heading_of, read_unit}
use Rattle.header.specs.declared.Header.{Header}

-- ---- what a unit holds

pub unit_length : (n : ℕ) (f : Header) (ru : List ℕ) → length (unit_of n f ru) ≡ RU_START + length ru
unfolding unit_of unit_bytes
unit_length n f ru = omega arith

pub unit_number : (n : ℕ) (f : Header) (ru : List ℕ) → number_in (unit_of n f ru) ≡ n
unfolding unit_of unit_bytes
unit_number n f ru = div-add-mod' n 256

pub unit_header : (n : ℕ) (f : Header) (ru : List ℕ) → header_in (unit_of n f ru) ≡ header_bytes f
unfolding unit_of unit_bytes
unit_header n f ru = refl

pub unit_ru : (n : ℕ) (f : Header) (ru : List ℕ) → drop RU_START (unit_of n f ru) ≡ ru
unfolding unit_of unit_bytes
unit_ru n f ru = refl

-- ---- a unit is read

pub unit_read_lem : (n : ℕ) (f : Header) (ru : List ℕ)
    → read_unit (unit_of n f ru) ≡ Ok (record { number = n; header = f })
unfolding read_unit heading_of
unit_read_lem n f ru =
    rw (
      unit_number n f ru,
      unit_header n f ru,
      built_good f,
      built_fields f,
      le-leb RU_START (length (unit_of n f ru)) (omega (arith, unit_length n f ru)),
    )

-- ---- a unit is made

pub cells_made_lem : (n : ℕ) (f : Header) (ru cells : List ℕ) → RU_START + length ru ≤ length cells
    → cells_made n f ru cells ≡ front (unit_of n f ru) cells
unfolding cells_made bytes_made unit_of
cells_made_lem n f ru cells h = rw (le-leb (RU_START + length ru) (length cells) h)
