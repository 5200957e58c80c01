-- Laws of the units on the expedited lines, for the crates above.
-- Assumes nothing.
pub use Rattle.header.proofs.ExpeditedHeaders.{expedited_built_good, expedited_built_fields}
use Rattle.std.proofs.Common.{Ok, ◌≡◌, ℕ, ◌+◌, ◌≤◌, List, length, drop, refl, div-add-mod', arith, le-leb}
use Rattle.cells.specs.Cells.{front}
use Rattle.header.specs.ExpeditedHeader.{expedited_bytes}
use Rattle.header.specs.declared.ExpeditedHeader.{ExpeditedHeader}
use Rattle.unit.specs.Unit.{RU_START, unit_bytes, bytes_made, number_in, header_in}
use Rattle.unit.specs.ExpeditedUnit.{expedited_ru, expedited_of, expedited_made, expedited_heading, read_expedited_unit}

-- ---- what a unit holds

pub expedited_length : (n : ℕ) (f : ExpeditedHeader) → length (expedited_of n f) ≡ RU_START + length (expedited_ru f)
unfolding expedited_of unit_bytes
expedited_length n f = omega arith

pub expedited_number : (n : ℕ) (f : ExpeditedHeader) → number_in (expedited_of n f) ≡ n
unfolding expedited_of unit_bytes
expedited_number n f = div-add-mod' n 256

pub expedited_header : (n : ℕ) (f : ExpeditedHeader) → header_in (expedited_of n f) ≡ expedited_bytes f
unfolding expedited_of unit_bytes
expedited_header n f = refl

pub expedited_ru_lem : (n : ℕ) (f : ExpeditedHeader) → drop RU_START (expedited_of n f) ≡ expedited_ru f
unfolding expedited_of unit_bytes
expedited_ru_lem n f = refl

-- ---- a unit is read

pub expedited_read : (n : ℕ) (f : ExpeditedHeader) → read_expedited_unit (expedited_of n f) ≡ Ok (record { number = n; header = f })
unfolding read_expedited_unit expedited_heading
expedited_read n f =
    rw (
      expedited_number n f,
      expedited_header n f,
      expedited_built_good f,
      expedited_built_fields f,
      le-leb RU_START (length (expedited_of n f)) (omega (arith, expedited_length n f)),
    )

-- ---- a unit is made

pub expedited_cells : (n : ℕ) (f : ExpeditedHeader) (cells : List ℕ) → RU_START + length (expedited_ru f) ≤ length cells
    → expedited_made n f cells ≡ front (expedited_of n f) cells
unfolding expedited_made bytes_made expedited_of
expedited_cells n f cells h = rw (le-leb (RU_START + length (expedited_ru f)) (length cells) h)
