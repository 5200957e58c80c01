-- What is claimed of units, for a reader to find. Proved in proofs/, and promised by the function `theorems::units`.
-- Assumes nothing.
use Rattle.std.specs.Prelude.{◌≡◌, ℕ, ◌<◌, List, drop, Ok}
use Rattle.header.specs.declared.ExpeditedHeader.{ExpeditedHeader}
use Rattle.header.specs.declared.Header.{Header}
use Rattle.unit.specs.ExpeditedUnit.{expedited_ru, expedited_of, read_expedited_unit}
use Rattle.unit.specs.Unit.{RU_START, unit_of, read_unit}

-- a unit written is read back as its number, its fields and its RU
abbrev pub WrittenIsRead : Type 0
WrittenIsRead =
    (n : ℕ) (f : Header) (ru : List ℕ)
    → n < 65536
    → (read_unit (unit_of n f ru) ≡ Ok (record { number = n; header = f })) × (drop RU_START (unit_of n f ru) ≡ ru)

-- the same of a unit on an expedited line
abbrev pub ExpeditedWrittenIsRead : Type 0
ExpeditedWrittenIsRead =
    (n : ℕ) (f : ExpeditedHeader)
    → (read_expedited_unit (expedited_of n f) ≡ Ok (record { number = n; header = f })) × (drop RU_START (expedited_of n f) ≡ expedited_ru f)
