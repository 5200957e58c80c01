-- A unit written is read back as its number, its fields and its RU.
-- Assumes nothing.
use Rattle.unit.specs.UnitClaims.{WrittenIsRead, ExpeditedWrittenIsRead}
use Rattle.unit.proofs.UnitLaws.{unit_read_lem, unit_ru}
use Rattle.unit.proofs.ExpeditedUnits.{expedited_read, expedited_ru_lem}

pub written_is_read : WrittenIsRead
written_is_read n f ru h = (unit_read_lem n f ru, unit_ru n f ru)

pub expedited_written_is_read : ExpeditedWrittenIsRead
expedited_written_is_read n f = (expedited_read n f, expedited_ru_lem n f)
