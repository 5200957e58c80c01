-- `unit::ru::ru_good` meets its contract. Data goes by its length, and every other kind is compared with its fixed RU.
-- Assumes nothing.
use Rattle.std.proofs.Common.{ap, ◌∙◌}
use Rattle.cells.specs.Equal.{same_bytes}
use Rattle.unit.specs.Ru.{ru_good}
use Rattle.unit.proofs.FixedRu.{wants_fixed}
use Rattle.unit.proofs.ru.ru_good.Goals as goal

pub returns-in-Data : goal.returns-in-Data
unfolding ru_good
returns-in-Data c = rw (c.data_ru_good.ensures, c.in-Data.is)

pub returns-in_default : goal.returns-in_default
returns-in_default c =
    let a = c.args in
    let ru = a.ru.now in
    c.same.ensures ∙ ap (same_bytes ru) c.fixed_ru.ensures ∙ wants_fixed a.max a.h ru c.in_default.not-Data
