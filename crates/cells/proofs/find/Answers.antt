-- `cells::find` meets its contract: `position` finds the first of the byte, and without one there is none.
-- Assumes nothing.
use Rattle.std.proofs.Common.{slice_range}
use Rattle.cells.proofs.Finds.{index_of_position}
use Rattle.cells.proofs.find.Goals as goal

pub returns-clause-place : goal.returns-clause-place
returns-clause-place c =
    rw (c.place_or_end.ensures, c.first_of.ensures, index_of_position c.args.byte (slice_range c.args.text.now c.args.from c.args.to))
