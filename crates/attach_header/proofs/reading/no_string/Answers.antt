-- `attach_header::reading::no_string` meets its contract.
-- Assumes nothing.
use mathlib.Core.Path.{refl}
use Rattle.cells.specs.Cells.{front}
use Rattle.attach_header.specs.Fields.{string_of}
use Rattle.attach_header.proofs.reading.no_string.Goals as goal

pub returns : goal.returns
unfolding string_of front
returns c = refl
