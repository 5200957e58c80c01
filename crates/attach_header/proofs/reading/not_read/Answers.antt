-- `attach_header::reading::not_read` meets its contract.
-- Assumes nothing.
use Rattle.cells.specs.Cells.{front}
use Rattle.attach_header.specs.Fields.{attach_of}
use Rattle.attach_header.proofs.reading.not_read.Goals as goal

pub returns : goal.returns
unfolding attach_of front
returns c =
    rw (
      c.refuse.ensures,
      c.no_string.ensures,
      c.no_string-2.ensures,
      c.no_string-3.ensures,
      c.no_string-4.ensures,
      c.no_string-5.ensures,
    )
