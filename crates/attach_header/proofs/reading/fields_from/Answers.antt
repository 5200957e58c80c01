-- `attach_header::reading::fields_from` meets its contract.
-- Assumes nothing.
use Rattle.attach_header.specs.Fields.{attach_of}
use Rattle.attach_header.specs.Read.{fields_from}
use Rattle.attach_header.specs.Places.{security_of, work_of}
use Rattle.attach_header.proofs.reading.fields_from.Goals as goal

pub returns : goal.returns
unfolding attach_of fields_from security_of work_of
returns c =
    rw (
      c.symbol_string.ensures,
      c.security_of-secured.ensures,
      c.work_of-work.ensures,
    )
