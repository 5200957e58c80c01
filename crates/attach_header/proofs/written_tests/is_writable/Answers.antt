-- `attach_header::written_tests::is_writable` meets its contract.
-- Assumes nothing.
use Rattle.attach_header.specs.Written.{writable}
use Rattle.attach_header.proofs.written_tests.is_writable.Goals as goal

pub returns : goal.returns
unfolding writable
returns c =
    rw (
      c.resource_good.ensures,
      c.program_fits.ensures,
      c.data_fits.ensures,
      c.data_fits-2.ensures,
      c.data_fits-3.ensures,
      c.lu_fits.ensures,
      c.numbers_whole.ensures,
    )
