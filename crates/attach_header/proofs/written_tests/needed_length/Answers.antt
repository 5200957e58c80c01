-- `attach_header::written_tests::needed_length` meets its contract.
-- Assumes nothing.
use Rattle.attach_header.specs.Written.{needed}
use Rattle.attach_header.proofs.written_tests.needed_length.Goals as goal

pub returns : goal.returns
unfolding needed
returns c =
    rw (c.trailing_needs.ensures.0, c.work_needs.ensures.0, c.security_needs-security.ensures.0)
