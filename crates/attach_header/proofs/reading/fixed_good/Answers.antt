-- `attach_header::reading::fixed_good` meets its contract. A header under 9 bytes has no whole fixed part.
-- Assumes nothing.
use mathlib.Core.Path.{sym}
use Rattle.attach_header.specs.Read.{fixed_good}
use Rattle.attach_header.proofs.FixedPart.{too_short}
use Rattle.attach_header.proofs.reading.fixed_good.Goals as goal

pub returns-then-n-lt9 : goal.returns-then-n-lt9
returns-then-n-lt9 c = sym (too_short c.args.h.now c.if-n-lt9.true)

pub returns : goal.returns
unfolding fixed_good
returns c = rw c.resource_good.ensures
