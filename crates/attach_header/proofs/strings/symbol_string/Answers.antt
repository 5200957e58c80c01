-- `attach_header::strings::symbol_string` meets its contract.
-- Assumes nothing.
use native.Mathlib.Omega.{arith}
use Rattle.attach_header.proofs.Padding.{no_longer, kept}
use Rattle.attach_header.proofs.strings.symbol_string.Goals as goal

pub copy-requires : goal.copy-requires
copy-requires c = rw c.unpadded-text.ensures (omega (arith, no_longer c.args.s.now))

pub returns : goal.returns
returns c = kept c.args.s.now _ _ c.unpadded-text.ensures c.copy.ensures.cells
