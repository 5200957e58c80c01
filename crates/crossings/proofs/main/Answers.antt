-- The room for the input is as long as its type says. Written out, since a search would compute its cells.
-- Assumes nothing.
use Rattle.std.proofs.Common.{ℕ, sym}
use lib.ListN.{length-replicate}
use Rattle.crossings.proofs.main.Goals as goal

pub slice_bounds-run_input-end : goal.slice_bounds-run_input-end
slice_bounds-run_input-end c = sym {0} (length-replicate {0} {A = ℕ} 1048577 0)
