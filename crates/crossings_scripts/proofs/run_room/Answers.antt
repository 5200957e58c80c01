-- The room for the script is as long as its type says. Written out, since a search would compute its cells.
-- Assumes nothing.
use Rattle.std.proofs.Common.{ℕ, sym}
use lib.ListN.{length-replicate}
use Rattle.crossings_scripts.proofs.run_room.Goals as goal

pub slice_bounds-run_file-end : goal.slice_bounds-run_file-end
slice_bounds-run_file-end g c = sym {0} (length-replicate {0} {A = ℕ} 1048577 0)
