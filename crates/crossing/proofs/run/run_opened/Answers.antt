-- Each line is as long as its type says. Written out, since a search would compute its cells.
-- Assumes nothing.
use Rattle.std.proofs.Common.{ℕ, sym}
use lib.ListN.{length-replicate}
use Rattle.crossing.proofs.run.run_opened.Goals as goal

pub slice_bounds-run_lines-end : goal.slice_bounds-run_lines-end
slice_bounds-run_lines-end g c = sym {0} (length-replicate {0} {A = ℕ} 527872 0)

pub slice_bounds-run_lines-end-2 : goal.slice_bounds-run_lines-end-2
slice_bounds-run_lines-end-2 g c = sym {0} (length-replicate {0} {A = ℕ} 527872 0)

pub slice_bounds-run_lines-end-3 : goal.slice_bounds-run_lines-end-3
slice_bounds-run_lines-end-3 g c = sym {0} (length-replicate {0} {A = ℕ} 527872 0)

pub slice_bounds-run_lines-end-4 : goal.slice_bounds-run_lines-end-4
slice_bounds-run_lines-end-4 g c = sym {0} (length-replicate {0} {A = ℕ} 527872 0)
