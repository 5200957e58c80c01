-- Text printed into a lent buffer that is long enough for it.
-- Assumes nothing.
use Rattle.std.specs.Prelude.{ℕ, ◌+◌, ◌≤◌, ◌≡◌, List, length}
use Rattle.cells.specs.Cells.{front, written}

-- From the place `at` on: r, the answer, is the place behind the text, and the text stands in the cells. In cells that are
-- too short parts of the text may be missing, and r stays within them.
pub record PrintsAt (text : List ℕ) (at : ℕ) (cells : List ℕ) (r : ℕ) (after : List ℕ) : Type 0 where
  pub within : at ≤ length cells → r ≤ length after
  pub fits : at + length text ≤ length cells → (r ≡ at + length text) × (after ≡ written at text cells)

-- From the front on: r is the length of the text.
pub record Prints (text cells : List ℕ) (r : ℕ) (after : List ℕ) : Type 0 where
  pub within : r ≤ length after
  pub fits : length text ≤ length cells → (r ≡ length text) × (after ≡ front text cells)
