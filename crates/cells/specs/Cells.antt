-- What a call leaves in the cells of a lent buffer. Cells that are not named keep what they had.
-- Assumes nothing.
use Rattle.std.specs.Prelude.{ℕ, List, ◌++◌, length, take, drop}

-- the bytes from the first cell on
unfoldable pub front : List ℕ → List ℕ → List ℕ
front bytes cells = bytes ++ drop (length bytes) cells

-- the bytes from the cell `at` on
unfoldable pub written : ℕ → List ℕ → List ℕ → List ℕ
written at bytes cells = take at cells ++ front bytes (drop at cells)
