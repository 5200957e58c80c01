-- Text put into the cells of a lent buffer from a place on.
-- Assumes nothing.
use Rattle.std.specs.Prelude.{ℕ, ◌+◌, cond, List, leb, length}
use Rattle.cells.specs.Cells.{written}

-- the place behind the text, and the cells; text that does not fit is not written
unfoldable pub put_at : List ℕ → ℕ → List ℕ → ℕ × List ℕ
put_at text at cells = cond (leb (at + length text) (length cells)) (at + length text, written at text cells) (at, cells)
