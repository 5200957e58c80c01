-- `script::words_asked::row_asked` meets its contract. The loop's invariant: the rows left ask what all ask.
-- Assumes nothing.
use Rattle.std.proofs.Common.{◌≡◌, map}
use lib.ListN.{drop}
use Rattle.script.specs.WordsAsked.{row_of}
use Rattle.script.proofs.words_asked.row_asked.Given as goal

abbrev pub invariant-loop-row : goal.invariant-loop-row
invariant-loop-row l =
    row_of l.second l.words (map (λ row. (row.0.now, row.1)) (drop l.row-index l.rows)) ≡ row_of l.second l.words (map (λ row. (row.0.now, row.1)) l.rows)
