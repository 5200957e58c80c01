-- `script::words_asked::given` meets its contract. More than 4,096 digits are more than 2,048 bytes; of fewer the cells alone decide.
-- Assumes nothing.
use lib.ListN.{length}
use Rattle.cells.proofs.Fronts.{front_none}
use Rattle.script.specs.WordsAsked.{given_of}
use Rattle.script.proofs.MostBytes.{hex_short, hex_long}
use Rattle.script.proofs.words_asked.given.Goals as goal

pub returns-then-text-gt-MOST_DIGITS : goal.returns-then-text-gt-MOST_DIGITS
unfolding given_of
returns-then-text-gt-MOST_DIGITS c =
    let a = c.args in
    rw (hex_long a.text.now (length a.bytes.now) c.if-text-gt-MOST_DIGITS.true, front_none)

pub returns-in_err-count : goal.returns-in_err-count
unfolding given_of
returns-in_err-count c =
    let a = c.args in
    rw (c.from_residual.ensures, hex_short a.text.now (length a.bytes.now) c.if-text-gt-MOST_DIGITS.false, ← c.hex.ensures.0, c.in_err-count.was, c.hex.ensures.1)

pub returns : goal.returns
unfolding given_of
returns c =
    let a = c.args in
    rw (c.plain.ensures, hex_short a.text.now (length a.bytes.now) c.if-text-gt-MOST_DIGITS.false, ← c.hex.ensures.0, c.in_ok-count.was, c.hex.ensures.1)
