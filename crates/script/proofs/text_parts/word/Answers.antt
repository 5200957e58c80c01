-- `script::text_parts::word` meets its contract. The blank is looked for in the whole text.
-- Assumes nothing.
use Rattle.script.specs.TextParts.{word_of}
use Rattle.script.proofs.PartsFound.{found_in_all}
use Rattle.script.proofs.text_parts.word.Goals as goal

pub returns : goal.returns
unfolding word_of
returns c = rw (c.find.ensures.place, found_in_all)
