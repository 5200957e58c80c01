-- `script::text_parts::behind_word` meets its contract. The blank is looked for in the whole text.
-- Assumes nothing.
use mathlib.Core.Path.{refl, ap, ◌∙◌}
use Prim.Native.Nat.{ℕ, ◌+◌}
use lib.ListN.{drop}
use Rattle.script.specs.TextParts.{blank, behind_word}
use Rattle.script.proofs.PartsFound.{found_in_all, behind_place}
use Rattle.script.proofs.text_parts.behind_word.Goals as goal

pub returns : goal.returns
unfolding behind_word
returns c =
    let text = c.args.text.now in
    behind_place c.get.result _ c.unwrap_or.ensures (c.find.result + 1) text c.get.ensures.lookup.0 refl
    ∙ ap (λ (n : ℕ). drop (n + 1) text) (c.find.ensures.place ∙ found_in_all blank text)
