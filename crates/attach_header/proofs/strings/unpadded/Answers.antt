-- `attach_header::strings::unpadded` meets its contract. What is left has the padding off where all has.
-- Assumes nothing.
use mathlib.Core.Path.{◌∙◌}
use Rattle.attach_header.proofs.Padding.{space_off, none_off, nothing_left}
use Rattle.attach_header.proofs.strings.unpadded.Goals as goal

pub loop-s-preserved : goal.loop-s-preserved
loop-s-preserved c = space_off c.loop-s.s.now c.in-len1-up.len_at_least c.if-last-eq-SPACE.true ∙ c.loop-s.invariant

pub returns-else-last-eq-SPACE : goal.returns-else-last-eq-SPACE
returns-else-last-eq-SPACE c = none_off c.loop-s.s.now c.in-len1-up.len_at_least c.if-last-eq-SPACE.false ∙ c.loop-s.invariant

pub returns : goal.returns
returns c = nothing_left c.loop-s.s.now c.in_default.len_below ∙ c.loop-s.invariant
