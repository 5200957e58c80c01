-- A header of three bytes on an expedited line is read as its contract says. It is `read_expedited_bits`, and that is the rules' answer.
-- Assumes nothing.
use mathlib.Core.Path.{◌≡◌, ◌∙◌}
use native.Mathlib.Omega.{arith}
use Prim.Native.Nat.{◌<◌}
use borrow.Author.Rules.{rules}
use Rattle.std.specs.Prelude.{Result}
use Rattle.std.proofs.lemmas.Grind.{common_steps}
use Rattle.header.specs.ExpeditedHeader.{read_expedited}
use Rattle.header.specs.ExpeditedSteps.{read_expedited_bits}
use Rattle.header.specs.declared.HeaderBytes.{HeaderBytes}
use Rattle.header.specs.declared.ExpeditedHeader.{ExpeditedHeader}
use Rattle.header.specs.declared.Rule.{Rule}
use Rattle.header.proofs.ExpeditedHeaders.{expedited_same_answers}
use Rattle.header.proofs.expedited.ExpeditedHeaderTryFromHeaderBytes.try_from.Goals as goal

answered : (h : HeaderBytes) (r : Result ExpeditedHeader Rule) → h.b0 < 256 → h.b1 < 256 → h.b2 < 256 → r ≡ read_expedited_bits h → r ≡ read_expedited h
answered h r l0 l1 l2 e = e ∙ expedited_same_answers h.b0 h.b1 h.b2 l0 l1 l2

pub returns-in_err-keep : goal.returns-in_err-keep
unfolding read_expedited_bits
returns-in_err-keep c = answered c.args.h _ (search rules) (search rules) (search rules) (grind (arith, common_steps))

pub returns-in_err-keep-2 : goal.returns-in_err-keep-2
unfolding read_expedited_bits
returns-in_err-keep-2 c = answered c.args.h _ (search rules) (search rules) (search rules) (grind (arith, common_steps))

pub returns-then-b0 : goal.returns-then-b0
unfolding read_expedited_bits
returns-then-b0 c = answered c.args.h _ (search rules) (search rules) (search rules) (grind (arith, common_steps))

pub returns-else-b0 : goal.returns-else-b0
unfolding read_expedited_bits
returns-else-b0 c = answered c.args.h _ (search rules) (search rules) (search rules) (grind (arith, common_steps))
