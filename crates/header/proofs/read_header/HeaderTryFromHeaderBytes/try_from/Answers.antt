-- A header of three bytes is read as its contract says. It is `read_bits`, and that is the rules' answer.
-- Assumes nothing.
use mathlib.Core.Path.{◌≡◌, ◌∙◌}
use native.Mathlib.Omega.{arith}
use Prim.Native.Nat.{◌<◌}
use borrow.Author.Rules.{rules}
use Rattle.std.specs.Prelude.{Result}
use Rattle.std.proofs.lemmas.Grind.{common_steps}
use Rattle.header.specs.Header.{read_header}
use Rattle.header.specs.HeaderSteps.{kind_read, read_bits}
use Rattle.header.specs.declared.HeaderBytes.{HeaderBytes}
use Rattle.header.specs.declared.Header.{Header}
use Rattle.header.specs.declared.Rule.{Rule}
use Rattle.header.proofs.SameAnswers.{same_answers}
use Rattle.header.proofs.read_header.HeaderTryFromHeaderBytes.try_from.Goals as goal

-- what is read bit by bit is the rules' answer
answered : (h : HeaderBytes) (r : Result Header Rule) → h.b0 < 256 → h.b1 < 256 → h.b2 < 256 → r ≡ read_bits h → r ≡ read_header h
answered h r l0 l1 l2 e = e ∙ same_answers h.b0 h.b1 h.b2 l0 l1 l2

pub returns-in_err-keep : goal.returns-in_err-keep
unfolding read_bits
returns-in_err-keep c = answered c.args.h _ (search rules) (search rules) (search rules) (grind (arith, common_steps))

pub returns-in-11 : goal.returns-in-11
unfolding read_bits kind_read
returns-in-11 c = answered c.args.h _ (search rules) (search rules) (search rules) (grind (arith, common_steps))

pub returns-in-75 : goal.returns-in-75
unfolding read_bits kind_read
returns-in-75 c = answered c.args.h _ (search rules) (search rules) (search rules) (grind (arith, common_steps))

pub returns-in-131 : goal.returns-in-131
unfolding read_bits kind_read
returns-in-131 c = answered c.args.h _ (search rules) (search rules) (search rules) (grind (arith, common_steps))

pub returns-in-135 : goal.returns-in-135
unfolding read_bits kind_read
returns-in-135 c = answered c.args.h _ (search rules) (search rules) (search rules) (grind (arith, common_steps))

pub returns-in-203 : goal.returns-in-203
unfolding read_bits kind_read
returns-in-203 c = answered c.args.h _ (search rules) (search rules) (search rules) (grind (arith, common_steps))

pub returns-in-0-to-3 : goal.returns-in-0-to-3
unfolding read_bits kind_read
returns-in-0-to-3 c = answered c.args.h _ (search rules) (search rules) (search rules) (grind (arith, common_steps))

pub returns-in_default : goal.returns-in_default
unfolding read_bits kind_read
returns-in_default c = answered c.args.h _ (search rules) (search rules) (search rules) (grind (arith, common_steps))
