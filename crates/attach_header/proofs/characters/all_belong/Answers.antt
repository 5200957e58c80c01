-- `attach_header::characters::all_belong` meets its contract. The loop's invariant: the bytes left belong exactly where all do.
-- Assumes nothing.
use mathlib.Core.Path.{sym, ◌∙◌}
use Rattle.attach_header.specs.Characters.{belongs}
use Rattle.attach_header.proofs.Padding.{every_more, every_other, every_end}
use Rattle.attach_header.proofs.characters.all_belong.Goals as goal

pub returns-then-not-belongs_to : goal.returns-then-not-belongs_to
returns-then-not-belongs_to c =
    let a = c.args in
    let l = c.loop-b in
    let e = sym c.belongs_to.ensures ∙ c.if-not-belongs_to.true in
    sym (every_other (belongs a.graphic) a.s.now l.b-index c.loop-b-test.true e) ∙ l.invariant

pub loop-b-preserved : goal.loop-b-preserved
loop-b-preserved c =
    let a = c.args in
    let l = c.loop-b in
    let e = sym c.belongs_to.ensures ∙ c.if-not-belongs_to.false in
    every_more (belongs a.graphic) a.s.now l.b-index c.loop-b-test.true e ∙ l.invariant

pub returns : goal.returns
returns c =
    let a = c.args in
    sym (every_end (belongs a.graphic) a.s.now c.loop-b.b-index c.loop-b-test.false) ∙ c.loop-b.invariant
