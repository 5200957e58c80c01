-- `line_end` answers the place that the definition gives, within the text.
-- Assumes nothing.
use mathlib.Core.Path.{◌≡◌, refl, sym, ◌∙◌}
use Prim.Native.Nat.{◌+◌, ◌≤◌}
use native.Mathlib.Omega.{arith}
use lib.ListN.{length}
use borrow.Author.Tests.{lt-ltb, le-ltb}
use Rattle.std.specs.Prelude.{slice_range}
use Rattle.cells.specs.Found.{index_of}
use Rattle.script.specs.LineEnds.{line_end}
use Rattle.script.proofs.text.line_end.Goals as goal

pub returns-then-n-from : goal.returns-then-n-from
unfolding line_end
returns-then-n-from c =
    let a = c.args in
    simp (lt-ltb (length a.text.now) a.from c.if-n-from.true) (refl, omega arith, λ h. h)

pub returns : goal.returns
unfolding line_end
returns c =
    let a = c.args in
    let h : a.from ≤ length a.text.now = omega arith in
    let e : c.find.result ≡ a.from + index_of 0x0A (slice_range a.text.now a.from (length a.text.now)) = c.find.ensures.place in (
      e ∙ sym (simp (le-ltb (length a.text.now) a.from h) refl),
      c.find.ensures.within,
      λ _. omega (arith, e),
    )
