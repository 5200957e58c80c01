-- From a decision to its cells: no unit goes, or the one that the decision says.
-- Assumes nothing.
use Prim.Native.Nat.{ℕ, ◌+◌, ◌≤◌}
use mathlib.Core.Path.{◌≡◌, refl, sym, ◌∙◌}
use mathlib.Core.Bool.{Bool, true, false, cond}
use mathlib.Core.List.{List}
use native.Mathlib.Omega.{arith}
use lib.Dec.{eqb}
use lib.ListN.{length}
use borrow.Author.Tests.{ne_eqb}
use Rattle.header.specs.declared.Header.{Header}
use Rattle.unit.specs.Unit.{RU_START, cells_made}
use Rattle.unit.proofs.UnitLaws.{cells_made_lem}
use Rattle.answers.specs.Answers.{accepted, refused}
use Rattle.end.specs.Outcome.{nothing, a_unit, length_out, cells_out, Decision, done_of}

-- no unit goes; or this one, and there is room for it
pub data Makes (d : Decision) (n : ℕ) (h : Header) (ru : List ℕ) (room : ℕ) : Type 0 where
  none : d.out ≡ nothing → Makes d n h ru room
  one : d.refusal ≡ 0 → d.out ≡ a_unit n h ru → RU_START + length ru ≤ room → Makes d n h ru room

none_said' : (b : Bool) (d : Decision) → d.out ≡ nothing → (cond b (accepted (length_out d.out)) (refused d.refusal)).unit ≡ 0
none_said' true d o = rw o
none_said' false d o = refl

none_said : (d : Decision) → d.out ≡ nothing → (done_of d).answer.unit ≡ 0
none_said d o = none_said' (eqb d.refusal 0) d o

one_said : (d : Decision) (n : ℕ) (h : Header) (ru : List ℕ) → d.refusal ≡ 0 → d.out ≡ a_unit n h ru → (done_of d).answer.unit ≡ RU_START + length ru
one_said d n h ru r o = rw (r, o)

-- the answer's length says which
pub stays : (d : Decision) (n : ℕ) (h : Header) (ru : List ℕ) (room : ℕ) → Makes d n h ru room → (done_of d).answer.unit ≡ 0 → d.out ≡ nothing
stays d n h ru room (none o) z = o
stays d n h ru room (one r o l) z = absurd (let f = sym (one_said d n h ru r o) ∙ z in omega arith)

pub goes : (d : Decision) (n : ℕ) (h : Header) (ru : List ℕ) (room : ℕ) → Makes d n h ru room → ((done_of d).answer.unit ≡ 0 → ⊥)
    → (d.out ≡ a_unit n h ru) × (RU_START + length ru ≤ room)
goes d n h ru room (none o) z = absurd (z (none_said d o))
goes d n h ru room (one r o l) z = (o, l)

-- written by that length, the cells are the definition's
pub wrote : (d : Decision) (n : ℕ) (h : Header) (ru cells : List ℕ) → Makes d n h ru (length cells)
    → cond (eqb (done_of d).answer.unit 0) cells (cells_made n h ru cells) ≡ cells_out d.out cells
wrote d n h ru cells (none o) = rw (none_said d o, o)
wrote d n h ru cells (one r o l) =
    rw (one_said d n h ru r o, o, ne_eqb (RU_START + length ru) 0 (λ z. omega arith), cells_made_lem n h ru cells l)
