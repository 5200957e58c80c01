-- Chains: the unit that begins one, and the chain that a last unit leaves as it was.
-- Assumes nothing.
use mathlib.Core.Path.{◌≡◌, refl}
use mathlib.Core.Bool.{Bool, true, false, not, cond}
use Rattle.bools.proofs.Cases.{cases}
use Rattle.header.specs.Header.{is_first}
use Rattle.header.specs.declared.ChainBegin.TheVariants.{Continued, First, FirstWithBracket}
use Rattle.header.specs.declared.Follows.{Follows}
use Rattle.control.specs.declared.Control.{Control}
use Rattle.transitions.specs.Transitions.{begin_of, closed}

-- a unit is first in its chain exactly where no chain is open
first_of : (open' due : Bool) → is_first (cond open' Continued (cond due FirstWithBracket First)) ≡ not open'
first_of true due = refl
first_of false true = refl
first_of false false = refl

pub begins_first : (c : Control) → is_first (begin_of c) ≡ not c.outchain
begins_first c = first_of c.outchain c.due

-- a last unit leaves the receiving chain
pub closed_in : (f : Follows) (b : Bool) (c : Control) → (closed f b c).inchain ≡ c.inchain
unfolding closed
closed_in f b c = cases (λ (d : Control). d.inchain ≡ c.inchain) b (λ y. refl) (λ n. refl)
