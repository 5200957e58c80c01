-- Data with BB that comes to a bidder in Reset, and data without that comes to an end in Receive, fit role and state (25, 26); checked by computation.
-- Assumes nothing.
use mathlib.Core.Path.{◌≡◌, refl, ap}
use mathlib.Core.Bool.{Bool, true, not, cond, ◌&&◌, ◌||◌}
use Rattle.bools.proofs.Tests.{both, or_right}
use Rattle.bools.proofs.Finite.{pairs, bools}
use Rattle.control.specs.StateTests.{is_bidder, is_reset, is_receive, agree}
use Rattle.control.specs.declared.Role.{Role}
use Rattle.control.specs.declared.State.{State}
use Rattle.control.proofs.FiniteControl.{roles, states}

abbrev data_fits : Role × (State × Bool) → Bool
data_fits v =
    let r = v.0 in
    let s = v.1.0 in
    let bb = v.1.1 in
    not (cond bb (is_reset s && is_bidder r) (is_receive s)) || (agree bb (is_bidder r && is_reset s) && (is_receive s || (is_reset s && bb)))

pub data_fits_lem :
    (r : Role) (s : State) (bb : Bool) → cond bb (is_reset s && is_bidder r) (is_receive s) ≡ true
    → (agree bb (is_bidder r && is_reset s) ≡ true) × (is_receive s || (is_reset s && bb) ≡ true)
data_fits_lem r s bb e =
    both (agree bb (is_bidder r && is_reset s)) (is_receive s || (is_reset s && bb))
    (or_right _ _ ((pairs roles (pairs states bools)).at data_fits refl (r, (s, bb))) (ap not e))
