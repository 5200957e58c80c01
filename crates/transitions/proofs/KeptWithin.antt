-- Every transition keeps what question 5 says of the finite part and of the bytes held, checked by computation at every value of it.
-- Assumes nothing.
use mathlib.Core.Path.{◌≡◌, refl}
use mathlib.Core.Bool.{Bool, true, false, not, cond, ◌&&◌}
use Rattle.bools.proofs.Cases.{never}
use Rattle.bools.proofs.Tests.{left, right, join}
use Rattle.bools.proofs.Finite.{at_bool, bools, pairs}
use Rattle.header.proofs.FiniteHeader.{follows, ends}
use Rattle.header.specs.declared.Follows.{Follows}
use Rattle.header.specs.declared.ChainEnd.{ChainEnd}
use Rattle.control.specs.StateTests.{is_defer, holds_send, is_nothing}
use Rattle.control.specs.Questions.{may_allocate, may_send, may_withdraw, may_confirm, state_fits, positive_response_fits, negative_response_fits, confirmation_fits}
use Rattle.control.specs.Within.{control_good, may_hold}
use Rattle.control.specs.declared.Role.{Role}
use Rattle.control.specs.declared.Control.{Control}
use Rattle.control.specs.declared.Deferred.{Deferred}
use Rattle.control.specs.declared.Deferred.TheVariants as deferral
use Rattle.control.proofs.FiniteControl.{roles, all_controls, at_control}
use Rattle.control.proofs.Within.{held_fits, within}
use Rattle.transitions.specs.Transitions.{fresh, allocated, spilled, deferred, withdrawn, closed, confirmation_made, mark_answered, data_received}
use Rattle.transitions.specs.Transitions.{bid_received, positive_response_received, negative_response_received, confirmation_received}
use Rattle.transitions.specs.Transitions.{confirmation_denied, error_made, error_received, negative_confirmation_received}

abbrev implies : Bool → Bool → Bool
implies a b = cond a b true

implied : (a b : Bool) → implies a b ≡ true → a ≡ true → b ≡ true
implied true b e h = e
implied false b e h = never h

-- where a question is answered yes, the transition keeps it, the bytes held being as they were
keeps : (Control → Bool) → (Control → Control) → Bool → Bool
keeps asked next =
    all_controls (λ c. implies (asked c && control_good c) (bools.all (λ some. bools.all (λ none. implies (held_fits c some none) (within (next c) some none)))))

kept : (asked : Control → Bool) (next : Control → Control) → ((chain : Bool) → keeps asked next chain ≡ true)
    → (c : Control) (some none : Bool) → asked c ≡ true → within c some none ≡ true → within (next c) some none ≡ true
unfolding keeps
kept asked next t c some none a w =
    let inner : Bool → Bool → Bool = λ some none. implies (held_fits c some none) (within (next c) some none) in
    let t₁ =
    implied (asked c && control_good c) (bools.all (λ some. bools.all (λ none. inner some none)))
    (at_control
    (λ c. implies (asked c && control_good c) (bools.all (λ some. bools.all (λ none. implies (held_fits c some none) (within (next c) some none)))))
    t c)
    (join (asked c) (control_good c) a (left (control_good c) (held_fits c some none) w)) in
    implied (held_fits c some none) (within (next c) some none)
    (at_bool (λ none. inner some none) (at_bool (λ some. bools.all (λ none. inner some none)) t₁ some) none)
    (right (control_good c) (held_fits c some none) w)

-- where bytes are given or go out, the bytes held are others
leaves : (Control → Bool) → (Control → Control) → Bool → Bool → Bool → Bool
leaves asked next some none = all_controls (λ c. implies (asked c && control_good c) (within (next c) some none))

left_so : (asked : Control → Bool) (next : Control → Control) (some none : Bool) → ((chain : Bool) → leaves asked next some none chain ≡ true)
    → (c : Control) → asked c ≡ true → control_good c ≡ true → within (next c) some none ≡ true
unfolding leaves
left_so asked next some none t c a g =
    implied (asked c && control_good c) (within (next c) some none)
    (at_control (λ c. implies (asked c && control_good c) (within (next c) some none)) t c) (join (asked c) (control_good c) a g)

-- ---- every transition

allocated_checked : (chain : Bool) → keeps may_allocate allocated chain ≡ true
unfolding keeps control_good allocated
allocated_checked chain = refl

pub allocated_keeps : (c : Control) (some none : Bool) → may_allocate c ≡ true → within c some none ≡ true → within (allocated c) some none ≡ true
allocated_keeps = kept may_allocate allocated allocated_checked

confirmed_checked : (chain : Bool) → keeps may_confirm confirmation_made chain ≡ true
unfolding keeps control_good confirmation_made
confirmed_checked chain = refl

pub confirmed_keeps : (c : Control) (some none : Bool) → may_confirm c ≡ true → within c some none ≡ true → within (confirmation_made c) some none ≡ true
confirmed_keeps = kept may_confirm confirmation_made confirmed_checked

abbrev marked : Control → Bool
marked c = not (is_nothing c.mark)

answered_checked : (chain : Bool) → keeps marked mark_answered chain ≡ true
unfolding keeps control_good mark_answered
answered_checked chain = refl

pub answered_keeps : (c : Control) (some none : Bool) → not (is_nothing c.mark) ≡ true → within c some none ≡ true → within (mark_answered c) some none ≡ true
answered_keeps = kept marked mark_answered answered_checked

abbrev any : Control → Bool
any c = true

bid_checked : (chain : Bool) → keeps any bid_received chain ≡ true
unfolding keeps control_good bid_received
bid_checked chain = refl

pub bid_keeps : (c : Control) (some none : Bool) → within c some none ≡ true → within (bid_received c) some none ≡ true
bid_keeps c some none w = kept any bid_received bid_checked c some none refl w

positive_response_checked : (chain : Bool) → keeps positive_response_fits positive_response_received chain ≡ true
unfolding keeps control_good positive_response_received
positive_response_checked chain = refl

pub positive_response_keeps :
    (c : Control) (some none : Bool) → positive_response_fits c ≡ true → within c some none ≡ true → within (positive_response_received c) some none ≡ true
positive_response_keeps = kept positive_response_fits positive_response_received positive_response_checked

negative_response_checked : (chain : Bool) → keeps negative_response_fits negative_response_received chain ≡ true
unfolding keeps control_good negative_response_received
negative_response_checked chain = refl

pub negative_response_keeps :
    (c : Control) (some none : Bool) → negative_response_fits c ≡ true → within c some none ≡ true → within (negative_response_received c) some none ≡ true
negative_response_keeps = kept negative_response_fits negative_response_received negative_response_checked

confirmation_checked : (chain : Bool) → keeps confirmation_fits confirmation_received chain ≡ true
unfolding keeps control_good confirmation_received
confirmation_checked chain = refl

pub confirmation_keeps :
    (c : Control) (some none : Bool) → confirmation_fits c ≡ true → within c some none ≡ true → within (confirmation_received c) some none ≡ true
confirmation_keeps = kept confirmation_fits confirmation_received confirmation_checked

-- what is prepared is in Defer
pub deferred_defers : (d : Deferred) (c : Control) → is_defer (deferred d c).state ≡ true
unfolding deferred
deferred_defers deferral.Turn c = refl
deferred_defers deferral.End c = refl

deferred_checked : (d : Deferred) (chain : Bool) → keeps may_send (deferred d) chain ≡ true
unfolding keeps control_good deferred
deferred_checked deferral.Turn chain = refl
deferred_checked deferral.End chain = refl

pub deferred_keeps : (d : Deferred) (c : Control) (some none : Bool) → may_send c ≡ true → within c some none ≡ true → within (deferred d c) some none ≡ true
deferred_keeps d = kept may_send (deferred d) (deferred_checked d)

withdrawn_checked : (chain : Bool) → keeps may_withdraw withdrawn chain ≡ true
unfolding keeps control_good withdrawn
withdrawn_checked chain = refl

pub withdrawn_keeps : (c : Control) (some none : Bool) → may_withdraw c ≡ true → within c some none ≡ true → within (withdrawn c) some none ≡ true
withdrawn_keeps = kept may_withdraw withdrawn withdrawn_checked

denied_checked : (chain : Bool) → keeps may_confirm confirmation_denied chain ≡ true
unfolding keeps control_good confirmation_denied
denied_checked chain = refl

pub denied_keeps : (c : Control) (some none : Bool) → may_confirm c ≡ true → within c some none ≡ true → within (confirmation_denied c) some none ≡ true
denied_keeps = kept may_confirm confirmation_denied denied_checked

abbrev erring : Control → Bool
erring c = c.error

error_made_checked : (chain : Bool) → keeps erring error_made chain ≡ true
unfolding keeps control_good error_made
error_made_checked chain = refl

pub error_made_keeps : (c : Control) (some none : Bool) → c.error ≡ true → within c some none ≡ true → within (error_made c) some none ≡ true
error_made_keeps = kept erring error_made error_made_checked

-- an error header comes only in Receive
error_checked : (chain : Bool) → keeps (state_fits false) error_received chain ≡ true
unfolding keeps control_good error_received
error_checked chain = refl

pub error_keeps : (c : Control) (some none : Bool) → state_fits false c ≡ true → within c some none ≡ true → within (error_received c) some none ≡ true
error_keeps = kept (state_fits false) error_received error_checked

negative_confirmation_checked : (chain : Bool) → keeps confirmation_fits negative_confirmation_received chain ≡ true
unfolding keeps control_good negative_confirmation_received
negative_confirmation_checked chain = refl

pub negative_confirmation_keeps :
    (c : Control) (some none : Bool) → confirmation_fits c ≡ true → within c some none ≡ true → within (negative_confirmation_received c) some none ≡ true
negative_confirmation_keeps = kept confirmation_fits negative_confirmation_received negative_confirmation_checked

-- data comes only outside Send and Defer
abbrev pub not_sending : Control → Bool
not_sending c = not (holds_send c.state)

data_checked : (e : ChainEnd) (chain : Bool) → keeps not_sending (data_received e) chain ≡ true
unfolding keeps control_good data_received
data_checked e chain = ends.at (λ e. keeps not_sending (data_received e) chain) refl e

pub data_keeps :
    (ends : ChainEnd) (c : Control) (some none : Bool) → not_sending c ≡ true → within c some none ≡ true → within (data_received ends c) some none ≡ true
data_keeps ends = kept not_sending (data_received ends) (data_checked ends)

-- bytes given: some are held then
abbrev same : Control → Control
same c = c

given_checked : (chain : Bool) → leaves may_send same true false chain ≡ true
unfolding leaves control_good
given_checked chain = refl

pub given_leaves : (c : Control) → may_send c ≡ true → control_good c ≡ true → within c true false ≡ true
given_leaves = left_so may_send same true false given_checked

spilled_checked : (chain : Bool) → leaves may_send spilled true false chain ≡ true
unfolding leaves control_good spilled
spilled_checked chain = refl

pub spilled_leaves : (c : Control) → may_send c ≡ true → control_good c ≡ true → within (spilled c) true false ≡ true
spilled_leaves = left_so may_send spilled true false spilled_checked

-- after a last unit none is held, no error being due
abbrev holding : Control → Bool
holding c = may_hold c

closed_checked : (f : Follows) (b : Bool) (chain : Bool) → leaves holding (closed f b) false true chain ≡ true
unfolding leaves control_good closed
closed_checked f b chain = (pairs follows bools).at (λ p. leaves holding (closed p.0 p.1) false true chain) refl (f, b)

pub closed_leaves : (f : Follows) (b : Bool) (c : Control) → may_hold c ≡ true → control_good c ≡ true → within (closed f b c) false true ≡ true
closed_leaves f b = left_so holding (closed f b) false true (closed_checked f b)

-- as opened none is held
pub fresh_within : (r : Role) → within (fresh r) false true ≡ true
unfolding control_good
fresh_within = roles.at (λ r. within (fresh r) false true) refl
