-- Lists of calls in another order between the ends, in which every take finds a unit.
-- Assumes nothing.
use Prim.Native.Nat.{ℕ}
use mathlib.Core.Path.{◌≡◌, refl, ap}
use mathlib.Core.List.{List, [], ◌∷◌}
use Rattle.joined.specs.Joined.{Call, act, take, At, first, second, firsts, seconds, Some, step, Ready, AllFed}
use Rattle.joined.specs.Ends.{Lane, same_lane, acts, takes}
use Rattle.claim_in_use.specs.OtherWords.{Ends, Interleaves, none, at_first, at_second, TakesFind}
use Rattle.calls.specs.Calls.{Verb}

pub firsts_are : {xs ys : List (Call Lane Verb)} {l : List (At Lane Verb)} → Interleaves xs ys l → firsts l ≡ xs
firsts_are none = refl
firsts_are (at_first {c} i) = ap (λ (r : List (Call Lane Verb)). c ∷ r) (firsts_are i)
firsts_are (at_second i) = firsts_are i

pub seconds_are : {xs ys : List (Call Lane Verb)} {l : List (At Lane Verb)} → Interleaves xs ys l → seconds l ≡ ys
seconds_are none = refl
seconds_are (at_first i) = seconds_are i
seconds_are (at_second {c} i) = ap (λ (r : List (Call Lane Verb)). c ∷ r) (seconds_are i)

found : (us : List (List ℕ)) → (us ≡ [] → ⊥) → Some us
found [] h = absurd (h refl)
found (u ∷ us) h = tt

ready : (p : Ends) (c : At Lane Verb) (l : List (At Lane Verb)) → TakesFind p (c ∷ l) → Ready same_lane acts takes p c
ready p (first (act v)) l h = tt
ready p (first (take k)) l h = found (p.one.waiting k) (h.one k [] l refl)
ready p (second (act v)) l h = tt
ready p (second (take k)) l h = found (p.two.waiting k) (h.two k [] l refl)

pub fed : (p : Ends) (l : List (At Lane Verb)) → TakesFind p l → AllFed same_lane acts takes p l
fed p [] h = tt
fed p (c ∷ l) h = (
  ready p c l h,
  fed (step same_lane acts takes p c) l
      (record {
        one = λ k before behind e z. h.one k (c ∷ before) behind (ap (λ (r : List (At Lane Verb)). c ∷ r) e) z;
        two = λ k before behind e z. h.two k (c ∷ before) behind (ap (λ (r : List (At Lane Verb)). c ∷ r) e) z;
      }),
)
