-- Every call keeps the expedited half of two joined ends: a request to send and the takes on the expedited lane move it on, and no other call touches it.
-- Assumes nothing.
use Rattle.joined.proofs.JoinedWords.{ℕ, Bool, true, false, cond, List, [], ◌∷◌, ◌++◌, append-nil, ◌≡◌, refl, sym, subst}
use Rattle.joined.proofs.JoinedWords.{Station, Reply, Verb, Lane, normal, expedited, acts, takes, Acted, Took, is_breach, request_cases}
use Rattle.joined.proofs.JoinedWords.{expedited_cases, length, Expedited, Session, Buffers, OpeningAccepted, opened_with, opened_is}
use Rattle.end.specs.Record.{record_good, unit_lent}
use Rattle.end.specs.ReceiveExpedited.{receive_expedited_refusal}
use Rattle.calls.specs.Calls.{Called, called}
use Rattle.calls.specs.ExpeditedLaws.{NothingExpedited}
use Rattle.calls.proofs.ExpeditedLaws.{others, other_takes}
use Rattle.joined.proofs.CallsOnLanes.{LanedTake}
use Rattle.joined.proofs.Courses.{Halves, halves_fresh, halves_made, halves_told, halves_cleared, all_yes}

-- the expedited half of two ends
abbrev pub HalvesOf : Station → Station → List (List ℕ) → List (List ℕ) → Type 0
HalvesOf e f line back = Halves e.end.expedited f.end.expedited line back

module _ (e f : Station) (line back : List (List ℕ)) (h : HalvesOf e f line back) where
  abbrev After : Called → Type 0
  After m = Halves m.end.end.expedited f.end.expedited (line ++ m.expedited) back

  untouched : (m : Called) → NothingExpedited e m → After m
  untouched m n =
      subst (λ (x : Expedited). Halves x f.end.expedited (line ++ m.expedited) back) (sym n.kept)
      (subst (λ (us : List (List ℕ)). HalvesOf e f (line ++ us) back) (sym n.sent)
      (subst (λ (us : List (List ℕ)). HalvesOf e f us back) (sym (append-nil line)) h))

  requests : After (called e Verb.request_to_send)
  requests = request_cases After e (λ q n. rw append-nil h) (λ a. halves_made e.end.expedited f.end.expedited line back a.quiet h)

  abbrev Acted' : Acted Lane Station Reply (List ℕ) → Type 0
  Acted' m = HalvesOf m.end f (line ++ m.sent expedited) back

  pub halves_acts : (v : Verb) → Acted' (acts e v)
  unfolding acts
  halves_acts Verb.request_to_send = requests
  halves_acts Verb.allocate = untouched _ (others e Verb.allocate refl)
  halves_acts Verb.confirmed = untouched _ (others e Verb.confirmed refl)
  halves_acts Verb.send_error = untouched _ (others e Verb.send_error refl)
  halves_acts Verb.send_pacing_response = untouched _ (others e Verb.send_pacing_response refl)
  halves_acts Verb.withdraw = untouched _ (others e Verb.withdraw refl)
  halves_acts (Verb.send_data bytes) = untouched _ (others e (Verb.send_data bytes) refl)
  halves_acts (Verb.close x b) = untouched _ (others e (Verb.close x b) refl)
  halves_acts (Verb.defer d) = untouched _ (others e (Verb.defer d) refl)
  halves_acts (Verb.receive buffer) = untouched _ (others e (Verb.receive buffer) refl)

  -- a take on the normal lane
  pub halves_takes : (u : List ℕ) → HalvesOf (takes normal e u).end f (line ++ (takes normal e u).sent expedited) back
  unfolding takes
  halves_takes u = untouched _ (other_takes e u)

-- a take on the expedited lane, on which u waits before us
module _ (e f : Station) (line : List (List ℕ)) (u : List ℕ) (us : List (List ℕ)) (h : HalvesOf e f line (u ∷ us)) where
  abbrev Left : Took Lane Station Reply (List ℕ) → Type 0
  Left t = HalvesOf t.end f (line ++ t.sent expedited) (cond t.removed us (u ∷ us))

  pub halves_takes_expedited : Left (takes expedited e u)
  unfolding takes
  halves_takes_expedited =
      let x = e.end.expedited in
      let y = f.end.expedited in
      expedited_cases (LanedTake Left) e u (λ q w n. rw (n, append-nil line) h) (λ a k. halves_told x y line u us h k)
      (λ a k. rw (append-nil line) (halves_cleared x y line u us h k))

  four_or_five : (lent good : Bool) → is_breach (cond lent (cond good 0 5) 4) ≡ false
  four_or_five true true = refl
  four_or_five true false = refl
  four_or_five false good = refl

  -- it is refused with 4 or 5 alone
  pub no_expedited_breach : is_breach (receive_expedited_refusal e.end u (length e.unit)) ≡ false
  unfolding receive_expedited_refusal
  no_expedited_breach =
      rw (all_yes e.end.expedited f.end.expedited line u us h) (four_or_five (unit_lent e.end (length e.unit)) (record_good e.end))

-- at two opened ends nothing is on its way
pub halves_opened : (s t : Session) (b c : Buffers) → OpeningAccepted s b → OpeningAccepted t c → HalvesOf (opened_with s b).end (opened_with t c).end [] []
halves_opened s t b c x y =
    rw (
      (opened_is s (length b.send) (length b.unit) (length b.inbox) x).1,
      (opened_is t (length c.send) (length c.unit) (length c.inbox) y).1,
    )
    halves_fresh
