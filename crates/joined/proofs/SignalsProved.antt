-- Signals made at one end are those told at the other and those on the line; and a signal is unanswered while it or its response is on a line.
-- Assumes nothing.
use Rattle.joined.proofs.JoinedWords.{ℕ, ◌+◌, Bool, false, cond, List, [], ◌∷◌, ◌++◌, ◌≡◌, refl, sym, ap, ◌∙◌, arith, length}
use Rattle.joined.proofs.JoinedWords.{Station, Reply, Verb, Lane, normal, expedited, acts, takes, same_lane, opened_both}
use Rattle.joined.proofs.JoinedWords.{Log, Lines, Took, count, among, expedited_cases, subst}
use Rattle.header.specs.ExpeditedHeader.{is_signal}
use Rattle.expedited.specs.Takes.{header_taken}
use Rattle.header.specs.declared.ExpeditedHeader.{ExpeditedHeader}
use Rattle.header.specs.declared.ExpeditedHeader.TheVariants.{Signal, SignalResponse}
use Rattle.calls.specs.Calls.{called}
use Rattle.calls.specs.UnitCounts.{is_signal_unit}
use Rattle.calls.proofs.ExpeditedLaws.{silent, silent_take}
use Rattle.joined.specs.Signals.{signals_among, signals_made, signals_told, Signals, TheSignals}
use Rattle.joined.specs.Claim.{JoinedEnd}
use Rattle.joined.proofs.CallsOnLanes.{LanedTake}
use Rattle.joined.proofs.EveryList.{Fact, Keeps, AfterAct, AfterTake, run_ways}
use Rattle.joined.proofs.Courses.{Written, halves_flip, responses_on, signals_counted, course_counted, signal_unit, header_written}
use Rattle.joined.proofs.HalvesKept.{HalvesOf, halves_acts, halves_takes, halves_takes_expedited, halves_opened}

-- ---- a count

signals_append : (us vs : List (List ℕ)) → signals_among (us ++ vs) ≡ signals_among us + signals_among vs
unfolding among
signals_append [] vs = omega arith
signals_append (u ∷ us) vs = let e = signals_append us vs in omega (arith, e)

-- one way: those that x has made are those told at y and those on the line
abbrev Told : Log → Log → List (List ℕ) → Type 0
Told xs ys line = signals_made xs ≡ signals_told ys + signals_among line

abbrev Held : Fact Lane Station Verb Reply (List ℕ)
Held e xs line back f ys = Told xs ys (line expedited) × HalvesOf e f (line expedited) (back expedited)

-- those made join the line
joins : (xs ys : Log) (line new : List (List ℕ)) → Told xs ys line → signals_among new + signals_made xs ≡ signals_told ys + signals_among (line ++ new)
joins xs ys line new t = rw (signals_append line new) (omega (arith, t))

-- ---- a call tells nobody, and no take on the normal lane

-- an answer that tells nobody is not counted
untold : (b : Bool) (made told line : ℕ) → b ≡ false → made ≡ told + line → made ≡ count b + told + line
untold b made told line n t = rw n (omega (arith, t))

act_kept :
    (e : Station) (xs : Log) (line back : Lines Lane (List ℕ)) (f : Station) (ys : Log) (c : Verb)
    → Held e xs line back f ys
    → Held f ys back line e xs
    → AfterAct same_lane acts takes Held Held xs line back f ys c (acts e c)
unfolding signals_made signals_told acts
act_kept e xs line back f ys c i j =
    let m = called e c in
    let h = halves_acts e f (line expedited) (back expedited) i.1 c in (
      (joins xs ys (line expedited) m.expedited i.0, h),
      (untold m.answer.signalled (signals_made ys) (signals_told xs) (signals_among (back expedited)) (silent e c) j.0, halves_flip h),
    )

silent_took : (e : Station) (u : List ℕ) → (takes normal e u).answer.signalled ≡ false
unfolding takes
silent_took e u = silent_take e u

-- ---- a take on the expedited lane: the program is told exactly of a signal that goes from the line

module _ (e : Station) (xs ys : Log) (u : List ℕ) (us : List (List ℕ)) (w : Written u) where
  abbrev Counted : Took Lane Station Reply (List ℕ) → Type 0
  Counted t =
      signals_made ys ≡ signals_told xs + signals_among (u ∷ us)
      → signals_made ys ≡ count t.answer.signalled + signals_told xs + signals_among (cond t.removed us (u ∷ us))

  is_signal_lem : (h : ExpeditedHeader) → header_taken u ≡ h → is_signal_unit u ≡ is_signal h
  is_signal_lem h k =
      ap is_signal_unit w.is ∙ (signal_unit w.number w.header).0
      ∙ ap is_signal (sym (header_written w.number w.header) ∙ ap header_taken (sym w.is) ∙ k)

  counted : Counted (takes expedited e u)
  unfolding takes among
  counted =
      expedited_cases (LanedTake Counted) e u (λ q z n t. rw n (omega (arith, t)))
      (λ a k t. let s = rw (is_signal_lem Signal k) at t in omega (arith, s))
      (λ a k t. let s = rw (is_signal_lem SignalResponse k) at t in omega (arith, s))

take_kept :
    (e : Station) (xs : Log) (line back : Lines Lane (List ℕ)) (f : Station) (ys : Log) (l : Lane) (u : List ℕ) (us : List (List ℕ))
    → back l ≡ u ∷ us
    → Held e xs line back f ys
    → Held f ys back line e xs
    → AfterTake same_lane acts takes Held Held xs line back f ys l u us (takes l e u)
unfolding signals_made signals_told
take_kept e xs line back f ys normal u us p i j =
    let m = takes normal e u in
    let h = halves_takes e f (line expedited) (back expedited) i.1 u in (
      (joins xs ys (line expedited) (m.sent expedited) i.0, h),
      (untold m.answer.signalled (signals_made ys) (signals_told xs) (signals_among (back expedited)) (silent_took e u) j.0, halves_flip h),
    )
take_kept e xs line back f ys expedited u us p i j =
    let m = takes expedited e u in
    let b = subst (λ (vs : List (List ℕ)). HalvesOf e f (line expedited) vs) p i.1 in
    let h = halves_takes_expedited e f (line expedited) u us b in (
      (joins xs ys (line expedited) (m.sent expedited) i.0, h),
      (
        counted e xs ys u us b.back_written.0 (subst (λ (vs : List (List ℕ)). Told ys xs vs) p j.0),
        halves_flip h,
      ),
    )

keeps : Keeps same_lane acts takes Held Held
keeps = record { act_keeps = act_kept; take_keeps = take_kept }

-- ---- from openings

signals_of : (x y : JoinedEnd) → Held x.end x.log y.waiting x.waiting y.end y.log → Signals x y
signals_of x y i =
    let c = course_counted x.end.end.expedited y.end.end.expedited.taken _ _ i.1.out in
    record {
      told = i.0;
      unanswered =
          c ∙ ap (λ (n : ℕ). n + length (responses_on (x.waiting expedited))) (sym (signals_counted (y.waiting expedited) i.1.line_written).0)
          ∙ ap (λ (n : ℕ). signals_among (y.waiting expedited) + n) (sym (signals_counted (x.waiting expedited) i.1.back_written).1);
    }

pub the_signals : TheSignals
unfolding signals_made signals_told among
the_signals s t b c l x y =
    let w =
    run_ways same_lane acts takes Held Held keeps keeps (opened_both s t b c) l (
      (refl, halves_opened s t b c x y),
      (refl, halves_opened t s c b y x),
    ) in
    record { out = signals_of _ _ w.0; back = signals_of _ _ w.1 }
