-- The error header stands where it is announced: at both ends and on the lines, after every list of calls.
-- Assumes nothing.
use Rattle.joined.proofs.JoinedWords.{ℕ, length, Bool, true, false, cond, List, [], ◌∷◌, ◌++◌, ◌≡◌, refl, sym, ap, ◌∙◌, subst, never, Session}
use Rattle.joined.proofs.JoinedWords.{Station, Reply, Verb, opened_is, Lane, normal, acts, takes, same_lane, Buffers, OpeningAccepted, opened_with}
use Rattle.joined.proofs.JoinedWords.{opened_both, Log, Lines, acted, took, Took, expedited, expedited_cases}
use mathlib.Core.List.{append_assoc}
use Rattle.joined.specs.Denials.{units_made, units_taken, announced_behind, announced, AsAnnounced, Denials, TheDenials}
use Rattle.joined.specs.Claim.{JoinedEnd}
use Rattle.joined.proofs.EveryList.{Fact, Keeps, AfterAct, AfterTake, run_ways}
use Rattle.joined.proofs.CallsOnLanes.{LanedTake}
use Rattle.joined.proofs.Announced.{Tells, tells_fresh, tells_none, announced_split, as_announced_split}
use Rattle.joined.proofs.AnnouncedKept.{Awaits, tells_acts, tells_takes, awaits_acts, awaits_takes}

-- ---- an end by itself, and one way between two ends

record Alone (e : Station) (xs : Log) : Type 0 where
  tells : Tells e.end.control.error (units_made xs)
  awaits : Awaits (announced false (units_taken xs)) e.end.control

record OneWay (e : Station) (xs : Log) (line : List (List ℕ)) (ys : Log) : Type 0 where
  alone : Alone e xs
  conserved : units_made xs ≡ units_taken ys ++ line

abbrev Held : Fact Lane Station Verb Reply (List ℕ)
Held e xs line back f ys = OneWay e xs (line normal) ys

-- ---- a call

alone_acts : (e : Station) (xs : Log) (v : Verb) → Alone e xs → Alone (acts e v).end (acted v (acts e v).answer (acts e v).sent ∷ xs)
unfolding units_made units_taken
alone_acts e xs v a =
    record { tells = tells_acts e (units_made xs) a.tells v; awaits = awaits_acts e (announced false (units_taken xs)) a.awaits v }

-- what is announced once a take has been accepted or refused
taken_announced : (gone : Bool) (us : List (List ℕ)) (u : List ℕ)
    → announced false (cond gone (us ++ (u ∷ [])) us) ≡ cond gone (announced_behind (announced false us) u) (announced false us)
unfolding announced
taken_announced true us u = announced_split false us (u ∷ [])
taken_announced false us u = refl

alone_takes : (e : Station) (xs : Log) (u : List ℕ) → Alone e xs
    → Alone (takes normal e u).end (took normal u (takes normal e u).answer (takes normal e u).sent ∷ xs)
unfolding units_made units_taken takes
alone_takes e xs u a =
    let t = takes normal e u in
    record {
      tells = tells_takes e (units_made xs) a.tells u;
      awaits =
          subst (λ (x : Bool). Awaits x t.end.end.control) (sym (taken_announced t.removed (units_taken xs) u))
          (awaits_takes e (announced false (units_taken xs)) a.awaits u);
    }

-- a take on the expedited lane is no concern of the normal one
alone_takes_expedited : (e : Station) (xs : Log) (u : List ℕ) → Alone e xs
    → Alone (takes expedited e u).end (took expedited u (takes expedited e u).answer (takes expedited e u).sent ∷ xs)
unfolding units_made units_taken takes
alone_takes_expedited e xs u a =
    expedited_cases (LanedTake (λ (t : Took Lane Station Reply (List ℕ)). Alone t.end (took expedited u t.answer t.sent ∷ xs))) e u
    (λ q w n. record { tells = tells_none a.tells; awaits = a.awaits })
    (λ b k. record { tells = tells_none a.tells; awaits = a.awaits })
    (λ b k. record { tells = tells_none a.tells; awaits = a.awaits })

-- units made join the line
made_joins : (made taken line new : List (List ℕ)) → made ≡ taken ++ line → made ++ new ≡ taken ++ (line ++ new)
made_joins made taken line new e = ap (λ (us : List (List ℕ)). us ++ new) e ∙ append_assoc taken line new

-- the oldest is taken, or stays
taken_leaves : (gone : Bool) (taken us : List (List ℕ)) (u : List ℕ)
    → taken ++ (u ∷ us) ≡ cond gone (taken ++ (u ∷ [])) taken ++ cond gone us (u ∷ us)
taken_leaves true taken us u = sym (append_assoc taken (u ∷ []) us)
taken_leaves false taken us u = refl

act_kept :
    (e : Station) (xs : Log) (line back : Lines Lane (List ℕ)) (f : Station) (ys : Log) (c : Verb)
    → Held e xs line back f ys
    → Held f ys back line e xs
    → AfterAct same_lane acts takes Held Held xs line back f ys c (acts e c)
unfolding units_made units_taken
act_kept e xs line back f ys c i j = (
  record { alone = alone_acts e xs c i.alone; conserved = made_joins (units_made xs) (units_taken ys) (line normal) ((acts e c).sent normal) i.conserved },
  record { alone = j.alone; conserved = j.conserved },
)

take_kept :
    (e : Station) (xs : Log) (line back : Lines Lane (List ℕ)) (f : Station) (ys : Log) (l : Lane) (u : List ℕ) (us : List (List ℕ))
    → back l ≡ u ∷ us
    → Held e xs line back f ys
    → Held f ys back line e xs
    → AfterTake same_lane acts takes Held Held xs line back f ys l u us (takes l e u)
unfolding units_made units_taken takes
take_kept e xs line back f ys normal u us p i j =
    let t = takes normal e u in (
      record { alone = alone_takes e xs u i.alone; conserved = made_joins (units_made xs) (units_taken ys) (line normal) (t.sent normal) i.conserved },
      record {
        alone = j.alone;
        conserved = j.conserved ∙ ap (λ (vs : List (List ℕ)). units_taken xs ++ vs) p ∙ taken_leaves t.removed (units_taken xs) us u;
      },
    )
take_kept e xs line back f ys expedited u us p i j =
    let t = takes expedited e u in (
      record {
        alone = alone_takes_expedited e xs u i.alone;
        conserved = made_joins (units_made xs) (units_taken ys) (line normal) (t.sent normal) i.conserved;
      },
      record { alone = j.alone; conserved = j.conserved },
    )

keeps : Keeps same_lane acts takes Held Held
keeps = record { act_keeps = act_kept; take_keeps = take_kept }

-- ---- from openings

fresh_alone : (s : Session) (b : Buffers) → OpeningAccepted s b → Alone (opened_with s b).end []
unfolding units_made units_taken announced
fresh_alone s b a =
    let e = (opened_is s (length b.send) (length b.unit) (length b.inbox) a).1 in
    record { tells = rw e tells_fresh; awaits = λ y. never y }

denials_of : (x y : JoinedEnd) → OneWay x.end x.log (y.waiting normal) y.log → Alone y.end y.log → Denials x y
denials_of x y i j =
    let q =
    as_announced_split false (units_taken y.log) (y.waiting normal)
    (subst (λ (us : List (List ℕ)). AsAnnounced false us) i.conserved i.alone.tells.made) in
    record {
      conserved = i.conserved;
      made = i.alone.tells.made;
      due = i.alone.tells.due;
      taken = q.0;
      line = q.1;
      waits = j.awaits;
    }

pub the_denials : TheDenials
unfolding units_made units_taken
the_denials s t b c l x y =
    let w =
    run_ways same_lane acts takes Held Held keeps keeps (opened_both s t b c) l (
      record { alone = fresh_alone s b x; conserved = refl },
      record { alone = fresh_alone t c y; conserved = refl },
    ) in
    record { out = denials_of _ _ w.0 w.1.alone; back = denials_of _ _ w.1 w.0.alone }
