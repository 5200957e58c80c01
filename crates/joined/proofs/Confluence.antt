-- Lists with the same calls in the same order at each end leave the same ends, lines and answers, whatever the lanes,
-- if neither takes with nothing waiting.
-- Assumes nothing.
use Rattle.joined.proofs.JoinedWords.{Bool, true, false, cond, Discrete, List, [], ◌∷◌, ◌++◌, ◌≡◌, refl, sym, ap, ◌∙◌, subst, fun_ext, Acted, Took, At}
use Rattle.joined.proofs.JoinedWords.{Call, act, first, second, Both, Local, Event, took, take_oldest, apply, step, run, Lines, join, put}
use mathlib.Core.List.{nil≢cons, head-eq_of_cons-eq, tail-eq_of_cons-eq}
use Rattle.joined.specs.Lanes.{chosen}
use Rattle.joined.specs.Joined.{take, firsts, seconds, Some, Fed, deliver, here, AllFed}

cond_append : {A : Type 0}
    (b : Bool) (x y z : List A) → cond b (x ++ z) (y ++ z) ≡ cond b x y ++ z
cond_append true x y z = refl
cond_append false x y z = refl

some_more : {U : Type 0} (us more : List U) → Some us → Some (us ++ more)
some_more [] more h = absurd h
some_more (u ∷ us) more h = tt

fed_more : {L C U : Type 0} (w more : Lines L U) (c : Call L C) → Fed w c → Fed (join w more) c
fed_more w more (act c) h = tt
fed_more w more (take l) h = some_more (w l) (more l) h

put_more_at :
    {L U : Type 0} (more : Lines L U) (l k : L) (d : Dec (k ≡ l)) (us vs : List U)
    → chosen d (us ++ more l) (vs ++ more k) ≡ chosen d us vs ++ more k
put_more_at more l k (yes p) us vs = ap (λ x. us ++ more x) (sym p)
put_more_at more l k (no n) us vs = refl

-- more units behind the line put at a lane, and behind every other
put_more :
    {L U : Type 0} (same : Discrete L) (l : L) (us : List U) (w more : Lines L U)
    → put same l (us ++ more l) (join w more) ≡ join (put same l us w) more
put_more same l us w more = fun_ext (λ k. put_more_at more l k (same k l) us (w k))

-- the list without its first call at the first end, and at the second
without_first : {L C : Type 0} → List (At L C) → List (At L C)
without_first [] = []
without_first (first c ∷ l) = l
without_first (second c ∷ l) = second c ∷ without_first l

without_second : {L C : Type 0} → List (At L C) → List (At L C)
without_second [] = []
without_second (first c ∷ l) = first c ∷ without_second l
without_second (second c ∷ l) = l

without_first_keeps :
    {L C : Type 0} (l : List (At L C)) (c : Call L C) (cs : List (Call L C))
    → firsts l ≡ c ∷ cs
    → (firsts (without_first l) ≡ cs) × (seconds (without_first l) ≡ seconds l)
unfolding without_first
without_first_keeps [] c cs e = absurd (nil≢cons e)
without_first_keeps (first d ∷ l) c cs e = (tail-eq_of_cons-eq e, refl)
without_first_keeps (second d ∷ l) c cs e =
    let q = without_first_keeps l c cs e in
    (q.0, ap (d ∷◌) q.1)

without_second_keeps :
    {L C : Type 0} (l : List (At L C)) (c : Call L C) (cs : List (Call L C))
    → seconds l ≡ c ∷ cs
    → (firsts (without_second l) ≡ firsts l) × (seconds (without_second l) ≡ cs)
unfolding without_second
without_second_keeps [] c cs e = absurd (nil≢cons e)
without_second_keeps (first d ∷ l) c cs e =
    let q = without_second_keeps l c cs e in
    (ap (d ∷◌) q.0, q.1)
without_second_keeps (second d ∷ l) c cs e = (refl, tail-eq_of_cons-eq e)

-- a list with no call at either end is empty
empty : {L C : Type 0} (m : List (At L C)) → firsts [] ≡ firsts m → seconds [] ≡ seconds m → m ≡ []
empty [] f g = refl
empty (first c ∷ m) f g = absurd (nil≢cons f)
empty (second c ∷ m) f g = absurd (nil≢cons g)

module _ {L : Type 0} (same : Discrete L) {S C R U : Type 0} (acts : S → C → Acted L S R U) (takes : L → S → U → Took L S R U) where
  -- the local result with more units at the ends of the lines
  more_local : Lines L U → Local L S C R U → Local L S C R U
  more_local more x = record { side = deliver more x.side; sent = x.sent }

  -- units that join the lines behind a take that is fed do not change what it does
  take_more :
      (e : S) (es : List (Event L C R U)) (w more : Lines L U) (l : L) (us : List U)
      → Some us
      → take_oldest same acts takes e es (join w more) l (us ++ more l) ≡ more_local more (take_oldest same acts takes e es w l us)
  unfolding more_local
  take_more e es w more l [] h = absurd h
  take_more e es w more l (u ∷ us) h =
      let t = takes l e u in
      let kept = cond t.removed us (u ∷ us) in
      ap (λ v. record { side = record { end = t.end; waiting = v; log = took l u t.answer t.sent ∷ es }; sent = t.sent })
      (ap (λ v. put same l v (join w more)) (cond_append t.removed us (u ∷ us) (more l)) ∙ put_more same l kept w more)

  -- so it is with every call
  apply_more :
      (e : S) (es : List (Event L C R U)) (w more : Lines L U) (c : Call L C)
      → Fed w c
      → apply same acts takes e es (join w more) c ≡ more_local more (apply same acts takes e es w c)
  unfolding more_local
  apply_more e es w more (act c) h = refl
  apply_more e es w more (take l) h = take_more e es w more l (w l) h

  -- what the two calls leave, in either order
  crossed : Both L S C R U → Call L C → Call L C → Both L S C R U
  crossed s c d =
      let x = here same acts takes s.one c in
      let y = here same acts takes s.two d in
      record { one = deliver y.sent x.side; two = deliver x.sent y.side }

  first_second :
      (s : Both L S C R U) (c d : Call L C)
      → Fed s.two.waiting d
      → step same acts takes (step same acts takes s (first c)) (second d) ≡ crossed s c d
  unfolding crossed more_local
  first_second s c d h =
      let x = here same acts takes s.one c in
      ap (λ y. record { one = deliver y.sent x.side; two = y.side }) (apply_more s.two.end s.two.log s.two.waiting x.sent d h)

  second_first :
      (s : Both L S C R U) (c d : Call L C)
      → Fed s.one.waiting c
      → step same acts takes (step same acts takes s (second d)) (first c) ≡ crossed s c d
  unfolding crossed more_local
  second_first s c d h =
      let y = here same acts takes s.two d in
      ap (λ x. record { one = x.side; two = deliver x.sent y.side }) (apply_more s.one.end s.one.log s.one.waiting y.sent c h)

  commute :
      (s : Both L S C R U) (c d : Call L C)
      → Fed s.one.waiting c
      → Fed s.two.waiting d
      → step same acts takes (step same acts takes s (second d)) (first c) ≡ step same acts takes (step same acts takes s (first c)) (second d)
  commute s c d hc hd = second_first s c d hc ∙ sym (first_second s c d hd)

  -- what is left of a list once its first call at one end was made before the others
  record Pulled (s t : Both L S C R U) (l m : List (At L C)) : Type 0 where
    fed : AllFed same acts takes t m
    equal : run same acts takes t m ≡ run same acts takes s l

  pull_first :
      (s : Both L S C R U) (l : List (At L C)) (c : Call L C) (cs : List (Call L C))
      → firsts l ≡ c ∷ cs
      → Fed s.one.waiting c
      → AllFed same acts takes s l
      → Pulled s (step same acts takes s (first c)) l (without_first l)
  unfolding without_first
  pull_first s [] c cs e hc hl = absurd (nil≢cons e)
  pull_first s (first d ∷ l) c cs e hc hl =
      subst (λ x. Pulled s (step same acts takes s (first x)) (first d ∷ l) l) (head-eq_of_cons-eq e) (record { fed = hl.1; equal = refl })
  pull_first s (second d ∷ l) c cs e hc hl =
      let r = pull_first (step same acts takes s (second d)) l c cs e (fed_more s.one.waiting (here same acts takes s.two d).sent c hc) hl.1 in
      let q = subst (λ t. Pulled (step same acts takes s (second d)) t l (without_first l)) (commute s c d hc hl.0) r in
      record { fed = (fed_more s.two.waiting (here same acts takes s.one c).sent d hl.0, q.fed); equal = q.equal }

  pull_second :
      (s : Both L S C R U) (l : List (At L C)) (c : Call L C) (cs : List (Call L C))
      → seconds l ≡ c ∷ cs
      → Fed s.two.waiting c
      → AllFed same acts takes s l
      → Pulled s (step same acts takes s (second c)) l (without_second l)
  unfolding without_second
  pull_second s [] c cs e hc hl = absurd (nil≢cons e)
  pull_second s (second d ∷ l) c cs e hc hl =
      subst (λ x. Pulled s (step same acts takes s (second x)) (second d ∷ l) l) (head-eq_of_cons-eq e) (record { fed = hl.1; equal = refl })
  pull_second s (first d ∷ l) c cs e hc hl =
      let r = pull_second (step same acts takes s (first d)) l c cs e (fed_more s.two.waiting (here same acts takes s.one d).sent c hc) hl.1 in
      let q = subst (λ t. Pulled (step same acts takes s (first d)) t l (without_second l)) (sym (commute s d c hl.0 hc)) r in
      record { fed = (fed_more s.one.waiting (here same acts takes s.two c).sent d hl.0, q.fed); equal = q.equal }

  -- THE CLAIM: the order between the ends does not matter
  pub confluent :
      (s : Both L S C R U) (l m : List (At L C))
      → firsts l ≡ firsts m
      → seconds l ≡ seconds m
      → AllFed same acts takes s l
      → AllFed same acts takes s m
      → run same acts takes s l ≡ run same acts takes s m
  confluent s [] m f g hl hm = rw (empty m f g)
  confluent s (first c ∷ l) m f g hl hm =
      let q = pull_first s m c (firsts l) (sym f) hl.0 hm in
      let (f', g') = without_first_keeps m c (firsts l) (sym f) in
      confluent (step same acts takes s (first c)) l (without_first m) (sym f') (g ∙ sym g') hl.1 q.fed ∙ q.equal
  confluent s (second c ∷ l) m f g hl hm =
      let q = pull_second s m c (seconds l) (sym g) hl.0 hm in
      let (f', g') = without_second_keeps m c (seconds l) (sym g) in
      confluent (step same acts takes s (second c)) l (without_second m) (f ∙ sym f') (sym g') hl.1 q.fed ∙ q.equal
