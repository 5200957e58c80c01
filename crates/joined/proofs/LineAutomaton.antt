-- An automaton over the units of a line: it goes on from unit to unit, or is stuck at one.
-- Assumes nothing.
use Rattle.joined.proofs.JoinedWords.{Bool, true, false, cond, List, [], ◌∷◌, ◌++◌, ◌≡◌, refl, sym, subst, never}

pub data Ran (S : Type 0) : Type 0 where
  ok : S → Ran S
  stuck : Ran S

pub stuck≢ok : {S : Type 0} {s : S} → ◌≡◌ {A = Ran S} stuck (ok s) → ⊥
stuck≢ok e = cc

pub ok_is : {S : Type 0} {s t : S} → ◌≡◌ {A = Ran S} (ok s) (ok t) → s ≡ t
ok_is e = cc

-- a step that is taken only if a test holds
pub went : {S : Type 0} (b : Bool) (x t : S) → cond b (ok x) stuck ≡ ok t → (b ≡ true) × (x ≡ t)
went true x t e = (refl, ok_is e)
went false x t e = absurd (stuck≢ok e)

pub goes : {S : Type 0} (b : Bool) (x : S) → b ≡ true → cond b (ok x) stuck ≡ ok x
goes true x e = refl
goes false x e = never e

abbrev pub go_on : {S U : Type 0} → (S → U → Ran S) → Ran S → List U → Ran S
go_on step r [] = r
go_on step (ok s) (u ∷ us) = go_on step (step s u) us
go_on step stuck (u ∷ us) = stuck

-- the line us leads the automaton from s to t
pub record Leads {S U : Type 0} (step : S → U → Ran S) (s : S) (us : List U) (t : S) : Type 0 where
  pub path : go_on step (ok s) us ≡ ok t

-- a unit leads it from s to v, and the rest of the line from there to t
pub record Parted {S U : Type 0} (step : S → U → Ran S) (s : S) (u : U) (us : List U) (t : S) : Type 0 where
  pub via : S
  pub head : step s u ≡ ok via
  pub rest : Leads step via us t

more :
    {S U : Type 0} (step : S → U → Ran S) (r : Ran S) (us : List U) (t v : S) (u : U)
    → go_on step r us ≡ ok t
    → step t u ≡ ok v
    → go_on step r (us ++ (u ∷ [])) ≡ ok v
more {S} step (ok s) [] t v u e f = subst (λ (x : S). step x u ≡ ok v) (sym (ok_is e)) f
more step stuck [] t v u e f = absurd (stuck≢ok e)
more step (ok s) (w ∷ us) t v u e f = more step (step s w) us t v u e f
more step stuck (w ∷ us) t v u e f = absurd (stuck≢ok e)

parted_at :
    {S U : Type 0} (step : S → U → Ran S) (r : Ran S) (s : S) (u : U) (us : List U) (t : S)
    → step s u ≡ r
    → go_on step r us ≡ ok t
    → Parted step s u us t
parted_at step (ok v) s u us t e f = record { via = v; head = e; rest = record { path = f } }
parted_at step stuck s u [] t e f = absurd (stuck≢ok f)
parted_at step stuck s u (w ∷ us) t e f = absurd (stuck≢ok f)

module _ {S U : Type 0} {step : S → U → Ran S} where
  pub leads_nowhere : {s : S} → Leads step s [] s
  leads_nowhere = record { path = refl }

  -- one unit more at the end of the line
  pub leads_more : {s t v : S} {us : List U} {u : U} → Leads step s us t → step t u ≡ ok v → Leads step s (us ++ (u ∷ [])) v
  leads_more {s} {t} {v} {us} {u} l f = record { path = more step (ok s) us t v u l.path f }

  -- one unit less at its front
  pub parted : {s t : S} {u : U} {us : List U} → Leads step s (u ∷ us) t → Parted step s u us t
  parted {s} {t} {u} {us} l = parted_at step (step s u) s u us t refl l.path

  -- the rest of the line, once the first unit is known to lead to v
  pub leads_less : {s t : S} {u : U} {us : List U} (v : S) → Leads step s (u ∷ us) t → step s u ≡ ok v → Leads step v us t
  leads_less {s} {t} {u} {us} v l f = record { path = subst (λ (r : Ran S). go_on step r us ≡ ok t) f l.path }

  inert_over :
      (us : List U) (t s s' : S)
      → ((u : U) (t : S) → step s u ≡ ok t → (t ≡ s) × (step s' u ≡ ok s'))
      → Leads step s us t
      → (t ≡ s) × Leads step s' us s'
  inert_over [] t s s' h l = (sym (ok_is l.path), record { path = refl })
  inert_over (u ∷ us) t s s' h l =
      let q = parted l in
      let p = h u q.via q.head in
      let r : Leads step s us t = subst (λ (x : S). Leads step x us t) p.0 q.rest in
      let i = inert_over us t s s' h r in
      (i.0, record { path = subst (λ (x : Ran S). go_on step x us ≡ ok s') (sym p.1) i.1.path })

  -- a state that no unit leaves is the state after the line, and so is any other that the same units do not leave
  pub inert :
      {us : List U} {t : S} (s s' : S)
      → ((u : U) (t : S) → step s u ≡ ok t → (t ≡ s) × (step s' u ≡ ok s'))
      → Leads step s us t
      → (t ≡ s) × Leads step s' us s'
  inert {us} {t} s s' h l = inert_over us t s s' h l
