-- What two joined ends hold of each other: a state at each end, led on by the units that wait for it, until the two states fit.
-- Assumes nothing.
use Rattle.joined.proofs.JoinedWords.{ℕ, Bool, true, cond, List, [], ◌∷◌, ◌++◌, ◌≡◌, refl, sym, ap, ◌∙◌, subst, Header, unit_of, number_in, unit_number}
use Rattle.joined.proofs.JoinedWords.{Role, FirstSpeaker, Bidder, header_received, taken_header}
use Rattle.joined.proofs.LineAutomaton.{Ran, ok, stuck, went, goes, Leads, leads_nowhere, leads_more, parted, leads_less, inert}

-- the partner's role
abbrev pub other : Role → Role
other FirstSpeaker = Bidder
other Bidder = FirstSpeaker

pub other_other : (r : Role) → other (other r) ≡ r
other_other FirstSpeaker = refl
other_other Bidder = refl

-- An automaton of the states S over the units that wait for an end; which end, R tells.
pub record Automaton (R S : Type 0) : Type 1 where
  pub partner : R → R
  pub partner_partner : (r : R) → partner (partner r) ≡ r
  -- the state after a unit, by its header and its number
  pub on : R → S → Header → ℕ → Ran S
  -- the states that no unit changes: a unit that is taken there changes no state
  pub settled : R → S → Bool
  pub stays :
      (r : R) (s s' : S) → settled r s ≡ true → (h : Header) (n : ℕ) (t : S) → on r s h n ≡ ok t → (t ≡ s) × (on r s' h n ≡ ok s')
  -- how the states of the two ends fit, the first at the end that R tells; seen from the other end too
  pub Fit : R → S → S → Type 0
  pub turned : (r : R) (x y : S) → Fit r x y → Fit (partner r) y x

unfoldable pub step : {R S : Type 0} → Automaton R S → R → S → List ℕ → Ran S
step A r s u = A.on r s (header_received u) (number_in u)

-- The states x and y of two joined ends, the first of which is r: `line` waits for y's end, `back` for x's.
-- Once all of it is taken, the states fit.
pub record Led {R S : Type 0} (A : Automaton R S) (r : R) (x y : S) (line back : List (List ℕ)) : Type 0 where
  pub here : S
  pub there : S
  pub mine : Leads (step A r) x back here
  pub theirs : Leads (step A (A.partner r)) y line there
  pub fit : A.Fit r here there

-- ---- the step by a header that is known

module _ {R S : Type 0} (A : Automaton R S) (r : R) (s : S) where
  made : (n : ℕ) (h : Header) (ru : List ℕ) → step A r s (unit_of n h ru) ≡ A.on r s h n
  unfolding step
  made n h ru =
      ap (λ (k : Header). A.on r s k (number_in (unit_of n h ru))) (taken_header n h ru) ∙ ap (A.on r s h) (unit_number n h ru)

  taken : (u : List ℕ) (h : Header) → header_received u ≡ h → step A r s u ≡ A.on r s h (number_in u)
  unfolding step
  taken u h e = ap (λ (k : Header). A.on r s k (number_in u)) e

  -- a settled state is the state after the line, and no other is changed by what waits there
  settled_stays : {us : List (List ℕ)} {t : S} (s' : S) → A.settled r s ≡ true → Leads (step A r) s us t → (t ≡ s) × Leads (step A r) s' us s'
  unfolding step
  settled_stays s' q l = inert s s' (λ u t e. A.stays r s s' q (header_received u) (number_in u) t e) l

-- ---- what keeps the states led to a fit

-- nothing is under way
pub led_nowhere : {R S : Type 0} {A : Automaton R S} {r : R} {x y : S} → A.Fit r x y → Led A r x y [] []
led_nowhere {x = x} {y = y} f = record { here = x; there = y; mine = leads_nowhere; theirs = leads_nowhere; fit = f }

module _ {R S : Type 0} {A : Automaton R S} {r : R} {x y : S} {line back : List (List ℕ)} where
  -- seen from the other end
  pub led_flip : Led A r x y line back → Led A (A.partner r) y x back line
  led_flip i =
      record {
        here = i.there;
        there = i.here;
        mine = i.theirs;
        theirs = subst (λ (k : R). Leads (step A k) x back i.here) (sym (A.partner_partner r)) i.mine;
        fit = A.turned r i.here i.there i.fit;
      }

  -- the same state in another form
  pub led_as : {x' : S} → x ≡ x' → Led A r x y line back → Led A r x' y line back
  led_as e i = subst (λ (v : S). Led A r v y line back) e i

  -- a unit is made that changes no state
  pub led_past :
      (n : ℕ) (h : Header) (ru : List ℕ) → ((v : S) → A.on (A.partner r) v h n ≡ ok v)
      → Led A r x y line back → Led A r x y (line ++ (unit_of n h ru ∷ [])) back
  led_past n h ru g i =
      record {
        here = i.here;
        there = i.there;
        mine = i.mine;
        theirs = leads_more i.theirs (made A (A.partner r) i.there n h ru ∙ g i.there);
        fit = i.fit;
      }

  -- the first unit is taken
  pub led_took :
      {u : List ℕ} {h : Header} (v : S) → header_received u ≡ h → A.on r x h (number_in u) ≡ ok v
      → Led A r x y line (u ∷ back) → Led A r v y line back
  led_took {u} {h} v e g i =
      record {
        here = i.here;
        there = i.there;
        mine = leads_less v i.mine (taken A r x u h e ∙ g);
        theirs = i.theirs;
        fit = i.fit;
      }

  -- where it is taken only if a test holds, the test holds
  pub led_goes :
      {u : List ℕ} {h : Header} (b : Bool) (v : S) → header_received u ≡ h → A.on r x h (number_in u) ≡ cond b (ok v) stuck
      → Led A r x y line (u ∷ back) → (b ≡ true) × Led A r v y line back
  led_goes {u} {h} b v e g i =
      let q = parted i.mine in
      let w = (went b v q.via (sym g ∙ (sym (taken A r x u h e) ∙ q.head))).0 in
      (w, led_took v e (g ∙ goes b v w) i)

  -- an end in a settled state knows its partner's: it changes its own, and makes a unit that changes the partner's
  pub led_moved :
      (n : ℕ) (h : Header) (ru : List ℕ) (x' : S) → A.settled r x ≡ true
      → ((v : S) → A.Fit r x v → (w : S) × ((A.on (A.partner r) v h n ≡ ok w) × A.Fit r x' w))
      → Led A r x y line back → Led A r x' y (line ++ (unit_of n h ru ∷ [])) back
  led_moved n h ru x' q g i =
      let s = settled_stays A r x x' q i.mine in
      let w = g i.there (subst (λ (v : S). A.Fit r v i.there) s.0 i.fit) in
      record {
        here = x';
        there = w.0;
        mine = s.1;
        theirs = leads_more i.theirs (made A (A.partner r) i.there n h ru ∙ w.1.0);
        fit = w.1.1;
      }

  -- or makes none
  pub led_still :
      (x' : S) → A.settled r x ≡ true → ((v : S) → A.Fit r x v → A.Fit r x' v) → Led A r x y line back → Led A r x' y line back
  led_still x' q g i =
      let s = settled_stays A r x x' q i.mine in
      record {
        here = x';
        there = i.there;
        mine = s.1;
        theirs = i.theirs;
        fit = g i.there (subst (λ (v : S). A.Fit r v i.there) s.0 i.fit);
      }

  -- two settled states fit as they are
  pub led_settled : A.settled r x ≡ true → A.settled (A.partner r) y ≡ true → Led A r x y line back → A.Fit r x y
  led_settled p q i =
      let s = settled_stays A r x x p i.mine in
      let t = settled_stays A (A.partner r) y y q i.theirs in
      subst (λ (v : S). A.Fit r x v) t.0 (subst (λ (v : S). A.Fit r v i.there) s.0 i.fit)
