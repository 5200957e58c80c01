-- Pacing between two joined ends: the flag of a pacing request that is unanswered, at the sending end, and of an answer that is owed, at the receiving end, as
-- an automaton over the units that wait for an end.
-- Assumes nothing.
use Rattle.joined.proofs.JoinedWords.{ℕ, Bool, true, false, not, cond, ◌||◌, List, [], ◌∷◌, ◌++◌, ◌≡◌, refl, sym, subst, never, cases, Header, unit_of}
use Rattle.joined.proofs.JoinedWords.{agree, header_received, Sort, sort_of, is_pacing, bit_of}
use Rattle.control.proofs.Agree.{agrees}
use Rattle.joined.proofs.LineAutomaton.{Ran, ok, stuck, stuck≢ok, ok_is}
use Rattle.joined.proofs.TwoLines.{Automaton, Led, led_nowhere, led_flip, led_past, led_took, led_goes, led_moved}

-- ---- the automaton

-- the sending end of a way, and its receiving end
pub data Way : Type 0 where
  out into : Way

abbrev pub other_end : Way → Way
other_end out = into
other_end into = out

pub other_end_other_end : (w : Way) → other_end (other_end w) ≡ w
other_end_other_end out = refl
other_end_other_end into = refl

-- the units that move the flag: a pacing response, and a request with the pacing bit
abbrev pub moves : Way → Sort → Bool
moves out k = is_pacing k
moves into k = bit_of k

-- the flag that such a unit finds: a request is unanswered, no answer is owed
abbrev pub before : Way → Bool
before out = true
before into = false

abbrev pub flag_on : Way → Bool → Header → ℕ → Ran Bool
flag_on w x h n = cond (moves w (sort_of h)) (cond (agree x (before w)) (ok (not x)) stuck) (ok x)

-- with nothing unanswered no pacing response is on its way, and with an answer owed no request with the pacing bit
abbrev pub settled : Way → Bool → Bool
settled w x = agree x (before (other_end w))

pub settled_stays : (w : Way) (b x x' : Bool) → settled w x ≡ true → (t : Bool)
    → cond b (cond (agree x (before w)) (ok (not x)) stuck) (ok x) ≡ ok t
    → (t ≡ x) × (cond b (cond (agree x' (before w)) (ok (not x')) stuck) (ok x') ≡ ok x')
settled_stays w false x x' q t e = (sym (ok_is e), refl)
settled_stays out true true x' q t e = never q
settled_stays out true false x' q t e = absurd (stuck≢ok e)
settled_stays into true true x' q t e = absurd (stuck≢ok e)
settled_stays into true false x' q t e = never q

abbrev pub flags : Automaton Way Bool
flags =
    record {
      partner = other_end;
      partner_partner = other_end_other_end;
      on = flag_on;
      settled = settled;
      stays = λ w x x' q h n t e. settled_stays w (moves w (sort_of h)) x x' q t e;
      Fit = λ w x y. x ≡ y;
      turned = λ w x y e. sym e;
    }

-- ---- one way

module _ {w : Way} {x y : Bool} {line back : List (List ℕ)} where
  -- a unit is made: one that moves the partner's flag only where the flag here is settled, which it moves too
  flag_made : (n : ℕ) (h : Header) (ru : List ℕ) → (moves (other_end w) (sort_of h) ≡ true → settled w x ≡ true)
      → Led flags w x y line back → Led flags w (cond (moves (other_end w) (sort_of h)) (not x) x) y (line ++ (unit_of n h ru ∷ [])) back
  flag_made n h ru f i =
      cases (λ (z : Bool). Led flags w z y (line ++ (unit_of n h ru ∷ [])) back) (moves (other_end w) (sort_of h))
      (λ e. led_moved n h ru (not x) (f e) (λ v p. (not x, (rw (← p, e, f e), refl))) i) (λ e. led_past n h ru (λ v. rw e) i)

  -- the oldest unit is taken: one that moves the flag finds it as it must be
  flag_fits : {u : List ℕ} → Led flags w x y line (u ∷ back) → moves w (sort_of (header_received u)) ≡ true → agree x (before w) ≡ true
  flag_fits i e = (led_goes (agree x (before w)) (not x) refl (rw e) i).0

  flag_took : {u : List ℕ} → Led flags w x y line (u ∷ back) → Led flags w (cond (moves w (sort_of (header_received u))) (not x) x) y line back
  flag_took {u} i =
      cases (λ (z : Bool). Led flags w z y line back) (moves w (sort_of (header_received u)))
      (λ e. (led_goes (agree x (before w)) (not x) refl (rw e) i).1) (λ e. led_took x refl (rw e) i)

-- ---- both ways

-- the flags of an end and of its partner: what is unanswered, and what is owed
pub record Paces (unanswered owed unanswered' owed' : Bool) (line back : List (List ℕ)) : Type 0 where
  pub sending : Led flags out unanswered owed' line back
  pub receiving : Led flags into owed unanswered' line back

pub paces_fresh : Paces false false false false [] []
paces_fresh = record { sending = led_nowhere refl; receiving = led_nowhere refl }

-- a flag that was off is on after a request with the pacing bit
raised : (b x : Bool) → (b ≡ true → x ≡ false) → cond b (not x) x ≡ (x || b)
raised true true f = sym (f refl)
raised true false f = refl
raised false true f = refl
raised false false f = refl

module _ {x o x' o' : Bool} {line back : List (List ℕ)} where
  pub paces_flip : Paces x o x' o' line back → Paces x' o' x o back line
  paces_flip p = record { sending = led_flip p.receiving; receiving = led_flip p.sending }

  -- a unit goes out that is no pacing response: a request with the pacing bit only where none is unanswered
  pub paces_out : (n : ℕ) (h : Header) (ru : List ℕ) → is_pacing (sort_of h) ≡ false → (bit_of (sort_of h) ≡ true → x ≡ false)
      → Paces x o x' o' line back → Paces (x || bit_of (sort_of h)) o x' o' (line ++ (unit_of n h ru ∷ [])) back
  paces_out n h ru k f p =
      record {
        sending =
            subst (λ (z : Bool). Led flags out z o' (line ++ (unit_of n h ru ∷ [])) back) (raised (bit_of (sort_of h)) x f)
            (flag_made n h ru (λ e. rw (f e)) p.sending);
        receiving = led_past n h ru (λ v. rw k) p.receiving;
      }

  -- an end that owes an answer makes it
  pub paces_answer : (n : ℕ) (h : Header) (ru : List ℕ) → is_pacing (sort_of h) ≡ true → bit_of (sort_of h) ≡ false → o ≡ true
      → Paces x o x' o' line back → Paces x false x' o' (line ++ (unit_of n h ru ∷ [])) back
  paces_answer n h ru k b e p =
      record {
        sending = led_past n h ru (λ v. rw b) p.sending;
        receiving = rw (k, e) at (flag_made n h ru (λ z. rw e) p.receiving);
      }

  module _ {u : List ℕ} (p : Paces x o x' o' line (u ∷ back)) where
    -- a request with the pacing bit finds no answer owed, and a pacing response a request unanswered
    pub paces_owed : bit_of (sort_of (header_received u)) ≡ true → o ≡ false
    paces_owed e = agrees o false (flag_fits p.receiving e)

    pub paces_unanswered : is_pacing (sort_of (header_received u)) ≡ true → x ≡ true
    paces_unanswered e = agrees x true (flag_fits p.sending e)

    pub paces_took : Paces (cond (is_pacing (sort_of (header_received u))) (not x) x) (o || bit_of (sort_of (header_received u))) x' o' line back
    paces_took =
        record {
          sending = flag_took p.sending;
          receiving = subst (λ (z : Bool). Led flags into z x' line back) (raised (bit_of (sort_of (header_received u))) o paces_owed) (flag_took p.receiving);
        }
