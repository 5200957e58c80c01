-- The bid: made and unanswered, or none, as an automaton over the units that wait for an end.
-- Assumes nothing.
use Rattle.joined.proofs.JoinedWords.{ℕ, eqb, Bool, true, false, cond, List, [], ◌∷◌, ◌++◌, ◌≡◌, refl, sym, subst, never, Header, unit_of}
use Rattle.joined.proofs.JoinedWords.{is_first_speaker, Role, FirstSpeaker, Bidder, End}
use Rattle.header.specs.declared.Header.TheVariants.{Data, Bid, ErrorDescription, PositiveBidResponse, NegativeBidResponse, Confirmation}
use Rattle.header.specs.declared.Header.TheVariants.{NegativeConfirmation, PacingResponse}
use Rattle.joined.proofs.LineAutomaton.{Ran, ok, stuck, ok_is, went}
use Rattle.joined.proofs.TwoLines.{other, other_other, Automaton, Led, led_moved}

-- no bid, or one of this number that has no answer yet
pub data Pending : Type 0 where
  none : Pending
  some : ℕ → Pending

-- a first speaker has no bid between two calls, since it answers one as it takes it; a bidder has its flag
abbrev pub bid_at : Role → Bool → ℕ → Pending
bid_at FirstSpeaker flag n = none
bid_at Bidder flag n = cond flag (some n) none

abbrev pub bid_of : End → Pending
bid_of e = bid_at e.control.role e.control.bid e.bidding

-- ---- the automaton

-- a bid comes to a first speaker, and none is before it
abbrev pub bid_moves : Role → Pending → Bool
bid_moves FirstSpeaker none = true
bid_moves FirstSpeaker (some k) = false
bid_moves Bidder p = false

-- an answer comes to the bidder, under the bid's number
abbrev pub answer_moves : Role → Pending → ℕ → Bool
answer_moves FirstSpeaker p n = false
answer_moves Bidder none n = false
answer_moves Bidder (some k) n = eqb n k

abbrev pub bid_on : Role → Pending → Header → ℕ → Ran Pending
bid_on r p (Data d) n = ok p
bid_on r p (Bid b) n = cond (bid_moves r p) (ok (some n)) stuck
bid_on r p (ErrorDescription b) n = ok p
bid_on r p PositiveBidResponse n = cond (answer_moves r p n) (ok none) stuck
bid_on r p NegativeBidResponse n = cond (answer_moves r p n) (ok none) stuck
bid_on r p Confirmation n = ok p
bid_on r p NegativeConfirmation n = ok p
bid_on r p PacingResponse n = ok p

-- ---- bids that no unit changes

abbrev pub settled : Role → Pending → Bool
settled FirstSpeaker none = false
settled FirstSpeaker (some k) = true
settled Bidder none = true
settled Bidder (some k) = false

settled_bid : {X : Type 0} (r : Role) (p : Pending) → settled r p ≡ true → bid_moves r p ≡ true → X
settled_bid FirstSpeaker none s e = never s
settled_bid FirstSpeaker (some k) s e = never e
settled_bid Bidder p s e = never e

settled_answer : {X : Type 0} (r : Role) (p : Pending) (n : ℕ) → settled r p ≡ true → answer_moves r p n ≡ true → X
settled_answer FirstSpeaker p n s e = never e
settled_answer Bidder none n s e = never e
settled_answer Bidder (some k) n s e = never s

pub settled_on :
    (r : Role) (p p' : Pending) → settled r p ≡ true → (h : Header) (n : ℕ) (t : Pending)
    → bid_on r p h n ≡ ok t → (t ≡ p) × (bid_on r p' h n ≡ ok p')
settled_on r p p' s (Data d) n t e = (sym (ok_is e), refl)
settled_on r p p' s (Bid b) n t e = settled_bid r p s (went (bid_moves r p) (some n) t e).0
settled_on r p p' s (ErrorDescription b) n t e = (sym (ok_is e), refl)
settled_on r p p' s PositiveBidResponse n t e = settled_answer r p n s (went (answer_moves r p n) none t e).0
settled_on r p p' s NegativeBidResponse n t e = settled_answer r p n s (went (answer_moves r p n) none t e).0
settled_on r p p' s Confirmation n t e = (sym (ok_is e), refl)
settled_on r p p' s NegativeConfirmation n t e = (sym (ok_is e), refl)
settled_on r p p' s PacingResponse n t e = (sym (ok_is e), refl)

-- ---- the bids of two joined ends

abbrev pub bids : Automaton Role Pending
bids =
    record {
      partner = other;
      partner_partner = other_other;
      on = bid_on;
      settled = settled;
      stays = settled_on;
      Fit = λ r p q. p ≡ q;
      turned = λ r p q e. sym e;
    }

-- once all units that wait are taken, the bids are the same
abbrev pub Bids : Role → Pending → Pending → List (List ℕ) → List (List ℕ) → Type 0
Bids = Led bids

-- an end whose bid is settled changes it, and makes the unit that changes its partner's
pub bids_moved :
    {r : Role} {p q : Pending} {line back : List (List ℕ)} (n : ℕ) (h : Header) (ru : List ℕ) (p' : Pending)
    → settled r p ≡ true → bid_on (other r) p h n ≡ ok p'
    → Bids r p q line back → Bids r p' q (line ++ (unit_of n h ru ∷ [])) back
bids_moved {r} n h ru p' s g i =
    led_moved n h ru p' s (λ v e. (p', (subst (λ (w : Pending). bid_on (other r) w h n ≡ ok p') e g, refl))) i

-- ---- the bid of an end

-- a bid comes to a first speaker only
pub bid_speaker : (r : Role) (p : Pending) → bid_moves r p ≡ true → is_first_speaker r ≡ true
bid_speaker FirstSpeaker p e = refl
bid_speaker Bidder p e = never e

-- an answer only to a bidder with the flag, under the number that it noted
pub answer_flag : (r : Role) (flag : Bool) (k n : ℕ) → answer_moves r (bid_at r flag k) n ≡ true → (flag ≡ true) × (eqb n k ≡ true)
answer_flag FirstSpeaker flag k n e = never e
answer_flag Bidder true k n e = (refl, e)
answer_flag Bidder false k n e = never e

pub bid_off : (r : Role) (k : ℕ) → bid_at r false k ≡ none
bid_off FirstSpeaker k = refl
bid_off Bidder k = refl
