-- The order of a conversation at two joined ends: floors and bids fit, whatever is still under way.
-- Assumes nothing.
use Rattle.joined.proofs.JoinedWords.{Expedited, with_expedited}
use Rattle.joined.proofs.JoinedWords.{ℕ, eqb, Bool, true, false, cond, ◌&&◌, List, [], ◌∷◌, ◌≡◌, refl, sym, ap, ◌∙◌, subst, on, left, begins_bracket, DataHeader}
use Rattle.joined.proofs.JoinedWords.{Header, number_in, confirmation_fits, is_bidder, is_reset, is_receive, is_confirm_awaited, is_nothing, holds_send, Role}
use Rattle.joined.proofs.JoinedWords.{FirstSpeaker}
use Rattle.joined.proofs.JoinedWords.{Bidder, State, mark_of, header_received, End, fresh_end}
use Rattle.header.specs.declared.Header.TheVariants.{Data, Bid, ErrorDescription, PositiveBidResponse, NegativeBidResponse, Confirmation}
use Rattle.header.specs.declared.Header.TheVariants.{NegativeConfirmation}
use Rattle.control.specs.Questions.{bracket_fits, bid_fits, state_fits, positive_response_fits, negative_response_fits}
use Rattle.joined.proofs.LineAutomaton.{ok, stuck}
use Rattle.control.proofs.DataFits.{data_fits_lem}
use Rattle.joined.proofs.TwoLines.{other, other_other, led_nowhere, led_flip, led_as, led_goes, led_settled}
use Rattle.joined.proofs.Floor.{Floor, send_bb, send, receive, after_mark_floor, floor_at, floor_of, is_reset_floor, awaits_confirmation, data_moves}
use Rattle.joined.proofs.Floor.{positive_response_moves, confirmed_floor, Floors, quiet_sending, not_both_send, is_receive_floor, unmarked_floor}
use Rattle.joined.proofs.Floor.{holding_floor}
use Rattle.joined.proofs.Bids.{Pending, none, some, bid_of, bid_moves, answer_moves, bid_on, Bids, bid_speaker, answer_flag}

-- Two joined ends: e has the role r and f the other one, `line` waits for f and `back` for e.
pub record Order (r : Role) (e f : End) (line back : List (List ℕ)) : Type 0 where
  pub role : e.control.role ≡ r
  pub partner : f.control.role ≡ other r
  pub floors : Floors r (floor_of e) (floor_of f) line back
  pub bids : Bids r (bid_of e) (bid_of f) line back

-- ---- seen from the other end, and at the start

pub order_flip : {r : Role} {e f : End} {line back : List (List ℕ)} → Order r e f line back → Order (other r) f e back line
order_flip {r} i =
    record { role = i.partner; partner = i.role ∙ sym (other_other r); floors = led_flip i.floors; bids = led_flip i.bids }

-- what an end keeps of the expedited lanes is not looked at
pub order_apart : {r : Role} {e f : End} {line back : List (List ℕ)} {x : Expedited} → Order r e f line back → Order r (with_expedited x e) f line back
order_apart i = record { role = i.role; partner = i.partner; floors = i.floors; bids = i.bids }

pub order_fresh :
    (w m w' m' inbox v k v' k' inbox' : ℕ)
    → Order FirstSpeaker (fresh_end FirstSpeaker w m w' m' inbox) (fresh_end Bidder v k v' k' inbox') [] []
order_fresh w m w' m' inbox v k v' k' inbox' =
    record { role = refl; partner = refl; floors = led_nowhere refl; bids = led_nowhere refl }

-- the floor of an end whose state is known
pub floor_in : (e : End) (s : State) → e.control.state ≡ s
    → floor_of e ≡ floor_at s e.control.due e.control.follows e.control.mark e.owed e.sending.number
floor_in e s p = ap (λ (k : State). floor_at k e.control.due e.control.follows e.control.mark e.owed e.sending.number) p

-- the floor of an end that holds send state
pub floor_holding : (e : End) → holds_send e.control.state ≡ true → floor_of e ≡ cond e.control.due send_bb send
floor_holding e h =
    let c = e.control in
    holding_floor c.state c.due c.follows c.mark e.owed e.sending.number h

-- ---- what the first unit tells of the end that it waits for, and what is left of floor and bid once it is taken

module _ {r : Role} {e f : End} {u : List ℕ} {line back : List (List ℕ)} (i : Order r e f line (u ∷ back)) where
  pub data_moves_lem :
      (d : DataHeader) → header_received u ≡ Data d
      → (data_moves r (floor_of e) (begins_bracket d.begins) ≡ true)
      × Floors r (after_mark_floor (mark_of d.ends) (number_in u)) (floor_of f) line back
  data_moves_lem d h = led_goes (data_moves r (floor_of e) (begins_bracket d.begins)) (after_mark_floor (mark_of d.ends) (number_in u)) h refl i.floors

  pub bid_moves_lem : (b : Bool) → header_received u ≡ Bid b → (bid_moves r (bid_of e) ≡ true) × Bids r (some (number_in u)) (bid_of f) line back
  bid_moves_lem b h = led_goes (bid_moves r (bid_of e)) (some (number_in u)) h refl i.bids

  pub positive_response_moves_lem : header_received u ≡ PositiveBidResponse → (positive_response_moves r (floor_of e) ≡ true) × Floors r send (floor_of f) line back
  positive_response_moves_lem h = led_goes (positive_response_moves r (floor_of e)) send h refl i.floors

  -- a positive and a negative bid response answer the bid alike
  pub bid_answered_lem : (h : Header) → ((p : Pending) (n : ℕ) → bid_on r p h n ≡ cond (answer_moves r p n) (ok none) stuck) → header_received u ≡ h
      → (answer_moves r (bid_of e) (number_in u) ≡ true) × Bids r none (bid_of f) line back
  bid_answered_lem h on e' = led_goes (answer_moves r (bid_of e) (number_in u)) none e' (on (bid_of e) (number_in u)) i.bids

  pub confirmation_moves :
      header_received u ≡ Confirmation
      → (awaits_confirmation (floor_of e) (number_in u) ≡ true) × Floors r (confirmed_floor (floor_of e)) (floor_of f) line back
  confirmation_moves h = led_goes (awaits_confirmation (floor_of e) (number_in u)) (confirmed_floor (floor_of e)) h refl i.floors

  pub error_moves : (b : Bool) → header_received u ≡ ErrorDescription b → (is_receive_floor (floor_of e) ≡ true) × Floors r receive (floor_of f) line back
  error_moves b h = led_goes (is_receive_floor (floor_of e)) receive h refl i.floors

  pub denial_moves :
      header_received u ≡ NegativeConfirmation → (awaits_confirmation (floor_of e) (number_in u) ≡ true) × Floors r receive (floor_of f) line back
  denial_moves h = led_goes (awaits_confirmation (floor_of e) (number_in u)) receive h refl i.floors

  -- what the floor tells of the state, no mark standing
  unmarked : is_nothing e.control.mark ≡ true
      → (is_reset_floor (floor_of e) ≡ is_reset e.control.state) × (is_receive_floor (floor_of e) ≡ is_receive e.control.state)
      × (awaits_confirmation (floor_of e) (number_in u) ≡ is_confirm_awaited e.control.state && eqb (number_in u) e.sending.number)
  unmarked m =
      let c = e.control in
      unmarked_floor c.state c.due c.follows c.mark e.owed e.sending.number (number_in u) m

  -- the flag is on and the number is the bid's
  flagged : answer_moves r (bid_of e) (number_in u) ≡ true → e.control.bid && eqb (number_in u) e.bidding ≡ true
  flagged a =
      let c = e.control in
      let b = answer_flag c.role c.bid e.bidding (number_in u)
      (subst (λ (x : Role). answer_moves x (bid_of e) (number_in u) ≡ true) (sym i.role) a) in
      rw b.0 b.1

  -- 25 and 26, of data
  pub order_fits_data :
      (d : DataHeader) → is_nothing e.control.mark ≡ true → header_received u ≡ Data d
      → (bracket_fits (begins_bracket d.begins) e.control ≡ true) × (state_fits (begins_bracket d.begins) e.control ≡ true)
  order_fits_data d m h =
      let c = e.control in
      let x = unmarked m in
      data_fits_lem c.role c.state (begins_bracket d.begins) (rw (i.role, ← x.0, ← x.1) (data_moves_lem d h).0)

  pub error_receives : (b : Bool) → is_nothing e.control.mark ≡ true → header_received u ≡ ErrorDescription b → is_receive e.control.state ≡ true
  error_receives b m h = sym (unmarked m).1 ∙ (error_moves b h).0

  -- 25 and 26, of an error header
  pub order_fits_error :
      (b : Bool) → is_nothing e.control.mark ≡ true → header_received u ≡ ErrorDescription b
      → (bracket_fits false e.control ≡ true) × (state_fits false e.control ≡ true)
  order_fits_error b m h =
      let c = e.control in
      data_fits_lem c.role c.state false (error_receives b m h)

  -- 25, of a bid
  pub order_fits_bid : (b : Bool) → header_received u ≡ Bid b → bid_fits e.control ≡ true
  order_fits_bid b h = rw i.role (bid_speaker r (bid_of e) (bid_moves_lem b h).0)

  -- 28
  pub order_fits_positive_response :
      is_nothing e.control.mark ≡ true → header_received u ≡ PositiveBidResponse → positive_response_fits e.control && eqb (number_in u) e.bidding ≡ true
  order_fits_positive_response m h =
      rw (← (unmarked m).0, left (is_reset_floor (floor_of e)) (is_bidder r) (positive_response_moves_lem h).0)
      (flagged (bid_answered_lem PositiveBidResponse (λ p n. refl) h).0)

  pub order_fits_negative_response : header_received u ≡ NegativeBidResponse → negative_response_fits e.control && eqb (number_in u) e.bidding ≡ true
  order_fits_negative_response h = flagged (bid_answered_lem NegativeBidResponse (λ p n. refl) h).0

  pub order_fits_confirmation :
      is_nothing e.control.mark ≡ true → header_received u ≡ Confirmation → confirmation_fits e.control && eqb (number_in u) e.sending.number ≡ true
  order_fits_confirmation m h = sym (unmarked m).2 ∙ (confirmation_moves h).0

  pub order_fits_denial :
      is_nothing e.control.mark ≡ true → header_received u ≡ NegativeConfirmation
      → confirmation_fits e.control && eqb (number_in u) e.sending.number ≡ true
  order_fits_denial m h = sym (unmarked m).2 ∙ (denial_moves h).0

-- ---- never both in send state

pub not_both :
    {r : Role} {e f : End} {line back : List (List ℕ)} → Order r e f line back
    → holds_send e.control.state ≡ true → holds_send f.control.state ≡ true → ⊥
not_both {r} {e} {f} {line} {back} i p q =
    let x : Floor = cond e.control.due send_bb send in
    let y : Floor = cond f.control.due send_bb send in
    let w : Floors r x y line back = subst (λ (v : Floor). Floors r x v line back) (floor_holding f q) (led_as (floor_holding e p) i.floors) in
    not_both_send r e.control.due f.control.due
    (led_settled (quiet_sending r e.control.due) (quiet_sending (other r) f.control.due) w)
