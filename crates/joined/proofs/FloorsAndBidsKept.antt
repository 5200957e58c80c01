-- Every call at an end keeps the order of a conversation: floors and bids still fit.
-- Assumes nothing.
use Rattle.joined.proofs.JoinedWords.{ℕ, eq-eqb, eqb, Bool, true, false, not, cond, List, [], ◌∷◌, ◌++◌, append-nil, ◌≡◌, refl, sym, ap, ◌∙◌, never, on}
use Rattle.joined.proofs.JoinedWords.{left, or_right, begins_bracket, ChainEnd, Continues, Last, Follows, Header, fixed_ru, bid_ru, unit_of, number_in, paced}
use Rattle.joined.proofs.JoinedWords.{confirmation_fits, is_first_speaker, is_bidder, is_reset, is_receive, is_nothing, holds_send, Control, Role, FirstSpeaker}
use Rattle.joined.proofs.JoinedWords.{Bidder, WhatReceived, send_is, sending_holds, closing, deferred, withdrawn, defer_cases, withdraw_cases}
use Rattle.joined.proofs.JoinedWords.{after_last, after_owed, mark_of, begin_of, closed, spilled, confirmation_made, confirmation_denied, error_made}
use Rattle.joined.proofs.JoinedWords.{error_received, negative_confirmation_received, error_marked, send_error_cases, request_cases, sent_end, error_ru, negative_confirmation_ru}
use Rattle.joined.proofs.JoinedWords.{sending_clear}
use Rattle.joined.proofs.JoinedWords.{data_received, request_received, request_made, next_number, bid_made, bytes_read, header_received, ru_received}
use Rattle.joined.proofs.JoinedWords.{data_joined, bid_answered, credit_raised, record_good, data_header, held_bytes, bytes_kept, bytes_spilled, End, facts}
use Rattle.joined.proofs.JoinedWords.{Station, Reply, Verb, allocate_cases, bid_number, close_cases, confirmed_cases, pacing_response_cases, read_cases}
use Rattle.joined.proofs.JoinedWords.{send_cases, spilled_ru, TakeAsked, Lane, normal, acts, takes, Acted, Took}
use Rattle.unit.specs.Ru.{positive_ru, negative_ru}
use Rattle.header.specs.declared.Header.TheVariants.{Data, Bid, ErrorDescription, PositiveBidResponse, NegativeBidResponse, Confirmation}
use Rattle.header.specs.declared.Header.TheVariants.{NegativeConfirmation, PacingResponse}
use Rattle.control.specs.Questions.{may_allocate}
use Rattle.control.specs.FieldChanged.{set_state, set_bid, set_mark}
use Rattle.transitions.specs.Transitions.{allocated, after_mark, mark_answered, bid_received, positive_response_received, negative_response_received}
use Rattle.transitions.specs.Transitions.{confirmation_received}
use Rattle.control.specs.declared.State.TheVariants.{Reset, Send, Receive, ConfirmOwed, ConfirmAwaited}
use Rattle.control.specs.declared.WhatReceived.TheVariants as mark
use Rattle.end.specs.Outcome.{with_control, with_sending, with_receiving, with_bidding}
use Rattle.receiving.specs.declared.Receiving.{Receiving}
use Rattle.joined.proofs.LineAutomaton.{ok, goes}
use Rattle.bools.proofs.Tests.{right, not_true}
use Rattle.control.proofs.States.{state_is, nothing_is, bidder_not_first, holding_not_receive, in_defer_lem}
use Rattle.transitions.proofs.KeptWithin.{deferred_defers}
use Rattle.control.proofs.Within.{due_outside_send, due_at_bidder, error_in_send_lem, unmarked_outside_receive}
use Rattle.joined.proofs.TwoLines.{other, led_as, led_past, led_took, led_moved, led_still}
use Rattle.joined.proofs.Floor.{Floor, reset, send_bb, send, receive, after_mark_floor, floor_at, floor_of, is_reset_floor, data_moves, after_awaited_floor}
use Rattle.joined.proofs.Floor.{floors, confirmed_floor, Floors, sent_floor, quiet_sending, sent_moves, sent_partners, after_owed_floor, confirmed_moves}
use Rattle.joined.proofs.Floor.{confirmed_floor_lem, last_floor, mark_floor, denied_moves, error_moves}
use Rattle.joined.proofs.Bids.{Pending, none, some, bid_at, bid_of, bid_moves, bid_on, Bids, bids_moved, bid_speaker, bid_off}
use Rattle.calls.proofs.CallCases.{kind_cases, took_kind}
use Rattle.joined.proofs.CallsOnLanes.{Laned, LanedTake}
use Rattle.joined.proofs.FloorsAndBids.{order_apart, Order, floor_in, floor_holding, data_moves_lem, bid_moves_lem, positive_response_moves_lem, bid_answered_lem, confirmation_moves}
use Rattle.joined.proofs.FloorsAndBids.{order_fits_confirmation}
use Rattle.joined.proofs.FloorsAndBids as taken

-- an end after a call, its role and its partner as they were
order_with : {r : Role} {e e' f : End} {line line' back back' : List (List ℕ)} → e'.control.role ≡ e.control.role
    → Floors r (floor_of e') (floor_of f) line' back' → Bids r (bid_of e') (bid_of f) line' back' → Order r e f line back → Order r e' f line' back'
order_with p x y i = record { role = p ∙ i.role; partner = i.partner; floors = x; bids = y }

-- a call that leaves floor and bid
order_same : {r : Role} {e e' f : End} {line back : List (List ℕ)} → floor_of e' ≡ floor_of e → bid_of e' ≡ bid_of e → e'.control.role ≡ e.control.role
    → Order r e f line back → Order r e' f line back
order_same p q s i = order_with s (led_as (sym p) i.floors) (led_as (sym q) i.bids) i

-- the bid of an end after a call that leaves role and flag
same_bid : (e : End) (c : Control) → c.role ≡ e.control.role → c.bid ≡ e.control.bid → bid_at c.role c.bid e.bidding ≡ bid_of e
same_bid e c p q = rw (p, q)

-- ---- allocate

-- a first speaker's partner is in Reset, and stays there until the bracket begins
spoke_floors :
    (r : Role) {y : Floor} {line back : List (List ℕ)} → is_first_speaker r ≡ true → Floors r reset y line back → Floors r send_bb y line back
spoke_floors FirstSpeaker s i = led_still send_bb refl (λ v p. p) i
spoke_floors Bidder s i = never s

-- a bidder that has no bid makes one
bid_bids :
    (r : Role) {q : Pending} {line back : List (List ℕ)} (n k : ℕ) (b : Bool) (ru : List ℕ) → is_first_speaker r ≡ false
    → Bids r (bid_at r false k) q line back → Bids r (bid_at r true n) q (line ++ (unit_of n (Bid b) ru ∷ [])) back
bid_bids FirstSpeaker n k b ru s i = never (sym s)
bid_bids Bidder n k b ru s i = bids_moved n (Bid b) ru (some n) refl refl i

-- ---- a mark is read: the floor has counted it already

mark_read_lem :
    (c : Control) (m : WhatReceived) (owed sent : ℕ) → not (is_nothing m) ≡ true → c.due ≡ false → c.state ≡ Receive
    → let k = set_mark mark.Nothing (after_mark m c) in
    (floor_at k.state k.due k.follows k.mark owed sent ≡ after_mark_floor m owed) × (k.role ≡ c.role) × (k.bid ≡ c.bid)
mark_read_lem c mark.Nothing owed sent n d p = never n
mark_read_lem c mark.Turn owed sent n d p = (rw d, refl, refl)
mark_read_lem c mark.End owed sent n d p = (refl, refl, refl)
mark_read_lem c mark.Confirm owed sent n d p = (refl, refl, refl)
mark_read_lem c mark.ConfirmTurn owed sent n d p = (refl, refl, refl)
mark_read_lem c mark.ConfirmEnd owed sent n d p = (refl, refl, refl)
mark_read_lem c mark.Error owed sent n d p = (rw p, refl, refl)

-- ---- the finite part and the number sent after a last unit

last_control :
    (c : Control) (x : Follows) (confirm : Bool) (owed n : ℕ) → is_nothing c.mark ≡ true
    → let k = closed x confirm c in
    (floor_at k.state k.due k.follows k.mark owed n ≡ sent_floor (Last x confirm) n) × (k.role ≡ c.role) × (k.bid ≡ c.bid)
unfolding closed
last_control c x true owed n m = (refl, refl, refl)
last_control c x false owed n m = (last_floor x c.follows c.mark owed n m, refl, refl)

-- ---- calls that the end answers by itself

module _ (r : Role) (s : Station) (f : End) (line back : List (List ℕ)) (i : Order r s.end f line back) where
  abbrev After : Acted Lane Station Reply (List ℕ) → Type 0
  After m = Order r m.end.end f (line ++ m.sent normal) back

  -- data is made, by an end that then stands where the unit leaves it
  sent : (e' : End) (ends : ChainEnd) (n : ℕ) (ru : List ℕ) → record_good s.end ≡ true → holds_send s.end.control.state ≡ true
      → floor_of e' ≡ sent_floor ends n → bid_of e' ≡ bid_of s.end → e'.control.role ≡ s.end.control.role
      → Order r e' f (line ++ (unit_of n (data_header s.end ends) ru ∷ [])) back
  unfolding data_header
  sent e' ends n ru g m p q t =
      let e = s.end in
      let c = e.control in
      let after = after_mark_floor (mark_of ends) n in
      let due = rw i.role at (facts e g).control.due in
      order_with t
      (led_as (sym p)
      (led_moved n (data_header e ends) ru (sent_floor ends n) (quiet_sending r c.due)
      (λ v w. (
        after,
        (
          goes (data_moves (other r) v (begins_bracket (begin_of c))) after (sent_moves r c.due c.outchain (holds_send c.state) v due w),
          sent_partners r ends n,
        ),
      ))
      (led_as (floor_holding e m) i.floors)))
      (led_as (sym q) (led_past n (data_header e ends) ru (λ v. refl) i.bids)) i

  spoke : record_good s.end ≡ true → may_allocate s.end.control ≡ true → is_first_speaker s.end.control.role ≡ true
      → Order r (with_control (allocated s.end.control) s.end) f line back
  unfolding allocated
  spoke g a w =
      let e = s.end in
      let p = (state_is e.control.state).0 (left (is_reset e.control.state) _ a) in
      on (λ (k : Control). Order r (with_control k e) f line back) (is_first_speaker e.control.role) _ w
      (order_with refl (spoke_floors r (rw i.role at w) (led_as (floor_in e Reset p) i.floors)) i.bids i)

  bid : may_allocate s.end.control ≡ true → is_first_speaker s.end.control.role ≡ false
      → Order r (bid_made s.end).end f
      (line ++ (unit_of (bid_number s.end) (Bid (paced s.end.sending.window)) bid_ru ∷ [])) back
  unfolding bid_made allocated request_made
  bid a w =
      let e = s.end in
      let c = e.control in
      let n = bid_number e in
      let b = paced e.sending.window in
      let p = (state_is c.state).0 (left (is_reset c.state) _ a) in
      let flag = not_true c.bid (right (is_reset c.state) (not c.bid) a) in
      let bidder : c.role ≡ r = i.role in
      let made : Control → End = λ k. with_bidding n (with_sending (request_made e.sending.held e.sending.given e.sending) (with_control k e)) in
      let h : Order r (made (set_bid true c)) f (line ++ (unit_of n (Bid b) bid_ru ∷ [])) back =
      order_with refl
      (led_as (floor_in e Reset p ∙ sym (floor_in (made (set_bid true c)) Reset p)) (led_past n (Bid b) bid_ru (λ v. refl) i.floors))
      (rw bidder (bid_bids r n e.bidding b bid_ru (rw bidder at w) (led_as (rw (bidder, flag)) i.bids))) i in
      rw w h

  -- send state is held before and after, and only the state changes: the floor is the same
  held : (c : Control) → c.due ≡ s.end.control.due → c.role ≡ s.end.control.role → c.bid ≡ s.end.control.bid
      → holds_send c.state ≡ true → holds_send s.end.control.state ≡ true → Order r (with_control c s.end) f line back
  held c p q b h g =
      let e = s.end in
      order_same (floor_holding (with_control c e) h ∙ ap (λ (x : Bool). cond x send_bb send) p ∙ sym (floor_holding e g)) (same_bid e c q b) q i

  -- the error header goes, and the floor is that of Send before and after
  erred : record_good s.end ≡ true → s.end.control.error ≡ true
      → (let e = s.end in
      Order r (sent_end e (error_made e.control)) f
      (line ++ (unit_of (next_number e.sending.number) (ErrorDescription (paced e.sending.window)) error_ru ∷ [])) back)
  unfolding error_made request_made
  erred g y =
      let e = s.end in
      let c = e.control in
      let n = next_number e.sending.number in
      let h = ErrorDescription (paced e.sending.window) in
      let p = error_in_send_lem c (facts e g).control y in
      let q = send_is c.state p.0 in
      let e' = sent_end e (error_made c) in
      order_with refl
      (led_as (ap (λ (x : Bool). cond x send_bb send) (sym p.1) ∙ sym (floor_in e' Send q))
      (led_moved {A = floors} {r = r} {y = floor_of f} {line = line} {back = back} n h error_ru send refl (error_moves r (paced e.sending.window) n)
      (led_as (floor_in e Send q ∙ ap (λ (x : Bool). cond x send_bb send) p.1) i.floors)))
      (led_past n h error_ru (λ v. refl) i.bids) i

  pub order_acts : (v : Verb) → After (acts s v)
  unfolding acts bytes_kept bytes_spilled spilled request_made confirmation_made confirmation_denied bytes_read mark_answered deferred withdrawn
  order_acts Verb.allocate =
      allocate_cases (Laned After) s (λ q n. rw append-nil i) (λ g a w. rw append-nil (spoke g a w)) (λ g a w k. bid a w)
  order_acts Verb.confirmed =
      confirmed_cases (Laned After) s (λ q n. rw append-nil i)
      (λ g a.
      let e = s.end in
      let c = e.control in
      let p = (state_is c.state).2 a in
      let w = (facts e g).control in
      order_with refl
      (led_as
      (sym
      (ap (λ (b : Bool). floor_at (after_owed c.follows) b c.follows c.mark e.owed e.sending.number) (due_outside_send c w (rw p))
      ∙ confirmed_floor_lem c.follows c.mark e.owed e.sending.number (unmarked_outside_receive c w (rw p))))
      (led_moved {A = floors} {r = r} {y = floor_of f} {line = line} {back = back} e.owed Confirmation [] (after_owed_floor c.follows) refl (confirmed_moves r c.follows e.owed)
      (led_as (floor_in e ConfirmOwed p) i.floors)))
      (led_past e.owed Confirmation [] (λ v. refl) i.bids) i)
  order_acts Verb.request_to_send = request_cases (Laned After) s (λ q n. rw append-nil i) (λ a. rw append-nil (order_apart i))
  order_acts Verb.send_error =
      send_error_cases (Laned After) s (λ q n. rw append-nil i)
      (λ g a.
      let e = s.end in
      let c = e.control in
      let p = (state_is c.state).2 a in
      order_with refl
      (led_as (ap (λ (b : Bool). cond b send_bb send) (sym (due_outside_send c (facts e g).control (rw p))))
      (led_moved {A = floors} {r = r} {y = floor_of f} {line = line} {back = back} e.owed NegativeConfirmation negative_confirmation_ru send refl (denied_moves r c.follows e.owed)
      (led_as (floor_in e ConfirmOwed p) i.floors)))
      (led_past e.owed NegativeConfirmation negative_confirmation_ru (λ v. refl) i.bids) i)
  order_acts Verb.send_pacing_response =
      pacing_response_cases (Laned After) s (λ q n. rw append-nil i)
      (λ g a. order_with refl (led_past 0 PacingResponse [] (λ v. refl) i.floors) (led_past 0 PacingResponse [] (λ v. refl) i.bids) i)
  order_acts (Verb.send_data bytes) =
      send_cases (Laned After) s bytes (λ q n. rw append-nil i) (λ a k. rw append-nil (order_same refl refl refl i))
      (λ a k h.
      sent (bytes_spilled s.end bytes s.send).end Continues (next_number s.end.sending.number) (spilled_ru s bytes) a.good
      (sending_holds s.end.control.state (sending_clear s.end.control a.sending).0)
      (floor_in (bytes_spilled s.end bytes s.send).end Send (send_is s.end.control.state (sending_clear s.end.control a.sending).0)) refl refl)
  order_acts (Verb.close x c) =
      close_cases (Laned After) s x c (λ q n. rw append-nil i) (λ a n. rw append-nil i) (λ a y k. erred a.good y)
      (λ a n k.
      let e = s.end in
      let y = closing e x in
      let m = next_number e.sending.number in
      let u = unmarked_outside_receive e.control (facts e a.good).control (holding_not_receive e.control.state a.holding) in
      let q = last_control e.control y c e.owed m u in
      sent (sent_end e (closed y c e.control)) (Last y c) m (held_bytes e s.send) a.good a.holding q.0
      (same_bid e (closed y c e.control) q.1 q.2) q.1)
  order_acts (Verb.defer d) =
      defer_cases (Laned After) s d (λ q n. rw append-nil i)
      (λ a.
      let c = s.end.control in
      rw append-nil (held (deferred d c) refl refl refl (in_defer_lem (deferred d c).state (deferred_defers d c)).holds
      (sending_holds c.state (sending_clear c a.sending).0)))
  order_acts Verb.withdraw =
      withdraw_cases (Laned After) s (λ q n. rw append-nil i)
      (λ g a. rw append-nil (held (withdrawn s.end.control) refl refl refl refl (in_defer_lem s.end.control.state a).holds))
  order_acts (Verb.receive buffer) =
      read_cases (Laned After) s buffer (λ q w n. rw append-nil i) (λ a h. rw append-nil (order_same refl refl refl i))
      (λ a h m.
      let e = s.end in
      let c = e.control in
      let p = (state_is c.state).1 (or_right (is_nothing c.mark) (is_receive c.state) (facts e a.good).control.mark (not_true _ m)) in
      let k = mark_read_lem c c.mark e.owed e.sending.number m (due_outside_send c (facts e a.good).control (rw p)) p in
      rw append-nil (order_same (k.0 ∙ sym (floor_in e Receive p)) (same_bid e (mark_answered c) k.1 k.2) k.1 i))

-- ---- takes

-- a bid that a first speaker takes, it answers; then there is none again
answered_bids :
    (r : Role) (p : Pending) {q : Pending} {line back : List (List ℕ)} (n : ℕ) (h : Header) (ru : List ℕ)
    → bid_on Bidder (some n) h n ≡ ok none
    → (bid_moves r p ≡ true) × Bids r (some n) q line back
    → Bids r p q (line ++ (unit_of n h ru ∷ [])) back
answered_bids FirstSpeaker none n h ru g i = bids_moved n h ru none refl g i.1
answered_bids FirstSpeaker (some k) n h ru g i = never i.0
answered_bids Bidder p n h ru g i = never i.0

-- in Reset the answer is positive, and the partner, in Reset too, will send
positive_response_floors :
    (r : Role) {y : Floor} {line back : List (List ℕ)} (n : ℕ) (ru : List ℕ)
    → is_first_speaker r ≡ true
    → Floors r reset y line back
    → Floors r receive y (line ++ (unit_of n PositiveBidResponse ru ∷ [])) back
positive_response_floors FirstSpeaker n ru s i = led_moved {x = reset} n PositiveBidResponse ru receive refl (λ v p. (send, (rw p, refl))) i
positive_response_floors Bidder n ru s i = never s

module _ (r : Role) (s : Station) (f : End) (u : List ℕ) (line back : List (List ℕ)) (i : Order r s.end f line (u ∷ back)) where
  abbrev Left : Took Lane Station Reply (List ℕ) → Type 0
  Left t = Order r t.end.end f (line ++ t.sent normal) (cond t.removed back (u ∷ back))

  -- a bid, by whether the end is in Reset
  took_bid :
      (idle b : Bool) (v : Receiving) → is_reset s.end.control.state ≡ idle → is_nothing s.end.control.mark ≡ true → header_received u ≡ Bid b
      → let h = cond idle PositiveBidResponse NegativeBidResponse in
      Order r (with_receiving v (with_control (cond idle (set_state Receive s.end.control) s.end.control) s.end)) f
      (line ++ (unit_of (number_in u) h (fixed_ru h) ∷ [])) back
  took_bid true b v q m h =
      let e = s.end in
      let n = number_in u in
      order_with refl
      (led_as (ap (λ (x : WhatReceived). after_mark_floor x e.owed) (sym (nothing_is e.control.mark m)))
      (positive_response_floors r n positive_ru (bid_speaker r (bid_of e) (bid_moves_lem i b h).0)
      (led_as (floor_in e Reset ((state_is e.control.state).0 q)) (led_took (floor_of e) h refl i.floors))))
      (answered_bids r (bid_of e) n PositiveBidResponse positive_ru (goes (eqb n n) none (eq-eqb n n refl)) (bid_moves_lem i b h)) i
  took_bid false b v q m h =
      let e = s.end in
      let n = number_in u in
      order_with refl (led_past n NegativeBidResponse negative_ru (λ w. refl) (led_took (floor_of e) h refl i.floors))
      (answered_bids r (bid_of e) n NegativeBidResponse negative_ru (goes (eqb n n) none (eq-eqb n n refl)) (bid_moves_lem i b h)) i

  took_kind_lem : (h : Header) → header_received u ≡ h → TakeAsked s u → LanedTake Left (took_kind s h (number_in u) (ru_received u))
  unfolding data_joined data_received error_marked error_received bid_answered bid_received credit_raised positive_response_received negative_response_received confirmation_received negative_confirmation_received
  took_kind_lem (Data d) h a =
      let e = s.end in
      rw append-nil
      (order_with refl (led_as (sym (mark_floor d.ends (number_in u) e.owed)) (data_moves_lem i d h).1) (led_took (bid_of e) h refl i.bids) i)
  took_kind_lem (Bid b) h a =
      let e = s.end in
      took_bid (is_reset e.control.state) b (request_received e.receiving.held e.receiving.taken e.receiving) refl a.unmarked h
  took_kind_lem (ErrorDescription b) h a =
      let e = s.end in
      let c = e.control in
      let p = (state_is c.state).1 (taken.error_receives i b a.unmarked h) in
      rw append-nil
      (order_with refl (led_as (sym (floor_in (error_marked e).end Receive p)) (taken.error_moves i b h).1) (led_took (bid_of e) h refl i.bids) i)
  took_kind_lem PositiveBidResponse h a =
      let e = s.end in
      let p = positive_response_moves_lem i h in
      let due =
      due_at_bidder e.control (facts e a.good).control (rw i.role (bidder_not_first r (right (is_reset_floor (floor_of e)) (is_bidder r) p.0))) in
      rw append-nil
      (order_with refl (led_as (ap (λ (x : Bool). cond x send_bb send) (sym due)) p.1)
      (led_as (sym (bid_off e.control.role e.bidding)) (bid_answered_lem i PositiveBidResponse (λ p n. refl) h).1) i)
  took_kind_lem NegativeBidResponse h a =
      let e = s.end in
      rw append-nil
      (order_with refl (led_took (floor_of e) h refl i.floors)
      (led_as (sym (bid_off e.control.role e.bidding)) (bid_answered_lem i NegativeBidResponse (λ p n. refl) h).1) i)
  took_kind_lem Confirmation h a =
      let e = s.end in
      let c = e.control in
      let k = (facts e a.good).control in
      let p = (state_is c.state).3 (left (confirmation_fits c) _ (order_fits_confirmation i a.unmarked h)) in
      let after : floor_at (after_last c.follows) c.due c.follows c.mark e.owed e.sending.number ≡ after_awaited_floor c.follows =
      ap (λ (b : Bool). floor_at (after_last c.follows) b c.follows c.mark e.owed e.sending.number) (due_outside_send c k (rw p))
      ∙ last_floor c.follows c.follows c.mark e.owed e.sending.number (unmarked_outside_receive c k (rw p)) in
      rw append-nil
      (order_with refl (led_as (ap confirmed_floor (floor_in e ConfirmAwaited p) ∙ sym after) (confirmation_moves i h).1)
      (led_took (bid_of e) h refl i.bids) i)
  took_kind_lem NegativeConfirmation h a =
      let e = s.end in
      rw append-nil
      (order_with refl (led_as (ap (λ (m : WhatReceived). after_mark_floor m e.owed) (sym (nothing_is e.control.mark a.unmarked))) (taken.denial_moves i h).1)
      (led_took (bid_of e) h refl i.bids) i)
  took_kind_lem PacingResponse h a =
      rw append-nil (order_with refl (led_took (floor_of s.end) h refl i.floors) (led_took (bid_of s.end) h refl i.bids) i)

  pub order_takes : Left (takes normal s u)
  unfolding takes
  order_takes = kind_cases (LanedTake Left) s u (λ q w n. rw (n, append-nil) i) (λ a k. took_kind_lem (header_received u) refl a)
