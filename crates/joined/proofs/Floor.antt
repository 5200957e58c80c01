-- The floor: whose turn it is, what is owed and what is waited for, as an automaton over the units that wait for an end.
-- Assumes nothing.
use Rattle.joined.proofs.JoinedWords.{ℕ, eq-eqb, eqb, Bool, true, false, not, cond, ◌&&◌, ◌||◌, List, ◌≡◌, refl, sym, never, begins_bracket}
use Rattle.joined.proofs.JoinedWords.{Continued, First, FirstWithBracket, ChainEnd, Continues, Last, Follows, Stay, ChangeDirection, EndBracket, Header}
use Rattle.joined.proofs.JoinedWords.{is_first_speaker, is_bidder, is_reset, is_receive, is_confirm_awaited, is_nothing, holds_send, Role, FirstSpeaker, Bidder}
use Rattle.joined.proofs.JoinedWords.{State}
use Rattle.joined.proofs.JoinedWords.{WhatReceived, after_last, after_owed, mark_of, End}
use Rattle.header.specs.Header.{confirms}
use Rattle.header.specs.declared.Header.TheVariants.{Data, Bid, ErrorDescription, PositiveBidResponse, NegativeBidResponse, Confirmation}
use Rattle.header.specs.declared.Header.TheVariants.{NegativeConfirmation, PacingResponse}
use Rattle.control.specs.declared.State.TheVariants.{Reset, Send, Receive, ConfirmOwed, ConfirmAwaited, DeferTurn, DeferEnd}
use Rattle.control.specs.declared.WhatReceived.TheVariants as mark
use Rattle.joined.proofs.LineAutomaton.{Ran, ok, stuck, ok_is, went}
use Rattle.control.proofs.States.{nothing_is}
use Rattle.joined.proofs.TwoLines.{other, other_other, Automaton, Led}

-- ---- floors

-- where an end stands: no conversation; sending, the bracket yet to begin; sending; receiving; owing, or waiting for, a
-- confirmation of a number, with what follows it
pub data Floor : Type 0 where
  reset send_bb send receive : Floor
  confirm_owed confirm_awaited : Follows → ℕ → Floor

-- where an end in Receive stands once it has read the mark
abbrev pub after_mark_floor : WhatReceived → ℕ → Floor
after_mark_floor mark.Nothing n = receive
after_mark_floor mark.Turn n = send
after_mark_floor mark.End n = reset
after_mark_floor mark.Confirm n = confirm_owed Stay n
after_mark_floor mark.ConfirmTurn n = confirm_owed ChangeDirection n
after_mark_floor mark.ConfirmEnd n = confirm_owed EndBracket n
after_mark_floor mark.Error n = receive

-- by state, BB-due, what follows, mark, number owed and last number sent
abbrev pub floor_at : State → Bool → Follows → WhatReceived → ℕ → ℕ → Floor
floor_at Reset due f m owed sent = reset
floor_at Send due f m owed sent = cond due send_bb send
floor_at Receive due f m owed sent = after_mark_floor m owed
floor_at ConfirmOwed due f m owed sent = confirm_owed f owed
floor_at ConfirmAwaited due f m owed sent = confirm_awaited f sent
floor_at DeferTurn due f m owed sent = cond due send_bb send
floor_at DeferEnd due f m owed sent = cond due send_bb send

abbrev pub floor_of : End → Floor
floor_of e = floor_at e.control.state e.control.due e.control.follows e.control.mark e.owed e.sending.number

-- ---- the automaton

abbrev pub is_reset_floor : Floor → Bool
is_reset_floor reset = true
is_reset_floor send_bb = false
is_reset_floor send = false
is_reset_floor receive = false
is_reset_floor (confirm_owed f n) = false
is_reset_floor (confirm_awaited f n) = false

abbrev pub is_receive_floor : Floor → Bool
is_receive_floor reset = false
is_receive_floor send_bb = false
is_receive_floor send = false
is_receive_floor receive = true
is_receive_floor (confirm_owed f n) = false
is_receive_floor (confirm_awaited f n) = false

abbrev pub is_awaited_floor : Floor → Bool
is_awaited_floor reset = false
is_awaited_floor send_bb = false
is_awaited_floor send = false
is_awaited_floor receive = false
is_awaited_floor (confirm_owed f n) = false
is_awaited_floor (confirm_awaited f n) = true

abbrev pub confirm_number : Floor → ℕ
confirm_number reset = 0
confirm_number send_bb = 0
confirm_number send = 0
confirm_number receive = 0
confirm_number (confirm_owed f n) = n
confirm_number (confirm_awaited f n) = n

-- it waits for a confirmation of n
abbrev pub awaits_confirmation : Floor → ℕ → Bool
awaits_confirmation x n = is_awaited_floor x && eqb n (confirm_number x)

-- data with BB comes to a bidder with no conversation, all other data to an end that receives
abbrev pub data_moves : Role → Floor → Bool → Bool
data_moves r x bb = cond bb (is_reset_floor x && is_bidder r) (is_receive_floor x)

abbrev pub positive_response_moves : Role → Floor → Bool
positive_response_moves r x = is_reset_floor x && is_bidder r

-- the floor after a confirmation that was waited for
abbrev pub after_awaited_floor : Follows → Floor
after_awaited_floor Stay = send
after_awaited_floor ChangeDirection = receive
after_awaited_floor EndBracket = reset

abbrev pub confirmed_floor : Floor → Floor
confirmed_floor reset = reset
confirmed_floor send_bb = send_bb
confirmed_floor send = send
confirmed_floor receive = receive
confirmed_floor (confirm_owed f m) = confirm_owed f m
confirmed_floor (confirm_awaited f m) = after_awaited_floor f

-- by the header and the number of a unit
abbrev pub floor_on : Role → Floor → Header → ℕ → Ran Floor
floor_on r x (Data d) n = cond (data_moves r x (begins_bracket d.begins)) (ok (after_mark_floor (mark_of d.ends) n)) stuck
floor_on r x (Bid p) n = ok x
floor_on r x (ErrorDescription p) n = cond (is_receive_floor x) (ok receive) stuck
floor_on r x PositiveBidResponse n = cond (positive_response_moves r x) (ok send) stuck
floor_on r x NegativeBidResponse n = ok x
floor_on r x Confirmation n = cond (awaits_confirmation x n) (ok (confirmed_floor x)) stuck
floor_on r x NegativeConfirmation n = cond (awaits_confirmation x n) (ok receive) stuck
floor_on r x PacingResponse n = ok x

-- ---- partners

-- the bidder's floor, by the first speaker's
abbrev pub mirror : Floor → Floor
mirror reset = reset
mirror send_bb = reset
mirror send = receive
mirror receive = send
mirror (confirm_owed f n) = confirm_awaited f n
mirror (confirm_awaited f n) = confirm_owed f n

-- x is the floor of the end with the role, y its partner's
abbrev pub Partners : Role → Floor → Floor → Type 0
Partners FirstSpeaker x y = y ≡ mirror x
Partners Bidder x y = x ≡ mirror y

-- seen from the other end
pub partners_turned : (r : Role) (x y : Floor) → Partners r x y → Partners (other r) y x
partners_turned FirstSpeaker x y p = p
partners_turned Bidder x y p = p

-- ---- floors that no unit leaves

abbrev pub quiet : Role → Floor → Bool
quiet r x = not (is_receive_floor x || ((is_reset_floor x && is_bidder r) || is_awaited_floor x))

quiet_data : {X : Type 0} (receives resets awaits bb : Bool) → not (receives || (resets || awaits)) ≡ true → cond bb resets receives ≡ true → X
quiet_data true b c bb q e = never q
quiet_data false true c bb q e = never q
quiet_data false false c true q e = never e
quiet_data false false c false q e = never e

quiet_confirmation : {X : Type 0} (receives resets awaits asked : Bool) → not (receives || (resets || awaits)) ≡ true → awaits && asked ≡ true → X
quiet_confirmation true b c n q e = never q
quiet_confirmation false true c n q e = never q
quiet_confirmation false false true n q e = never q
quiet_confirmation false false false n q e = never e

pub quiet_on :
    (r : Role) (x x' : Floor) → quiet r x ≡ true → (h : Header) (n : ℕ) (t : Floor)
    → floor_on r x h n ≡ ok t → (t ≡ x) × (floor_on r x' h n ≡ ok x')
quiet_on r x x' q (Data d) n t e =
    quiet_data (is_receive_floor x) (is_reset_floor x && is_bidder r) (is_awaited_floor x) (begins_bracket d.begins) q
    (went _ (after_mark_floor (mark_of d.ends) n) t e).0
quiet_on r x x' q (Bid p) n t e = (sym (ok_is e), refl)
quiet_on r x x' q (ErrorDescription p) n t e =
    quiet_data (is_receive_floor x) (is_reset_floor x && is_bidder r) (is_awaited_floor x) false q (went (is_receive_floor x) receive t e).0
quiet_on r x x' q PositiveBidResponse n t e =
    quiet_data (is_receive_floor x) (is_reset_floor x && is_bidder r) (is_awaited_floor x) true q (went (positive_response_moves r x) send t e).0
quiet_on r x x' q NegativeBidResponse n t e = (sym (ok_is e), refl)
quiet_on r x x' q Confirmation n t e =
    quiet_confirmation (is_receive_floor x) (is_reset_floor x && is_bidder r) (is_awaited_floor x) (eqb n (confirm_number x)) q
    (went (awaits_confirmation x n) (confirmed_floor x) t e).0
quiet_on r x x' q NegativeConfirmation n t e =
    quiet_confirmation (is_receive_floor x) (is_reset_floor x && is_bidder r) (is_awaited_floor x) (eqb n (confirm_number x)) q
    (went (awaits_confirmation x n) receive t e).0
quiet_on r x x' q PacingResponse n t e = (sym (ok_is e), refl)

-- ---- the floors of two joined ends

abbrev pub floors : Automaton Role Floor
floors =
    record {
      partner = other;
      partner_partner = other_other;
      on = floor_on;
      settled = quiet;
      stays = quiet_on;
      Fit = Partners;
      turned = partners_turned;
    }

-- once all units that wait are taken, the floors are partners
abbrev pub Floors : Role → Floor → Floor → List (List ℕ) → List (List ℕ) → Type 0
Floors = Led floors

-- ---- a data unit is made, in Send

-- the floor of an end that has made the last unit, or one that is not last
abbrev pub sent_floor : ChainEnd → ℕ → Floor
sent_floor Continues n = send
sent_floor (Last f confirm) n = cond confirm (confirm_awaited f n) (after_awaited_floor f)

pub quiet_sending : (r : Role) (due : Bool) → quiet r (cond due send_bb send) ≡ true
quiet_sending r true = refl
quiet_sending r false = refl

sends_to : (v : Floor) → send ≡ mirror v → v ≡ receive
sends_to reset e = cc
sends_to send_bb e = cc
sends_to send e = cc
sends_to receive e = refl
sends_to (confirm_owed f n) e = cc
sends_to (confirm_awaited f n) e = cc

-- it moves the partner on: with BB from Reset, without from Receive
pub sent_moves :
    (r : Role) (due chained sending : Bool) (v : Floor)
    → not due || (is_first_speaker r && (sending && not chained)) ≡ true
    → Partners r (cond due send_bb send) v
    → data_moves (other r) v (begins_bracket (cond chained Continued (cond due FirstWithBracket First))) ≡ true
sent_moves FirstSpeaker true true true v g p = never g
sent_moves FirstSpeaker true true false v g p = never g
sent_moves FirstSpeaker true false sending v g p = rw p
sent_moves FirstSpeaker false true sending v g p = rw p
sent_moves FirstSpeaker false false sending v g p = rw p
sent_moves Bidder true chained sending v g p = never g
sent_moves Bidder false true sending v g p = rw (sends_to v p)
sent_moves Bidder false false sending v g p = rw (sends_to v p)

-- floors that are partners whichever end has which
abbrev Mirrored : Floor → Floor → Type 0
Mirrored x y = (y ≡ mirror x) × (x ≡ mirror y)

partners : (r : Role) {x y : Floor} → Mirrored x y → Partners r x y
partners FirstSpeaker m = m.0
partners Bidder m = m.1

sent_mirrored : (ends : ChainEnd) (n : ℕ) → Mirrored (sent_floor ends n) (after_mark_floor (mark_of ends) n)
sent_mirrored Continues n = (refl, refl)
sent_mirrored (Last Stay true) n = (refl, refl)
sent_mirrored (Last Stay false) n = (refl, refl)
sent_mirrored (Last ChangeDirection true) n = (refl, refl)
sent_mirrored (Last ChangeDirection false) n = (refl, refl)
sent_mirrored (Last EndBracket true) n = (refl, refl)
sent_mirrored (Last EndBracket false) n = (refl, refl)

pub sent_partners : (r : Role) (ends : ChainEnd) (n : ℕ) → Partners r (sent_floor ends n) (after_mark_floor (mark_of ends) n)
sent_partners r ends n = partners r (sent_mirrored ends n)

-- ---- a confirmation is made, or taken

-- the floor of an end that has confirmed
abbrev pub after_owed_floor : Follows → Floor
after_owed_floor Stay = receive
after_owed_floor ChangeDirection = send
after_owed_floor EndBracket = reset

owed_to : (v : Floor) (f : Follows) (n : ℕ) → confirm_owed f n ≡ mirror v → v ≡ confirm_awaited f n
owed_to reset f n e = cc
owed_to send_bb f n e = cc
owed_to send f n e = cc
owed_to receive f n e = cc
owed_to (confirm_owed g m) f n e = cc
owed_to (confirm_awaited g m) f n e = cc

owed_partner : (r : Role) (v : Floor) (f : Follows) (n : ℕ) → Partners r (confirm_owed f n) v → v ≡ confirm_awaited f n
owed_partner FirstSpeaker v f n p = p
owed_partner Bidder v f n p = owed_to v f n p

confirmed_mirrored : (f : Follows) → Mirrored (after_owed_floor f) (after_awaited_floor f)
confirmed_mirrored Stay = (refl, refl)
confirmed_mirrored ChangeDirection = (refl, refl)
confirmed_mirrored EndBracket = (refl, refl)

-- it moves the partner, who waits for it, on
pub confirmed_moves :
    (r : Role) (f : Follows) (n : ℕ) (v : Floor) → Partners r (confirm_owed f n) v
    → (w : Floor) × ((floor_on (other r) v Confirmation n ≡ ok w) × Partners r (after_owed_floor f) w)
confirmed_moves r f n v p = (after_awaited_floor f, (rw (owed_partner r v f n p, eq-eqb n n refl), partners r (confirmed_mirrored f)))

-- so does its refusal, whatever was to follow: the partner receives, and this end sends
pub denied_moves :
    (r : Role) (f : Follows) (n : ℕ) (v : Floor) → Partners r (confirm_owed f n) v
    → (w : Floor) × ((floor_on (other r) v NegativeConfirmation n ≡ ok w) × Partners r send w)
denied_moves r f n v p = (receive, (rw (owed_partner r v f n p, eq-eqb n n refl), partners r (refl, refl)))

-- an error header finds the partner of an end in Send receiving, and leaves it so
pub error_moves :
    (r : Role) (p : Bool) (n : ℕ) (v : Floor) → Partners r send v
    → (w : Floor) × ((floor_on (other r) v (ErrorDescription p) n ≡ ok w) × Partners r send w)
error_moves FirstSpeaker p n v e = (receive, (rw e, refl))
error_moves Bidder p n v e = (receive, (rw (sends_to v e), refl))

-- the floor after `confirmed`, by its state
pub confirmed_floor_lem :
    (f : Follows) (m : WhatReceived) (owed sent : ℕ) → is_nothing m ≡ true → floor_at (after_owed f) false f m owed sent ≡ after_owed_floor f
confirmed_floor_lem Stay m owed sent e = rw (nothing_is m e)
confirmed_floor_lem ChangeDirection m owed sent e = refl
confirmed_floor_lem EndBracket m owed sent e = refl

-- the floor in the state after a last unit, or after the confirmation of one
pub last_floor :
    (f g : Follows) (m : WhatReceived) (owed sent : ℕ) → is_nothing m ≡ true → floor_at (after_last f) false g m owed sent ≡ after_awaited_floor f
last_floor Stay g m owed sent e = refl
last_floor ChangeDirection g m owed sent e = rw (nothing_is m e)
last_floor EndBracket g m owed sent e = refl

-- ---- data or a positive bid response is taken, no mark standing

-- the number owed matters only where a confirmation is requested
pub mark_floor :
    (ends : ChainEnd) (n owed : ℕ) → after_mark_floor (mark_of ends) (cond (confirms ends) n owed) ≡ after_mark_floor (mark_of ends) n
mark_floor Continues n owed = refl
mark_floor (Last Stay true) n owed = refl
mark_floor (Last Stay false) n owed = refl
mark_floor (Last ChangeDirection true) n owed = refl
mark_floor (Last ChangeDirection false) n owed = refl
mark_floor (Last EndBracket true) n owed = refl
mark_floor (Last EndBracket false) n owed = refl

-- what the floor of an end with no mark tells of its state
pub unmarked_floor :
    (s : State) (due : Bool) (f : Follows) (m : WhatReceived) (owed sent n : ℕ) → is_nothing m ≡ true
    → let x = floor_at s due f m owed sent in
    (is_reset_floor x ≡ is_reset s) × (is_receive_floor x ≡ is_receive s) × (awaits_confirmation x n ≡ is_confirm_awaited s && eqb n sent)
unmarked_floor Reset due f m owed sent n u = (refl, refl, refl)
unmarked_floor Send true f m owed sent n u = (refl, refl, refl)
unmarked_floor Send false f m owed sent n u = (refl, refl, refl)
unmarked_floor Receive due f m owed sent n u = rw (nothing_is m u) (refl, refl, refl)
unmarked_floor ConfirmOwed due f m owed sent n u = (refl, refl, refl)
unmarked_floor ConfirmAwaited due f m owed sent n u = (refl, refl, refl)
unmarked_floor DeferTurn true f m owed sent n u = (refl, refl, refl)
unmarked_floor DeferTurn false f m owed sent n u = (refl, refl, refl)
unmarked_floor DeferEnd true f m owed sent n u = (refl, refl, refl)
unmarked_floor DeferEnd false f m owed sent n u = (refl, refl, refl)

-- ---- an end that holds send state stands where one in Send does; what it has prepared, nobody else knows

pub holding_floor :
    (s : State) (due : Bool) (f : Follows) (m : WhatReceived) (owed sent : ℕ) → holds_send s ≡ true → floor_at s due f m owed sent ≡ cond due send_bb send
holding_floor Reset due f m owed sent e = never e
holding_floor Send due f m owed sent e = refl
holding_floor Receive due f m owed sent e = never e
holding_floor ConfirmOwed due f m owed sent e = never e
holding_floor ConfirmAwaited due f m owed sent e = never e
holding_floor DeferTurn due f m owed sent e = refl
holding_floor DeferEnd due f m owed sent e = refl

-- ---- never both in send state

pub not_both_send : (r : Role) (due due' : Bool) → Partners r (cond due send_bb send) (cond due' send_bb send) → ⊥
not_both_send FirstSpeaker true true p = cc
not_both_send FirstSpeaker true false p = cc
not_both_send FirstSpeaker false true p = cc
not_both_send FirstSpeaker false false p = cc
not_both_send Bidder true true p = cc
not_both_send Bidder true false p = cc
not_both_send Bidder false true p = cc
not_both_send Bidder false false p = cc
