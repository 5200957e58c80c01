-- The laws of Defer, at any record and cells, forged ones too: a turn or an end that is prepared and then withdrawn or carried out, and what a deferring end may
-- do.
-- Assumes nothing.
use Rattle.std.specs.Prelude.{ℕ, ◌≡◌, Bool, true, false, cond, ◌||◌, List, [], ◌∷◌, eqb, ltb}
use Rattle.header.specs.declared.Follows.TheVariants.{Stay, ChangeDirection, EndBracket}
use Rattle.control.specs.StateTests.{is_defer}
use Rattle.control.specs.declared.Deferred.{Deferred}
use Rattle.control.specs.declared.Deferred.TheVariants as deferral
use Rattle.transitions.specs.Transitions.{deferred}
use Rattle.answers.specs.FirstNo.{first_no}
use Rattle.answers.specs.Answers.{BAD_BUFFER, WRONG_STATE, NO_CREDIT}
use Rattle.end.specs.Outcome.{with_control}
use Rattle.calls.specs.Calls.{Station, Verb, allocate, confirmed, send_error, send_pacing_response, request_to_send, withdraw, send_data, close, defer, receive}
use Rattle.calls.specs.Calls.{prepare_to_receive, deallocate, Called, refusal_in, called, taken, taken_expedited}
use Rattle.calls.specs.Laws.{questions}

-- turn, or end: the call that does at once what is prepared, with or without confirmation
abbrev pub at_once : Deferred → Bool → Verb
at_once deferral.Turn confirm = prepare_to_receive confirm
at_once deferral.End confirm = deallocate confirm

-- the calls of the list that are allowed in Defer; a take is too, on either line
abbrev pub allowed_in_defer : Verb → Bool
allowed_in_defer allocate = false
allowed_in_defer confirmed = false
allowed_in_defer send_error = false
allowed_in_defer send_pacing_response = true
allowed_in_defer request_to_send = false
allowed_in_defer withdraw = true
allowed_in_defer (send_data bytes) = false
allowed_in_defer (close Stay b) = true
allowed_in_defer (close ChangeDirection b) = false
allowed_in_defer (close EndBracket b) = false
allowed_in_defer (defer d) = false
allowed_in_defer (receive buffer) = true

-- the questions before 7
abbrev pub before_state : List (Bool × ℕ) → List (Bool × ℕ)
before_state [] = []
before_state (q ∷ qs) = cond (ltb q.1 WRONG_STATE) (q ∷ before_state qs) (before_state qs)

-- x, made in Defer, leaves what y leaves, made on the record before it: the answer, the unit and every lent cell; the record too if it is accepted
pub record CarriedOut (x y : Called) : Type 0 where
  pub answer : x.answer ≡ y.answer
  pub sent : x.sent ≡ y.sent
  pub expedited : x.expedited ≡ y.expedited
  pub send_buffer : x.end.send ≡ y.end.send
  pub unit_buffer : x.end.unit ≡ y.end.unit
  pub inbox : x.end.inbox ≡ y.end.inbox
  pub end : refusal_in y.answer ≡ 0 → x.end.end ≡ y.end.end

-- a number is one of two
abbrev pub is_one_of : ℕ → ℕ → ℕ → Bool
is_one_of a b n = eqb n a || eqb n b

-- preparing is accepted
abbrev pub Prepared : Station → Deferred → Type 0
Prepared s d = refusal_in (called s (defer d)).answer ≡ 0

-- a call behind it
abbrev pub after_preparing : Station → Deferred → Verb → Called
after_preparing s d v = called (called s (defer d)).end v

-- what a call leaves, with a turn or an end prepared in the record
abbrev pub in_defer : Deferred → Called → Called
in_defer d m =
    record {
      end =
          record {
            end = with_control (deferred d m.end.end.control) m.end.end;
            send = m.end.send;
            unit = m.end.unit;
            inbox = m.end.inbox;
          };
      answer = m.answer;
      sent = m.sent;
      expedited = m.expedited;
    }

-- A turn or an end that is prepared, and then withdrawn or carried out.
pub record Deferring : Type 0 where
  -- withdrawing after an accepted preparing is accepted, and gives back every field and cell
  pub withdrawn : (s : Station) (d : Deferred) → Prepared s d
      → (refusal_in (after_preparing s d withdraw).answer ≡ 0) × ((after_preparing s d withdraw).end ≡ s)
  -- after an accepted preparing, flush leaves what turn or end without confirmation leaves on the record before, and confirm what they leave with it
  pub carried_out : (s : Station) (d : Deferred) (b : Bool) → Prepared s d
      → CarriedOut (after_preparing s d (close Stay b)) (called s (at_once d b))
  -- it is refused with 4 or 10 alone, and then what was prepared still is
  pub refused : (s : Station) (d : Deferred) (b : Bool) → Prepared s d
      → (refusal_in (after_preparing s d (close Stay b)).answer ≡ 0 → ⊥)
      → (is_one_of BAD_BUFFER NO_CREDIT (refusal_in (after_preparing s d (close Stay b)).answer) ≡ true)
      × ((after_preparing s d (close Stay b)).end ≡ (called s (defer d)).end)
  -- a read, a pacing answer made and a take leave in Defer what they leave in Send, and what was prepared still is
  pub reads : (s : Station) (d : Deferred) (buffer : List ℕ) → Prepared s d → after_preparing s d (receive buffer) ≡ in_defer d (called s (receive buffer))
  pub paces : (s : Station) (d : Deferred) → Prepared s d → after_preparing s d send_pacing_response ≡ in_defer d (called s send_pacing_response)
  pub takes : (s : Station) (d : Deferred) (u : List ℕ) → Prepared s d → taken (called s (defer d)).end u ≡ in_defer d (taken s u)
  pub takes_expedited : (s : Station) (d : Deferred) (u : List ℕ) → Prepared s d → taken_expedited (called s (defer d)).end u ≡ in_defer d (taken_expedited s u)
  -- in Defer a call that is not allowed there is refused with 7 once it passes the questions before; the others never are, and no take is
  pub only : (s : Station) (v : Verb) → is_defer s.end.control.state ≡ true → allowed_in_defer v ≡ false
      → first_no (before_state (questions s v)) ≡ 0 → refusal_in (called s v).answer ≡ WRONG_STATE
  pub allowed : (s : Station) (v : Verb) → is_defer s.end.control.state ≡ true → allowed_in_defer v ≡ true
      → eqb (refusal_in (called s v).answer) WRONG_STATE ≡ false
  pub no_take : (s : Station) (u : List ℕ) → eqb (refusal_in (taken s u).answer) WRONG_STATE ≡ false
