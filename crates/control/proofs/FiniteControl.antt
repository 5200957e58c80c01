-- A test at every value of the finite part of a record, which antt computes.
-- Assumes nothing.
use mathlib.Core.Path.{◌≡◌}
use mathlib.Core.Bool.{Bool, true, ◌&&◌}
use Rattle.bools.proofs.Finite.{Finite, halves, pairs, bools}
use Rattle.header.specs.declared.Follows.{Follows}
use Rattle.header.proofs.FiniteHeader.{follows}
use Rattle.control.specs.declared.Role.{Role}
use Rattle.control.specs.declared.Role.TheVariants.{FirstSpeaker, Bidder}
use Rattle.control.specs.declared.State.{State}
use Rattle.control.specs.declared.State.TheVariants.{Reset, Send, Receive, ConfirmOwed, ConfirmAwaited, DeferTurn, DeferEnd}
use Rattle.control.specs.declared.WhatReceived.{WhatReceived}
use Rattle.control.specs.declared.WhatReceived.TheVariants as mark
use Rattle.control.specs.declared.Control.{Control}

pub at_role : (f : Role → Bool) → f FirstSpeaker && f Bidder ≡ true → (r : Role) → f r ≡ true
at_role f t FirstSpeaker = search halves
at_role f t Bidder = search halves

abbrev pub roles : Finite Role
roles = record { all = λ f. f FirstSpeaker && f Bidder; at = at_role }

abbrev pub all_states : (State → Bool) → Bool
all_states f = f Reset && (f Send && (f Receive && (f ConfirmOwed && (f ConfirmAwaited && (f DeferTurn && f DeferEnd)))))

pub at_state : (f : State → Bool) → all_states f ≡ true → (s : State) → f s ≡ true
at_state f t Reset = search halves depth 9
at_state f t Send = search halves depth 9
at_state f t Receive = search halves depth 9
at_state f t ConfirmOwed = search halves depth 9
at_state f t ConfirmAwaited = search halves depth 9
at_state f t DeferTurn = search halves depth 9
at_state f t DeferEnd = search halves depth 9

abbrev pub states : Finite State
states = record { all = all_states; at = at_state }

abbrev pub all_marks : (WhatReceived → Bool) → Bool
all_marks f = f mark.Nothing && (f mark.Turn && (f mark.End && (f mark.Confirm && (f mark.ConfirmTurn && (f mark.ConfirmEnd && f mark.Error)))))

pub at_mark : (f : WhatReceived → Bool) → all_marks f ≡ true → (m : WhatReceived) → f m ≡ true
at_mark f t mark.Nothing = search halves depth 9
at_mark f t mark.Turn = search halves depth 9
at_mark f t mark.End = search halves depth 9
at_mark f t mark.Confirm = search halves depth 9
at_mark f t mark.ConfirmTurn = search halves depth 9
at_mark f t mark.ConfirmEnd = search halves depth 9
at_mark f t mark.Error = search halves depth 9

abbrev pub marks : Finite WhatReceived
marks = record { all = all_marks; at = at_mark }

-- the fields but for the receiving chain, of which no test here asks: it stays a variable where a law is computed
abbrev pub Fields : Type 0
Fields = Role × (State × (Follows × (WhatReceived × (Bool × (Bool × (Bool × Bool))))))

abbrev pub of_fields : Bool → Fields → Control
of_fields chain p =
    record {
      role = p.0;
      state = p.1.0;
      follows = p.1.1.0;
      mark = p.1.1.1.0;
      due = p.1.1.1.1.0;
      error = p.1.1.1.1.1.0;
      bid = p.1.1.1.1.1.1.0;
      outchain = p.1.1.1.1.1.1.1;
      inchain = chain;
    }

abbrev pub fields_of : Control → Fields
fields_of c = (c.role, (c.state, (c.follows, (c.mark, (c.due, (c.error, (c.bid, c.outchain)))))))

abbrev pub fields : Finite Fields
fields = pairs roles (pairs states (pairs follows (pairs marks (pairs bools (pairs bools (pairs bools bools))))))

-- a test at every control with this receiving chain
abbrev pub all_controls : (Control → Bool) → Bool → Bool
all_controls f chain = fields.all (λ p. f (of_fields chain p))

pub at_control : (f : Control → Bool) → ((chain : Bool) → all_controls f chain ≡ true) → (c : Control) → f c ≡ true
at_control f t c = fields.at (λ p. f (of_fields c.inchain p)) (t c.inchain) (fields_of c)
