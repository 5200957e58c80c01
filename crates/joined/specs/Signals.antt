-- Signals: on two opened ends the program at one end is told of each signal that the other has made, once, when it is taken.
-- Assumes nothing.
use Rattle.std.specs.Prelude.{ℕ, ◌+◌, ◌≡◌, List, [], ◌∷◌}
use Rattle.session.specs.declared.Session.{Session}
use Rattle.calls.specs.Calls.{Verb}
use Rattle.calls.specs.UnitCounts.{count, among, is_signal_unit, is_response_unit}
use Rattle.joined.specs.Joined.{At, acted, took}
use Rattle.joined.specs.Ends.{Lane, expedited, Buffers, OpeningAccepted}
use Rattle.joined.specs.Histories.{Log}
use Rattle.joined.specs.Claim.{JoinedEnd, Pair, after}

-- among units of the expedited lane, the signals, and the responses to them
abbrev pub signals_among : List (List ℕ) → ℕ
signals_among us = among is_signal_unit us

abbrev pub responses_among : List (List ℕ) → ℕ
responses_among us = among is_response_unit us

-- the signals made at an end
unfoldable pub signals_made : Log → ℕ
signals_made [] = 0
signals_made (acted v r us ∷ es) = signals_among (us expedited) + signals_made es
signals_made (took l u r us ∷ es) = signals_among (us expedited) + signals_made es

-- the answers, of any call and of a take on any lane, that told its program of a signal
unfoldable pub signals_told : Log → ℕ
signals_told [] = 0
signals_told (acted v r us ∷ es) = count r.signalled + signals_told es
signals_told (took l u r us ∷ es) = count r.signalled + signals_told es

-- One way, of the signals that x makes.
pub record Signals (x y : JoinedEnd) : Type 0 where
  -- signals made at x = told at y + on the line to y
  pub told : signals_made x.log ≡ signals_told y.log + signals_among (y.waiting expedited)
  -- one is unanswered at x exactly while it is on the line to y or its response on the line to x; so there is at most one
  pub unanswered : count x.end.end.expedited.unanswered ≡ signals_among (y.waiting expedited) + responses_among (x.waiting expedited)

pub record BothSignals (p : Pair) : Type 0 where
  pub out : Signals p.one p.two
  pub back : Signals p.two p.one

-- EACH SIGNAL IS TOLD ONCE: after every list of calls from two accepted openings, joined or not
abbrev pub TheSignals : Type 0
TheSignals =
    (s t : Session) (b c : Buffers) (l : List (At Lane Verb))
    → OpeningAccepted s b
    → OpeningAccepted t c
    → BothSignals (after s t b c l)
