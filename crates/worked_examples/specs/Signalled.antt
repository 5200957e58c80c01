-- Request to send (document 02, S-1). W 3 and M 64 unless said.
-- Assumes nothing.
use Rattle.std.specs.Prelude.{ℕ, ◌≡◌, Bool, true, false, List, [], ◌∷◌}
use Rattle.control.specs.declared.State.TheVariants.{Send, Receive, ConfirmOwed, DeferTurn}
use Rattle.control.specs.declared.WhatReceived.TheVariants as mark
use Rattle.expedited.specs.declared.Expedited.{Expedited}
use Rattle.answers.specs.declared.Answer.{Answer}
use Rattle.end.specs.Outcome.{with_expedited}
use Rattle.calls.specs.Calls as J
use Rattle.calls.specs.Calls.{Station, Verb, Reply, expedited_reply}
use Rattle.joined.specs.Joined.{Took, Both, first, second, act, take}
use Rattle.joined.specs.Ends.{Lane, normal, expedited, acts, takes, on_expedited}
use Rattle.joined.specs.Signals.{signals_made, signals_told}
use Rattle.worked_examples.specs.Stations.{bidder, after, makes, joined, runs, shortest_record, sending, receiving}
use Rattle.worked_examples.specs.Breaches.{Refused, Names, owes, waits, defers_turn, marked, state_of}
use Rattle.worked_examples.specs.Parts.{RefusedCall}

-- ---- units and ends

-- a signal under the number n, and the response to it
abbrev pub signal : ℕ → List ℕ
signal n = 0x00 ∷ n ∷ 0x4B ∷ 0x80 ∷ 0x00 ∷ 0xC9 ∷ 0x00 ∷ 0x01 ∷ 0x00 ∷ 0x00 ∷ []

abbrev pub response : ℕ → List ℕ
response n = 0x00 ∷ n ∷ 0xCB ∷ 0x80 ∷ 0x00 ∷ 0xC9 ∷ []

-- what a call makes for the expedited line, and a take on it
abbrev pub signals : Station → Verb → List (List ℕ)
signals s v = (acts s v).sent expedited

abbrev pub taking_expedited : Station → List ℕ → Took Lane Station Reply (List ℕ)
taking_expedited s u = takes expedited s u

-- s with these values of the expedited lines
abbrev pub keeping : Bool → ℕ → ℕ → Station → Station
keeping unanswered sent taken s =
    record {
      end = with_expedited (record { unanswered = unanswered; sent = sent; taken = taken }) s.end;
      send = s.send;
      unit = s.unit;
      inbox = s.inbox;
    }

abbrev pub keeps : Station → Expedited
keeps s = s.end.expedited

-- one whose signal, under number 1, is unanswered
abbrev pub asked : Station
asked = after receiving (Verb.request_to_send ∷ [])

-- a take on the expedited line is refused with this answer: nothing is changed or made, and the program is told nothing
abbrev pub RefusedThere : Station → List ℕ → Answer → Type 0
RefusedThere s u answer =
    takes expedited s u
    ≡ record { end = s; answer = expedited_reply (record { answer = answer; signalled = false }); sent = on_expedited []; removed = false }

abbrev pub NotTaken : Station → List ℕ → ℕ → ℕ → Type 0
NotTaken s u number sense = RefusedThere s u (record { refusal = number; sense = sense; rule = 0; unit = 0 })

abbrev pub Breaks : Station → List ℕ → ℕ → Type 0
Breaks s u rule = RefusedThere s u (record { refusal = 21; sense = 0; rule = rule; unit = 0 })

-- ---- "in Receive or Owes it makes the expedited SIGNAL, header 4B 80 00, RU C9 00 01 00 00" .. "A signal changes no state"

pub record Requests : Type 0 where
  pub in_receive : signals receiving Verb.request_to_send ≡ signal 1 ∷ []
  pub in_owes : signals owes Verb.request_to_send ≡ signal 1 ∷ []
  pub none_normal : makes receiving Verb.request_to_send ≡ []
  pub kept : keeps asked ≡ record { unanswered = true; sent = 1; taken = 0 }
  pub no_state : (state_of asked ≡ Receive) × (state_of (after owes (Verb.request_to_send ∷ [])) ≡ ConfirmOwed)
  -- a normal request then takes the number and the credit that it would have had
  pub normal_number : asked.end.sending ≡ receiving.end.sending
  pub in_reset : RefusedCall (bidder 3 64) Verb.request_to_send 7
  pub in_send_lem : RefusedCall sending Verb.request_to_send 7
  pub in_waits : RefusedCall waits Verb.request_to_send 7
  pub in_defer_lem : RefusedCall defers_turn Verb.request_to_send 7
  -- "Turned away: 30, a signal is still unanswered, after 7."
  pub twice : RefusedCall asked Verb.request_to_send 30
  pub state_first : RefusedCall (keeping true 1 0 sending) Verb.request_to_send 7
  -- the number after 65,535 is 0
  pub wraps : signals (keeping false 65535 0 receiving) Verb.request_to_send ≡ signal 0 ∷ []

-- ---- "The take of a signal makes its answer, under the signal's number; the take of the answer clears the flag. The answer of the take
-- tells the far program"

pub record Answers : Type 0 where
  pub made : (taking_expedited sending (signal 1)).sent expedited ≡ response 1 ∷ []
  pub told : (taking_expedited sending (signal 1)).answer.signalled ≡ true
  pub kept : keeps (taking_expedited sending (signal 1)).end ≡ record { unanswered = false; sent = 0; taken = 1 }
  pub no_state : state_of (taking_expedited sending (signal 1)).end ≡ Send
  pub under_mark : (marked.end.control.mark ≡ mark.Turn) × ((taking_expedited marked (signal 1)).answer.signalled ≡ true)
  pub in_defer_lem : ((taking_expedited defers_turn (signal 1)).answer.signalled ≡ true) × (state_of (taking_expedited defers_turn (signal 1)).end ≡ DeferTurn)
  pub in_reset : (taking_expedited (bidder 3 64) (signal 1)).answer.signalled ≡ true
  pub wraps : (taking_expedited (keeping false 0 65535 sending) (signal 0)).sent expedited ≡ response 0 ∷ []
  pub cleared : keeps (taking_expedited asked (response 1)).end ≡ record { unanswered = false; sent = 1; taken = 0 }
  pub untold : (taking_expedited asked (response 1)).answer.signalled ≡ false
  pub nothing_made : (taking_expedited asked (response 1)).sent expedited ≡ []

-- ---- "On the expedited lines H1 allows byte 0 4B or CB alone, H2 these two headers, 22 these two RUs" .. "28 asking of an answer .."

pub record Questions : Type 0 where
  pub short : NotTaken asked (0x00 ∷ 0x01 ∷ 0x4B ∷ 0x80 ∷ []) 20 0x40050000
  pub confirmation : Breaks asked (0x00 ∷ 0x01 ∷ 0x83 ∷ 0x20 ∷ 0x00 ∷ []) 1
  pub bid : Breaks asked (0x00 ∷ 0x01 ∷ 0x4B ∷ 0x81 ∷ 0x80 ∷ 0x04 ∷ 0x00 ∷ 0x06 ∷ 0x00 ∷ 0x00 ∷ []) 2
  pub negative : Breaks asked (0x00 ∷ 0x01 ∷ 0xCB ∷ 0x90 ∷ 0x00 ∷ 0xC9 ∷ []) 2
  -- on the normal line a signal's header breaks H2, and its response is read as a grant with a wrong RU
  pub signal_there : Names receiving (signal 2) 2
  pub response_there : Refused receiving (response 1) 22 0x10020000
  -- the manual's signal, whose code is 00 01 00 01; a grant
  pub manual : NotTaken asked (0x00 ∷ 0x01 ∷ 0x4B ∷ 0x80 ∷ 0x00 ∷ 0xC9 ∷ 0x00 ∷ 0x01 ∷ 0x00 ∷ 0x01 ∷ []) 22 0x10020000
  pub grant : NotTaken asked (0x00 ∷ 0x01 ∷ 0xCB ∷ 0x80 ∷ 0x00 ∷ 0x04 ∷ []) 22 0x10020000
  pub no_ru : NotTaken asked (0x00 ∷ 0x01 ∷ 0xCB ∷ 0x80 ∷ 0x00 ∷ []) 22 0x10020000
  pub not_next : NotTaken asked (signal 2) 23 0x20010000
  pub again : NotTaken (taking_expedited sending (signal 1)).end (signal 1) 23 0x20010000
  pub another_number : NotTaken asked (response 2) 28 0x200E0000
  pub not_asked : NotTaken receiving (response 0) 28 0x200E0000

-- ---- signals both ways that cross: the turn is on the line, so both ends receive

abbrev pub crossed : Both Lane Station Verb Reply (List ℕ)
crossed =
    runs (joined 3 64)
    (first (act Verb.allocate)
    ∷ first (act (Verb.send_data shortest_record))
    ∷ first (act (J.prepare_to_receive false))
    ∷ second (take normal)
    ∷ second (act Verb.request_to_send)
    ∷ first (act Verb.request_to_send)
    ∷ [])

abbrev pub answered : Both Lane Station Verb Reply (List ℕ)
answered = runs crossed (first (take expedited) ∷ second (take expedited) ∷ first (take expedited) ∷ second (take expedited) ∷ [])

pub record Crossing : Type 0 where
  -- the first speaker has given the turn and the bidder has not yet read that: each asks for it
  pub made : (signals_made crossed.one.log ≡ 1) × (signals_made crossed.two.log ≡ 1)
  pub waiting : (crossed.one.waiting expedited ≡ signal 1 ∷ []) × (crossed.two.waiting expedited ≡ signal 1 ∷ [])
  -- each is told, and each has its answer
  pub told : (signals_told answered.one.log ≡ 1) × (signals_told answered.two.log ≡ 1)
  pub kept : (keeps answered.one.end ≡ record { unanswered = false; sent = 1; taken = 1 }) × (keeps answered.two.end ≡ keeps answered.one.end)

pub record Signalled : Type 0 where
  pub requests : Requests
  pub answers : Answers
  pub questions : Questions
  pub crossing : Crossing
