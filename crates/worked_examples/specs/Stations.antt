-- Ends to run examples on: freshly opened, with buffers of zeros; and what calls and takes at them leave.
-- Assumes nothing.
use Rattle.std.specs.Prelude.{ℕ, zero, suc, ◌+◌, ◌*◌, List, [], ◌∷◌, ◌++◌}
use Rattle.session.specs.declared.Session.{Session}
use Rattle.joined.specs.Joined.{Took, Both, At, run}
use Rattle.calls.specs.Calls as J
use Rattle.joined.specs.Ends.{Lane, normal, same_lane, Buffers, acts, takes, opened_with, opened_both}
use Rattle.calls.specs.Calls.{Reply, Station, Verb}

abbrev pub zeros : ℕ → List ℕ
zeros zero = []
zeros (suc n) = 0 ∷ zeros n

-- the role, and the same window and maximum both ways
abbrev pub session : ℕ → ℕ → ℕ → Session
session role window max = record { role = role; outwindow = window; inwindow = window; outmax = max; inmax = max }

-- send buffer M, unit buffer M+5, inbox W×M
abbrev pub buffers : ℕ → ℕ → Buffers
buffers window max = record { send = zeros max; unit = zeros (max + 5); inbox = zeros (window * max) }

abbrev pub first_speaker : ℕ → ℕ → Station
first_speaker window max = (opened_with (session 0 window max) (buffers window max)).end

abbrev pub bidder : ℕ → ℕ → Station
bidder window max = (opened_with (session 1 window max) (buffers window max)).end

-- ---- calls

-- the station after calls, and the units that a call then makes
abbrev pub after : Station → List Verb → Station
after s [] = s
after s (v ∷ vs) = after (acts s v).end vs

abbrev pub makes : Station → Verb → List (List ℕ)
makes s v = (acts s v).sent normal

-- the units that calls in a row make
abbrev pub units_made : Station → List Verb → List (List ℕ)
units_made s [] = []
units_made s (v ∷ vs) = makes s v ++ units_made (acts s v).end vs

abbrev pub refuses : Station → Verb → ℕ
refuses s v = (acts s v).answer.answer.answer.refusal

-- ---- takes

abbrev pub taking : Station → List ℕ → Took Lane Station Reply (List ℕ)
taking s u = takes normal s u

-- its refusal number
abbrev pub take_refuses : Station → List ℕ → ℕ
take_refuses s u = (taking s u).answer.answer.answer.refusal

-- the station after takes in a row, and their refusal numbers
abbrev pub after_taking : Station → List (List ℕ) → Station
after_taking s [] = s
after_taking s (u ∷ us) = after_taking (taking s u).end us

abbrev pub takes_refuse : Station → List (List ℕ) → List ℕ
takes_refuse s [] = []
takes_refuse s (u ∷ us) = take_refuses s u ∷ takes_refuse (taking s u).end us

-- ---- two joined ends

abbrev pub joined : ℕ → ℕ → Both Lane Station Verb Reply (List ℕ)
joined window max = opened_both (session 0 window max) (session 1 window max) (buffers window max) (buffers window max)

abbrev pub runs : Both Lane Station Verb Reply (List ℕ) → List (At Lane Verb) → Both Lane Station Verb Reply (List ℕ)
runs s l = run same_lane acts takes s l

-- ---- W 3 and M 64

-- a record of LL alone; given and flushed it is a unit
abbrev pub shortest_record : List ℕ
shortest_record = 0x00 ∷ 0x02 ∷ []

abbrev pub flushed : List Verb
flushed = Verb.send_data shortest_record ∷ J.flush ∷ []

-- the first three such units of a first speaker
abbrev pub first_unit : List ℕ
first_unit = 0x00 ∷ 0x01 ∷ 0x03 ∷ 0x91 ∷ 0x80 ∷ 0x00 ∷ 0x02 ∷ []

abbrev pub second_unit : List ℕ
second_unit = 0x00 ∷ 0x02 ∷ 0x03 ∷ 0x90 ∷ 0x00 ∷ 0x00 ∷ 0x02 ∷ []

abbrev pub third_unit : List ℕ
third_unit = 0x00 ∷ 0x03 ∷ 0x03 ∷ 0x90 ∷ 0x00 ∷ 0x00 ∷ 0x02 ∷ []

-- the first bid of a bidder
abbrev pub a_bid : List ℕ
a_bid = 0x00 ∷ 0x01 ∷ 0x4B ∷ 0x81 ∷ 0x80 ∷ 0x04 ∷ 0x00 ∷ 0x06 ∷ 0x00 ∷ 0x00 ∷ []

abbrev pub a_pacing_answer : List ℕ
a_pacing_answer = 0x00 ∷ 0x00 ∷ 0x83 ∷ 0x01 ∷ 0x00 ∷ []

-- a first speaker in Send: nothing given; one unit sent; two sent
abbrev pub sending : Station
sending = after (first_speaker 3 64) (Verb.allocate ∷ [])

abbrev pub one_sent : Station
one_sent = after sending flushed

abbrev pub two_sent : Station
two_sent = after one_sent flushed

-- a bidder that has bid, under number 1
abbrev pub has_bid : Station
has_bid = after (bidder 3 64) (Verb.allocate ∷ [])

-- a bidder in Receive, one unit taken: number 2 is next, its pacing bit off
abbrev pub receiving : Station
receiving = after_taking (bidder 3 64) (first_unit ∷ [])
