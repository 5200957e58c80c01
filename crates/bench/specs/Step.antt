-- One step on the bench: a request at one end, with the two lines to it and the two lines to the other end, against the joined ends of the claims.
-- Assumes nothing.
use Rattle.std.specs.Prelude.{ℕ, ◌≡◌, Bool, false, cond, List, [], ◌∷◌, ◌++◌, leb, eqb, length, Option, Some, None, Result, Ok, Err, IfOk, IfErr}
use Rattle.end.specs.declared.End.{End}
use Rattle.answers.specs.declared.ReadAnswer.{ReadAnswer}
use Rattle.joined.specs.Lanes.{Lines}
use Rattle.joined.specs.Joined as joined
use Rattle.joined.specs.Joined.{Local, apply, acted, took}
use Rattle.calls.specs.Calls as J
use Rattle.joined.specs.Ends.{Lane, normal, expedited, same_lane, acts, takes}
use Rattle.joined.specs.Histories.{Log}
use Rattle.script.specs.declared.Request.{Request}
use Rattle.script.specs.declared.Request.TheVariants.{Call, Take, Offer}
use Rattle.unit_lines.specs.declared.Line.{Line}
use Rattle.bench.specs.declared.Pair.{Pair}
use Rattle.bench.specs.declared.Stepped.{Stepped}
use Rattle.bench.specs.declared.NotMade.{NotMade}
use Rattle.bench.specs.declared.NotMade.TheVariants.{NothingWaiting, Full}
use Rattle.unit_lines.specs.UnitLine.{MOST_UNITS, Holds}
use Rattle.bench.specs.CallMade.{verb_of, is_read, station_of, verb_lane, flow_lane}
use Rattle.calls.specs.Calls.{Reply, Station}

-- ---- four lines

-- The two lines of one lane, each with its cells: the line to this end, and the line to the other end.
pub record Ways : Type 0 where
  pub from : Line
  pub waiting : List ℕ
  pub to : Line
  pub far : List ℕ

abbrev pub ways_of : Pair → List ℕ → List ℕ → Ways
ways_of p waiting far = record { from = p.from; waiting = waiting; to = p.to; far = far }

-- the first on the lane l, the second on the other
abbrev pub placed : Lane → Ways → Ways → Lane → Ways
placed normal here there normal = here
placed normal here there expedited = there
placed expedited here there normal = there
placed expedited here there expedited = here

-- What a step is lent and leaves: an end with its buffers; the buffer of a read; and the lines.
pub record Bench : Type 0 where
  pub station : Station
  pub buffer : List ℕ
  pub lines : Lane → Ways

abbrev pub bench_of : End → List ℕ → List ℕ → List ℕ → List ℕ → (Lane → Ways) → Bench
bench_of e send unit inbox buffer lines = record { station = station_of e send unit inbox; buffer = buffer; lines = lines }

-- the lines hold these units: us wait for this end, vs for the other
pub record Held (lines : Lane → Ways) (us vs : Lines Lane (List ℕ)) : Type 0 where
  pub waiting_are : (k : Lane) → Holds (lines k).from (lines k).waiting (us k)
  pub far_are : (k : Lane) → Holds (lines k).to (lines k).far (vs k)

-- ---- which outcome

-- the lane of the line that the request takes from, and of the one that its unit would join
abbrev pub lane_of : Request → Lane
lane_of (Call v) = verb_lane v
lane_of (Take f) = flow_lane f
lane_of (Offer f) = flow_lane f

abbrev pub unless_full : List (List ℕ) → Option NotMade
unless_full vs = cond (leb MOST_UNITS (length vs)) (Some Full) None

-- by the two lines of the request's lane: why it is not made; none, if it is answered
abbrev pub outcome_on : Request → List (List ℕ) → List (List ℕ) → Option NotMade
outcome_on (Call v) us vs = unless_full vs
outcome_on (Take f) [] vs = Some NothingWaiting
outcome_on (Take f) (u ∷ us) vs = unless_full vs
outcome_on (Offer f) us vs = unless_full vs

-- a take with nothing waiting is no call; any other request is answered unless the line that its unit would join is full
abbrev pub outcome_of : Request → Lines Lane (List ℕ) → Lines Lane (List ℕ) → Option NotMade
outcome_of q us vs = outcome_on q (us (lane_of q)) (vs (lane_of q))

-- a take that is accepted, by its refusal number
abbrev pub accepted : ℕ → Bool
accepted q = eqb q 0

-- ---- what a step hands back

abbrev pub why_not : Result Stepped NotMade → Option NotMade
why_not (Ok s) = None
why_not (Err w) = Some w

-- the end and the lines afterwards: where the request is not made, those before
abbrev pub end_left : End → Result Stepped NotMade → End
end_left e (Ok s) = s.told.end
end_left e (Err w) = e

abbrev pub lines_left : Pair → Result Stepped NotMade → Pair
lines_left p (Ok s) = s.lines
lines_left p (Err w) = p

-- ---- what an answered request leaves

-- an offered unit is taken or refused as one from its line is, and no unit goes from the line
abbrev pub offer : Lane → Station → Log → Lines Lane (List ℕ) → List ℕ → Local Lane Station J.Verb Reply (List ℕ)
offer l s es us u =
    let t = takes l s u in
    record { side = record { end = t.end; waiting = us; log = took l u t.answer t.sent ∷ es }; sent = t.sent }

-- the call of the joined ends, at this end with its lines and what has happened at it
abbrev pub local_of : Request → List ℕ → Bench → Log → Lines Lane (List ℕ) → Local Lane Station J.Verb Reply (List ℕ)
local_of (Call v) given b es us = apply same_lane acts takes b.station es us (joined.act (verb_of v given b.buffer))
local_of (Take f) given b es us = apply same_lane acts takes b.station es us (joined.take (flow_lane f))
local_of (Offer f) given b es us = offer (flow_lane f) b.station es us given

abbrev pub reads : Request → Bool
reads (Call v) = is_read v
reads (Take f) = false
reads (Offer f) = false

-- only a read's reply has the cells of a buffer
abbrev pub reply_to : Request → ReadAnswer → Bool → List ℕ → Reply
reply_to q a signalled buffer = record { answer = a; buffer = cond (reads q) buffer []; signalled = signalled }

-- the newest of what has happened was answered so
abbrev pub Newest : Reply → Log → Type 0
Newest r [] = ⊥
Newest r (acted v a us ∷ es) = r ≡ a
Newest r (took l u a us ∷ es) = r ≡ a

-- the end, the lines and the answer are those that the call leaves; vs waited for the other end
pub record Leaves (b : Bench) (reply : Reply) (vs : Lines Lane (List ℕ)) (l : Local Lane Station J.Verb Reply (List ℕ)) : Type 0 where
  pub station_is : b.station ≡ l.side.end
  pub waiting_are : (k : Lane) → Holds (b.lines k).from (b.lines k).waiting (l.side.waiting k)
  pub far_are : (k : Lane) → Holds (b.lines k).to (b.lines k).far (vs k ++ l.sent k)
  pub answer_is : Newest reply l.side.log

-- ---- the step, from b to b₁, where us wait for this end and vs for the other
pub record Steps (q : Request) (given : List ℕ) (b : Bench) (r : Result Stepped NotMade) (b₁ : Bench) (es : Log)
    (us vs : Lines Lane (List ℕ)) : Type 0 where
  pub outcome_is : why_not r ≡ outcome_of q us vs
  pub answered : IfOk r (λ s. Leaves b₁ (reply_to q s.told.answer s.told.signalled b₁.buffer) vs (local_of q given b es us))
  -- no other request than a read touches the read's buffer
  pub unread : reads q ≡ false → b₁.buffer ≡ b.buffer
  -- a request that is not answered changes nothing
  pub unchanged : IfErr r (λ w. b₁ ≡ b)

-- the step, whatever the lines hold and whatever has happened at this end
abbrev pub StepsTo : Request → List ℕ → Bench → Result Stepped NotMade → Bench → Type 0
StepsTo q given b r b₁ = (es : Log) (us vs : Lines Lane (List ℕ)) → Held b.lines us vs → Steps q given b r b₁ es us vs
