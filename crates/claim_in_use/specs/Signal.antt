-- The same conversation where its bidder asks for the turn: what is claimed of the two ends while the signal is on the line and while its response is; and
-- what the laws of signals say of the ends, written out in bytes and numbers.
-- Assumes nothing.
use Rattle.std.specs.Prelude.{ℕ, ◌+◌, ◌≡◌, true, false, List, [], ◌∷◌, ◌++◌}
use Rattle.control.specs.declared.State.TheVariants.{Receive, DeferTurn}
use Rattle.control.specs.declared.Deferred.TheVariants as deferral
use Rattle.expedited.specs.Signals.{signal_made, signal_taken, response_taken}
use Rattle.end.specs.Outcome.{with_expedited}
use Rattle.end.specs.Record.{credit_of}
use Rattle.joined.specs.Joined.{At, run}
use Rattle.joined.specs.Ends.{Lane, expedited, same_lane, acts, takes}
use Rattle.joined.specs.Histories.{breaches, requests_made, pacing_responses_taken}
use Rattle.joined.specs.Signals.{signals_made, signals_told}
use Rattle.joined.specs.Claim.{Pair}
use Rattle.calls.specs.Calls.{Verb, refusal_in, called, taken, taken_expedited}
use Rattle.calls.specs.DeferLaws.{in_defer}
use Rattle.worked_examples.specs.Stations.{a_bid}
use Rattle.claim_in_use.specs.Conversation.{ends, early, crossing, requesting, signalling, a_signal}
use Rattle.claim_in_use.specs.Deferral.{before, prepared}

-- the response to the first signal
abbrev pub an_answer : List ℕ
an_answer = 0x00 ∷ 0x01 ∷ 0xCB ∷ 0x80 ∷ 0x00 ∷ 0xC9 ∷ []

-- ---- the moments

-- the bidder receives, and has taken one unit of data
abbrev pub until_asked : List (At Lane Verb)
until_asked = early ++ crossing

abbrev pub receives : Pair
receives = run same_lane acts takes ends until_asked

-- its signal is on the line
abbrev pub until_signal : List (At Lane Verb)
until_signal = until_asked ++ requesting

abbrev pub asked : Pair
asked = run same_lane acts takes ends until_signal

-- the first speaker was told, and the response is on the line
abbrev pub until_told : List (At Lane Verb)
until_told = until_signal ++ signalling

abbrev pub told : Pair
told = run same_lane acts takes ends until_told

-- ---- what happened, by computation

pub record SignalHappened : Type 0 where
  pub state_asked : asked.two.end.end.control.state ≡ Receive
  pub partner_asked : asked.one.end.end.control.state ≡ DeferTurn
  pub accepted : refusal_in (called receives.two.end Verb.request_to_send).answer ≡ 0
  pub line_asked : asked.one.waiting expedited ≡ a_signal ∷ []
  pub counts_asked : (signals_made asked.two.log ≡ 1) × (signals_told asked.one.log ≡ 0)
  pub taken_signal : refusal_in (taken_expedited asked.one.end a_signal).answer ≡ 0
  pub state_told : told.one.end.end.control.state ≡ DeferTurn
  pub line_told : told.two.waiting expedited ≡ an_answer ∷ []
  pub counts_told : (signals_made told.two.log ≡ 1) × (signals_told told.one.log ≡ 1)
  pub flag_told : told.two.end.end.expedited.unanswered ≡ true
  pub taken_answer : refusal_in (taken_expedited told.two.end an_answer).answer ≡ 0
  -- the requests made by the bidder are its bid alone, and the signal cost no credit
  pub requests_told : (requests_made told.two.log ≡ 1) × (credit_of told.two.end.end ≡ 1) × (pacing_responses_taken told.two.log ≡ 0)

-- ---- what the claims and the laws say

pub record SignalSaid : Type 0 where
  -- made = told + on the line: while the signal is on it, and once it is taken
  pub told_asked : 1 ≡ 0 + 1
  pub told_told : 1 ≡ 1 + 0
  -- unanswered = the signal on its way + the response on its way back
  pub unanswered_asked : 1 ≡ 1 + 0
  pub unanswered_told : 1 ≡ 0 + 1
  -- the credit count leaves the signal out: W 2, one request made, no pacing answer taken
  pub credit_told : 1 + 1 ≡ 2
  pub no_breach : breaches told.one.log ≡ 0
  -- the request makes the signal numbered 1, and changes nothing else of the record
  pub unit_made : (called receives.two.end Verb.request_to_send).expedited ≡ a_signal ∷ []
  pub only_signal :
      (called receives.two.end Verb.request_to_send).end.end ≡ with_expedited (signal_made receives.two.end.end.expedited) receives.two.end.end
  -- it makes no unit for the normal line, changes no byte given or taken before, and tells nobody where it is made
  pub request_apart : ((called receives.two.end Verb.request_to_send).sent ≡ [])
      × ((called receives.two.end Verb.request_to_send).end.send ≡ receives.two.end.send)
      × ((called receives.two.end Verb.request_to_send).end.inbox ≡ receives.two.end.inbox)
  pub not_told_here : (called receives.two.end Verb.request_to_send).answer.signalled ≡ false
  -- a second one is refused
  pub one_at_a_time : refusal_in (called asked.two.end Verb.request_to_send).answer ≡ 0 → ⊥
  -- the take, in Defer, tells the program and makes the response under the same number
  pub program_told : (taken_expedited asked.one.end a_signal).answer.signalled ≡ true
  pub answer_made : (taken_expedited asked.one.end a_signal).expedited ≡ an_answer ∷ []
  pub number_kept :
      (taken_expedited asked.one.end a_signal).end.end ≡ with_expedited (signal_taken 1 asked.one.end.end.expedited) asked.one.end.end
  pub take_apart : ((taken_expedited asked.one.end a_signal).sent ≡ [])
      × ((taken_expedited asked.one.end a_signal).end.send ≡ asked.one.end.send)
      × ((taken_expedited asked.one.end a_signal).end.inbox ≡ asked.one.end.inbox)
  pub in_defer_lem : taken_expedited prepared.one.end a_signal ≡ in_defer deferral.Turn (taken_expedited before a_signal)
  -- the take of the response tells nobody, makes nothing and clears the flag
  pub untold : (taken_expedited told.two.end an_answer).answer.signalled ≡ false
  pub nothing_made : (taken_expedited told.two.end an_answer).expedited ≡ []
  pub cleared :
      (taken_expedited told.two.end an_answer).end.end ≡ with_expedited (response_taken told.two.end.end.expedited) told.two.end.end
  -- the bid's take makes no unit for the expedited line and tells of no signal; the pacing answer leaves what is kept of the expedited lines
  pub bid_apart : (taken prepared.one.end a_bid).expedited ≡ []
  pub bid_tells_nothing : (taken prepared.one.end a_bid).answer.signalled ≡ false
  pub pacing_apart : (called prepared.one.end Verb.send_pacing_response).end.end.expedited ≡ prepared.one.end.end.expedited

pub record OneSignal : Type 0 where
  pub happened : SignalHappened
  pub said : SignalSaid
