-- The same conversation while its first speaker has the turn prepared: what is claimed of the two ends then, and what the laws of Defer say of that end, written
-- out in bytes and numbers.
-- Assumes nothing.
use Rattle.std.specs.Prelude.{ℕ, ◌≡◌, true, false, List, [], ◌∷◌, eqb}
use Rattle.logical_record.specs.Positions.{is_whole}
use Rattle.logical_record.specs.declared.Position.TheVariants.{Between}
use Rattle.control.specs.StateTests.{is_send, holds_send}
use Rattle.control.specs.declared.State.TheVariants.{Reset, Receive, DeferTurn}
use Rattle.control.specs.declared.Deferred.TheVariants as deferral
use Rattle.end.specs.Record.{credit_of}
use Rattle.joined.specs.Joined.{run}
use Rattle.joined.specs.Ends.{normal, same_lane, acts, takes}
use Rattle.joined.specs.Claim.{Pair}
use Rattle.calls.specs.Calls.{Station, Verb, flush, prepare_to_receive, refusal_in, called, taken}
use Rattle.calls.specs.DeferLaws.{is_one_of, in_defer}
use Rattle.worked_examples.specs.Stations.{zeros, a_bid}
use Rattle.claim_in_use.specs.Conversation.{ends, begun, early, meanwhile, reply3}

-- the first speaker's end as the turn was about to be prepared
abbrev pub before : Station
before = (run same_lane acts takes ends begun).one.end

-- the turn is prepared
abbrev pub prepared : Pair
prepared = run same_lane acts takes ends early

-- it still is, and there is credit to carry it out
abbrev pub ready : Pair
ready = run same_lane acts takes prepared meanwhile

-- the first speaker's end as it would be if the turn were withdrawn there
abbrev pub sending : Station
sending = (called ready.one.end Verb.withdraw).end

-- the last unit of the first speaker's chain, with CD and the pacing bit
abbrev pub turned : List ℕ
turned = 0x00 ∷ 0x03 ∷ 0x01 ∷ 0x91 ∷ 0x20 ∷ 0x0D ∷ 0x0E ∷ 0x0F ∷ 0x10 ∷ []

-- ---- what happened, by computation

pub record DeferralHappened : Type 0 where
  pub state_prepared : prepared.one.end.end.control.state ≡ DeferTurn
  pub partner_prepared : prepared.two.end.end.control.state ≡ Reset
  pub given_prepared : prepared.one.end.end.sending.given ≡ Between false
  pub credit_prepared : credit_of prepared.one.end.end ≡ 0
  -- flush finds no credit
  pub refused : refusal_in (called prepared.one.end flush).answer ≡ 10
  -- what waits for the bidder: the second unit of data, the bid refusal, a pacing answer
  pub waiting :
      ready.two.waiting normal
      ≡ (0x00 ∷ 0x02 ∷ 0x00 ∷ 0x90 ∷ 0x00 ∷ 0x07 ∷ 0x08 ∷ 0x09 ∷ 0x00 ∷ 0x09 ∷ 0x0A ∷ 0x0B ∷ 0x0C ∷ [])
      ∷ (0x00 ∷ 0x01 ∷ 0xCF ∷ 0x90 ∷ 0x00 ∷ 0x08 ∷ 0x13 ∷ 0x00 ∷ 0x00 ∷ 0x04 ∷ [])
      ∷ (0x00 ∷ 0x00 ∷ 0x83 ∷ 0x01 ∷ 0x00 ∷ [])
      ∷ []
  pub state_ready : ready.one.end.end.control.state ≡ DeferTurn
  pub partner_ready : ready.two.end.end.control.state ≡ Receive
  -- flush makes the unit, and so would turn once the turn is withdrawn
  pub flushed : (called ready.one.end flush).sent ≡ turned ∷ []
  pub turned_instead : (called sending (prepare_to_receive false)).sent ≡ turned ∷ []
  pub again : (called sending (Verb.defer deferral.Turn)).end ≡ ready.one.end

-- ---- what the claim and the laws say

pub record DeferralSaid : Type 0 where
  pub not_both_prepared : holds_send DeferTurn ≡ true → holds_send Reset ≡ true → ⊥
  pub not_both_ready : holds_send DeferTurn ≡ true → holds_send Receive ≡ true → ⊥
  -- nothing given is unfinished
  pub whole : is_send DeferTurn ≡ false → is_whole (Between false) ≡ true
  -- refused for want of credit, the turn is still prepared
  pub still_prepared : (is_one_of 4 10 10 ≡ true) × ((called prepared.one.end flush).end ≡ prepared.one.end)
  -- withdrawn, every field and cell is as before it was prepared
  pub given_back : (called prepared.one.end Verb.withdraw).end ≡ before
  -- flush leaves what turn leaves: the unit, the record and the cells
  pub unit_alike : turned ∷ [] ≡ turned ∷ []
  pub end_alike : (called ready.one.end flush).end.end ≡ (called sending (prepare_to_receive false)).end.end
  pub cells_alike : (called ready.one.end flush).end.unit ≡ (called sending (prepare_to_receive false)).end.unit
  -- the bid is taken as in Send, and the turn stays prepared
  pub bid_taken : taken prepared.one.end a_bid ≡ in_defer deferral.Turn (taken before a_bid)
  -- so do a read, which finds nothing, and a pacing answer, which is not owed
  pub read_alike : called prepared.one.end (Verb.receive (zeros 4)) ≡ in_defer deferral.Turn (called before (Verb.receive (zeros 4)))
  pub pace_alike : called prepared.one.end Verb.send_pacing_response ≡ in_defer deferral.Turn (called before Verb.send_pacing_response)
  -- neither the flush that finds no credit nor the take of the bid is refused with 7
  pub flush_allowed : eqb (refusal_in (called prepared.one.end flush).answer) 7 ≡ false
  pub take_allowed : eqb (refusal_in (taken prepared.one.end a_bid).answer) 7 ≡ false
  -- more data is refused with 7
  pub no_more_data : refusal_in (called ready.one.end (Verb.send_data reply3)).answer ≡ 7

pub record OneDeferral : Type 0 where
  pub happened : DeferralHappened
  pub said : DeferralSaid
