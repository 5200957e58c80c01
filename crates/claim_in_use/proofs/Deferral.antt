-- The claim and the laws of Defer read off the conversation while the turn is prepared.
-- Assumes nothing.
use Prim.Native.Nat.{ℕ}
use mathlib.Core.Path.{◌≡◌, refl}
use mathlib.Core.Bool.{false}
use mathlib.Core.List.{◌++◌}
use native.Mathlib.Omega.{arith}
use Rattle.control.specs.declared.Deferred.TheVariants as deferral
use Rattle.joined.specs.Claim.{Claim, TheRecords}
use Rattle.calls.specs.Calls.{Verb, flush}
use Rattle.calls.specs.DeferLaws.{Deferring}
use Rattle.worked_examples.specs.Computed.{computed}
use Rattle.worked_examples.specs.Stations.{zeros, a_bid}
use Rattle.claim_in_use.specs.Conversation.{speaker, bidder, lent, early, meanwhile, reply3}
use Rattle.claim_in_use.specs.Deferral.{before, prepared, ready, sending, DeferralHappened, DeferralSaid, OneDeferral}
use Rattle.claim_in_use.proofs.Conversation.{asked}

happened : DeferralHappened
unfolding computed
happened =
    record {
      state_prepared = refl;
      partner_prepared = refl;
      given_prepared = refl;
      credit_prepared = refl;
      refused = refl;
      waiting = refl;
      state_ready = refl;
      partner_ready = refl;
      flushed = refl;
      turned_instead = refl;
      again = refl;
    }

module _ (claim : Claim) (records : TheRecords) (laws : Deferring) where
  said : DeferralSaid
  unfolding computed
  said =
      let open' = asked.openings in
      let carried = laws.carried_out sending deferral.Turn false refl in
      record {
        not_both_prepared = (claim speaker bidder lent lent early open').0.not_both;
        not_both_ready = (claim speaker bidder lent lent (early ++ meanwhile) open').0.not_both;
        whole = (records speaker bidder lent lent early open').one.whole;
        still_prepared = laws.refused before deferral.Turn false refl (λ z. let y : ◌≡◌ {A = ℕ} 10 0 = z in omega arith);
        given_back = (laws.withdrawn before deferral.Turn refl).1;
        unit_alike = carried.sent;
        end_alike = carried.end refl;
        cells_alike = carried.unit_buffer;
        bid_taken = laws.takes before deferral.Turn a_bid refl;
        read_alike = laws.reads before deferral.Turn (zeros 4) refl;
        pace_alike = laws.paces before deferral.Turn refl;
        flush_allowed = laws.allowed prepared.one.end flush refl refl;
        take_allowed = laws.no_take prepared.one.end a_bid;
        no_more_data = laws.only ready.one.end (Verb.send_data reply3) refl refl refl;
      }

  pub one_deferral : OneDeferral
  one_deferral = record { happened = happened; said = said }
