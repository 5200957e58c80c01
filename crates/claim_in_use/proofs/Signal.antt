-- The claims and the laws of signals read off the conversation where its bidder asks for the turn.
-- Assumes nothing.
use mathlib.Core.Path.{refl}
use Rattle.control.specs.declared.Deferred.TheVariants as deferral
use Rattle.joined.specs.Claim.{Claim}
use Rattle.joined.specs.Signals.{TheSignals}
use Rattle.calls.specs.Calls.{Verb}
use Rattle.calls.specs.DeferLaws.{Deferring}
use Rattle.calls.specs.ExpeditedLaws.{Signalling}
use Rattle.worked_examples.specs.Computed.{computed}
use Rattle.worked_examples.specs.Stations.{a_bid}
use Rattle.claim_in_use.specs.Conversation.{speaker, bidder, lent, a_signal}
use Rattle.claim_in_use.specs.Deferral.{before, prepared}
use Rattle.claim_in_use.specs.Signal.{an_answer, receives, asked, told, until_signal, until_told, SignalHappened, SignalSaid, OneSignal}
use Rattle.claim_in_use.proofs.Conversation as conversation

happened : SignalHappened
unfolding computed
happened =
    record {
      state_asked = refl;
      partner_asked = refl;
      accepted = refl;
      line_asked = refl;
      counts_asked = (refl, refl);
      taken_signal = refl;
      state_told = refl;
      line_told = refl;
      counts_told = (refl, refl);
      flag_told = refl;
      taken_answer = refl;
      requests_told = (refl, refl, refl);
    }

module _ (claim : Claim) (signals : TheSignals) (laws : Signalling) (defers : Deferring) where
  said : SignalSaid
  unfolding computed
  said =
      let open' = (conversation.asked).openings in
      let first = (signals speaker bidder lent lent until_signal open'.one open'.two).back in
      let then = (signals speaker bidder lent lent until_told open'.one open'.two).back in
      let joint = (claim speaker bidder lent lent until_told open').0 in
      let request = laws.requested receives.two.end refl in
      let tells = laws.told asked.one.end a_signal refl refl in
      let request-leaves = laws.request_apart receives.two.end in
      let take-leaves = laws.take_apart asked.one.end a_signal in
      let clears = laws.answered told.two.end an_answer refl refl in
      record {
        told_asked = first.told;
        told_told = then.told;
        unanswered_asked = first.unanswered;
        unanswered_told = then.unanswered;
        credit_told = joint.credit_two;
        no_breach = joint.no_breach_one;
        unit_made = request.0;
        only_signal = request.1;
        request_apart = (request-leaves.sent, request-leaves.send_buffer, request-leaves.inbox);
        not_told_here = laws.calls_tell_nothing receives.two.end Verb.request_to_send;
        one_at_a_time = laws.one_at_a_time asked.two.end refl;
        program_told = tells.0;
        answer_made = tells.1;
        number_kept = tells.2;
        take_apart = (take-leaves.sent, take-leaves.send_buffer, take-leaves.inbox);
        in_defer_lem = defers.takes_expedited before deferral.Turn a_signal refl;
        untold = clears.0;
        nothing_made = clears.1;
        cleared = clears.2;
        bid_apart = (laws.other_takes prepared.one.end a_bid).sent;
        bid_tells_nothing = laws.takes_tell_nothing prepared.one.end a_bid;
        pacing_apart = (laws.other_calls prepared.one.end Verb.send_pacing_response refl).kept;
      }

  pub one_signal : OneSignal
  one_signal = record { happened = happened; said = said }
