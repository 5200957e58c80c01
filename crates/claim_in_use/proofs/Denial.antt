-- The claims and the laws of an error that is due read off the conversation where its bidder does not confirm.
-- Assumes nothing.
use mathlib.Core.Path.{refl}
use Rattle.joined.specs.Claim.{Claim, TheRecords}
use Rattle.joined.specs.Denials.{TheDenials}
use Rattle.calls.specs.Calls.{Verb, confirm}
use Rattle.calls.specs.ErrorLaws.{Denying}
use Rattle.worked_examples.specs.Computed.{computed}
use Rattle.claim_in_use.specs.Conversation.{speaker, bidder, lent, calls, reply3}
use Rattle.claim_in_use.specs.Denial.{owed, denied, until_denied, until_told, DenialHappened, DenialSaid, OneDenial}
use Rattle.claim_in_use.proofs.Conversation.{asked}

happened : DenialHappened
unfolding computed
happened =
    record {
      state_owed = refl;
      accepted = refl;
      state_denied = refl;
      partner_denied = refl;
      due_denied = refl;
      given_denied = refl;
      flushed = refl;
      due_told = refl;
      made_told = refl;
      taken_told = refl;
      line_told = refl;
      made = refl;
      taken = refl;
    }

module _ (claim : Claim) (records : TheRecords) (denials : TheDenials) (laws : Denying) where
  said : DenialSaid
  unfolding computed
  said =
      let open' = asked.openings in
      let then = (denials speaker bidder lent lent until_denied open'.one open'.two).back in
      let told = (denials speaker bidder lent lent until_told open'.one open'.two).back in
      let last = (denials speaker bidder lent lent calls open'.one open'.two).back in
      let deny = laws.denied owed.two.end refl in
      let flush = laws.flushed denied.two.end refl refl in
      record {
        not_both = (claim speaker bidder lent lent until_denied open').0.not_both;
        whole = (records speaker bidder lent lent until_denied open').two.whole;
        due_denied = then.due;
        due_told = told.due;
        conserved = told.conserved;
        waits = told.waits refl;
        next_on_line = told.line.0 refl;
        next_made = told.made.1.1.1.0 refl;
        next_taken = last.taken.1.1.1.0 refl;
        not_the_bid = told.made.0 refl;
        not_the_reply = last.taken.1.1.1.1.0 refl;
        unit_made = deny.0;
        sends = deny.1;
        header_made = flush.0;
        chain_closed = flush.3;
        no_confirm = laws.only denied.two.end confirm refl refl refl;
        no_data = laws.only denied.two.end (Verb.send_data reply3) refl refl refl;
      }

  pub one_denial : OneDenial
  one_denial = record { happened = happened; said = said }
