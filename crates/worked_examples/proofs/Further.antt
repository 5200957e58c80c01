-- The statements of specs/Further.antt hold, by computation.
-- Assumes nothing.
use Rattle.std.specs.Prelude.{refl}
use Rattle.worked_examples.specs.Computed.{computed}
use Rattle.worked_examples.proofs.Breaches.{breached, marked_first}
use Rattle.worked_examples.proofs.RulesNamed.{rules_named}
use Rattle.worked_examples.proofs.Parts.{parts}
use Rattle.worked_examples.proofs.Prepared.{all_prepared}
use Rattle.worked_examples.proofs.Denied.{all_denied}
use Rattle.worked_examples.proofs.Signalled.{all_signalled}
use Rattle.worked_examples.proofs.FromBytes.{all_from_bytes}
use Rattle.worked_examples.specs.Further.{Numbers, CreditRaised, OpenRaised, SecondAllocate, Unfinished, FurtherRows}

numbered : Numbers
unfolding computed
numbered =
    record {
      made = refl;
      taken = refl;
      last_taken_lem = refl;
      bid_made = refl;
    }

credit_risen : CreditRaised
unfolding computed
credit_risen =
    record {
      as_opened = refl;
      left_at_1 = refl;
      left_at_2 = refl;
      left_at_0 = refl;
      unanswered_on = (refl, refl, refl);
      taken_at_1 = refl;
      raised_at_1 = refl;
      off_at_1 = refl;
      taken_at_2 = refl;
      raised_at_2 = refl;
      off_at_2 = refl;
    }

open_risen : OpenRaised
unfolding computed
open_risen =
    record {
      as_opened = refl;
      left_at_1 = refl;
      left_at_2 = refl;
      left_at_0 = refl;
      owed_on = (refl, refl, refl);
      paced_at_1 = refl;
      raised_at_1 = refl;
      off_at_1 = refl;
      paced_at_2 = refl;
      raised_at_2 = refl;
      off_at_2 = refl;
      paced_once = refl;
      no_room = refl;
      bid_before = refl;
      bid_granted = refl;
      bid_refused = refl;
      bid_owes = refl;
    }

allocated_once : SecondAllocate
unfolding computed
allocated_once =
    record {
      at_bidder = refl;
      at_speaker = refl;
    }

unfinished_refused : Unfinished
unfolding computed
unfinished_refused =
    record {
      turn = refl;
      confirm_turn_lem = refl;
      end = refl;
      confirm_end = refl;
      confirm = refl;
      flush = refl;
      turn_flushed = refl;
      turn_whole = refl;
    }

pub further : FurtherRows
further =
    record {
      numbers = numbered;
      credit_raised = credit_risen;
      open_raised = open_risen;
      second_allocate = allocated_once;
      unfinished = unfinished_refused;
      breaches = breached;
      mark_first = marked_first;
      rules = rules_named;
      parts = parts;
      prepared = all_prepared;
      denied = all_denied;
      signalled = all_signalled;
      from_bytes = all_from_bytes;
    }
