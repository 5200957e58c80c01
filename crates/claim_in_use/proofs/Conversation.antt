-- The claim read off one conversation: what it asks holds by computation, and each of its fields is what is written there.
-- Assumes nothing.
use Prim.Native.Nat.{ℕ}
use mathlib.Core.Path.{◌≡◌, refl}
use mathlib.Core.Bool.{Bool, true, false, ◌&&◌}
use mathlib.Core.List.{List, [], ◌∷◌}
use Rattle.bools.proofs.Tests.{both}
use Rattle.logical_record.specs.RecordClaims.{EveryPlaceCanEnd}
use Rattle.logical_record.specs.declared.Position.TheVariants.{Remaining}
use Rattle.joined.specs.Joined as J
use Rattle.joined.specs.Joined.{At, first, second, act, Some, step, AllFed}
use Rattle.joined.specs.Ends.{Lane, same_lane, acts, takes}
use Rattle.calls.specs.Calls.{Verb}
use Rattle.calls.proofs.ByteLists.{are_bytes}
use Rattle.joined.specs.Claim.{Pair, Claim, TheRecords, LentBytes, AlwaysGood}
use Rattle.joined.specs.Signals.{TheSignals}
use Rattle.worked_examples.specs.Computed.{computed}
use Rattle.claim_in_use.specs.OtherWords.{each, offered}
use Rattle.claim_in_use.specs.Conversation.{speaker, bidder, lent, ends, calls, reordered, Happened, Asked, Said, OneConversation}
use Rattle.claim_in_use.proofs.GivenBytes.{written_out, given_bytes}

-- ---- bytes

lent_bytes : LentBytes lent
lent_bytes = record { send = are_bytes lent.send refl; inbox = are_bytes lent.inbox refl }

-- ---- takes

abbrev waits : List (List ℕ) → Bool
waits [] = false
waits (u ∷ us) = true

waits_fed : (us : List (List ℕ)) → waits us ≡ true → Some us
waits_fed [] e = cc
waits_fed (u ∷ us) e = tt

-- every take of the list finds a unit
abbrev all_find : Pair → List (At Lane Verb) → Bool
all_find p [] = true
all_find p (first (act v) ∷ l) = all_find (step same_lane acts takes p (first (act v))) l
all_find p (first (J.take k) ∷ l) = waits (p.one.waiting k) && all_find (step same_lane acts takes p (first (J.take k))) l
all_find p (second (act v) ∷ l) = all_find (step same_lane acts takes p (second (act v))) l
all_find p (second (J.take k) ∷ l) = waits (p.two.waiting k) && all_find (step same_lane acts takes p (second (J.take k))) l

all_fed : (p : Pair) (l : List (At Lane Verb)) → all_find p l ≡ true → AllFed same_lane acts takes p l
all_fed p [] e = tt
all_fed p (first (act v) ∷ l) e = (tt, all_fed (step same_lane acts takes p (first (act v))) l e)
all_fed p (first (J.take k) ∷ l) e =
    let q = step same_lane acts takes p (first (J.take k)) in
    let h = both (waits (p.one.waiting k)) (all_find q l) e in
    (waits_fed (p.one.waiting k) h.0, all_fed q l h.1)
all_fed p (second (act v) ∷ l) e = (tt, all_fed (step same_lane acts takes p (second (act v))) l e)
all_fed p (second (J.take k) ∷ l) e =
    let q = step same_lane acts takes p (second (J.take k)) in
    let h = both (waits (p.two.waiting k)) (all_find q l) e in
    (waits_fed (p.two.waiting k) h.0, all_fed q l h.1)

-- ---- what happened

happened : Happened
unfolding computed
happened =
    record {
      given_out = refl;
      read_out = refl;
      given_back = refl;
      read_back = refl;
      inbox_back = refl;
      line_back = refl;
      held_back = refl;
      counts_one = (refl, refl, refl);
      counts_two = (refl, refl, refl);
      signals_one = (refl, refl, refl);
      signals_two = (refl, refl, refl);
      flags = (refl, refl);
      state_one = refl;
      state_two = refl;
    }

-- ---- what is asked

pub asked : Asked
unfolding computed
asked =
    record {
      openings =
          record { speaker = refl; bidder = refl; window_out = refl; window_back = refl; max_out = refl; max_back = refl; one = refl; two = refl };
      fed = all_fed ends calls refl;
      fed_reordered = all_fed ends reordered refl;
    }

-- ---- what is said

module _ (claim : Claim) (records : TheRecords) (always : AlwaysGood) (signals : TheSignals) (places : EveryPlaceCanEnd) where
  said : Said
  unfolding computed
  said =
      let parts = claim speaker bidder lent lent calls asked.openings in
      let joint = parts.0 in
      let r = records speaker bidder lent lent calls asked.openings in
      let told = signals speaker bidder lent lent calls asked.openings.one asked.openings.two in
      let good = always speaker bidder lent lent calls asked.openings.one asked.openings.two lent_bytes lent_bytes
      (given_bytes calls (written_out (each offered calls) refl)) in
      record {
        not_both = joint.not_both;
        no_breach_one = joint.no_breach_one;
        no_breach_two = joint.no_breach_two;
        bytes_out = joint.bytes_out;
        bytes_back = joint.bytes_back;
        credit_one = joint.credit_one;
        credit_two = joint.credit_two;
        signals_out = told.out.told;
        signals_back = told.back.told;
        unanswered_one = told.out.unanswered;
        unanswered_two = told.back.unanswered;
        same = parts.1 reordered refl refl asked.fed asked.fed_reordered;
        to_come_out = r.out.still_to_come;
        records_out = r.out.first_are_read;
        to_come_back = r.back.still_to_come;
        records_back = r.back.first_are_read;
        tables_to_come_out = r.tables_out.still_to_come;
        tables_out = r.tables_out.first_are_read;
        tables_to_come_back = r.tables_back.still_to_come;
        tables_back = r.tables_back.first_are_read;
        given_two = r.two.given;
        read_one = r.one.read;
        inbox_one = r.one.inbox;
        whole_one = r.one.whole;
        given_one = r.one.given;
        read_two = r.two.read;
        inbox_two = r.two.inbox;
        whole_two = r.two.whole;
        ends_two = places (Remaining true 11000);
        complete_one = r.one.complete;
        complete_two = r.two.complete;
        more_one = r.one.more;
        more_two = r.two.more;
        apart_one = r.one.apart;
        apart_two = r.two.apart;
        never_8_one = r.one.never_8;
        never_8_two = r.two.never_8;
        good_one = good.one;
        good_two = good.two;
        never_5_one = good.never_5_one;
        never_5_two = good.never_5_two;
      }

  pub one_conversation : OneConversation
  one_conversation = record { happened = happened; asked = asked; said = said }
