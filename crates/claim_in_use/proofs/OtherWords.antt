-- The claim in other words follows from the claim and from what is said of the records, of question 5, of denials and of signals, and from nothing
-- else that crate joined proves but laws of its definitions.
-- Assumes nothing.
use Prim.Native.Nat.{ℕ, ◌+◌, ◌*◌}
use mathlib.Core.Path.{◌≡◌, refl, sym, ap, ◌∙◌}
use mathlib.Core.Bool.{true, false, and-false}
use mathlib.Core.List.{List, [], ◌∷◌, ◌++◌}
use native.Mathlib.Omega.{arith}
use lib.ListN.{length, take}
use Rattle.logical_record.specs.Positions.{start}
use Rattle.logical_record.specs.Walk.{walk}
use Rattle.logical_record.specs.Records.{whole_records, whole_tables}
use Rattle.logical_record.specs.RecordClaims.{EveryPlaceCanEnd}
use Rattle.pacing.specs.Pacing.{credit}
use Rattle.control.specs.StateTests.{is_send, holds_send}
use Rattle.control.specs.declared.State.{State}
use Rattle.control.specs.declared.State.TheVariants.{Send}
use Rattle.control.proofs.States.{send_is}
use Rattle.bools.proofs.Cases.{split}
use Rattle.session.specs.declared.Session.{Session}
use Rattle.joined.specs.Joined.{Call, At, run}
use Rattle.joined.specs.Signals.{Signals, TheSignals}
use Rattle.joined.specs.Ends.{Lane, normal, expedited, same_lane, acts, takes, opened_both, Buffers}
use Rattle.joined.specs.Histories.{bytes_on_line, breaches}
use Rattle.joined.specs.Claim.{Claim, BytesConserved, CreditCounted, ReadsRight, RecordsArrive, TablesArrive, TheRecords, AlwaysGood}
use Rattle.joined.specs.Denials.{TheDenials}
use Rattle.claim_in_use.specs.OtherWords.{Numbers, speaker, bidder, Opens, InRange, story, each, made, request, pacing_answer, credit_left, Ends, OneEnd}
use Rattle.claim_in_use.specs.OtherWords.{has_read, AtOneEnd, OneWay, HasTurn, sends, prepared_turn, prepared_end, Agree, Interleaves, after, TakesFind}
use Rattle.claim_in_use.specs.OtherWords.{SameEnd, AreBytes, offered, KeepsRules, Causes, InOtherWords, answer, signal, response, SignalsTold}
use Rattle.claim_in_use.proofs.Stories.{given_is, read_is, line_is, requests_are, answers_are, no_breach_in, never_in, no_bad_read, takes_not_complete}
use Rattle.claim_in_use.proofs.Stories.{signals_in, responses_in, signals_are, told_are, takes_no_more, ends_there, says_so, says_more, none_before}
use Rattle.claim_in_use.proofs.InRangeAccepted.{accepts, openings}
use Rattle.claim_in_use.proofs.GivenBytes.{parted, all_bytes, given_bytes}
use Rattle.claim_in_use.proofs.Causes.{causes_of}
use Rattle.claim_in_use.proofs.Orders.{firsts_are, seconds_are, fed}
use Rattle.calls.specs.Calls.{Verb}

turn_held : {s : State} → HasTurn s → holds_send s ≡ true
turn_held sends = refl
turn_held prepared_turn = refl
turn_held prepared_end = refl

not_send : (s : State) → (s ≡ Send → ⊥) → is_send s ≡ false
not_send s h = split (is_send s) (λ y. absurd (h (send_is s y))) (λ n. n)

counted : (w : ℕ) (x : OneEnd) → CreditCounted w x
    → length (each request (each made (story x.log))) + credit_left x.end.end.sending.window
    ≡ w * (1 + length (each pacing_answer (story x.log)))
unfolding credit
counted w x h = rw (requests_are x.log, answers_are x.log) h

at_one_end : (w : ℕ) (x : OneEnd) → breaches x.log ≡ 0 → CreditCounted w x → ReadsRight x → EveryPlaceCanEnd → AtOneEnd w x
at_one_end w x b c r places =
    record {
      no_breach = no_breach_in x.log b;
      credit = counted w x c;
      unfinished = ap (walk start) (given_is x.log) ∙ r.given;
      finished = λ n. r.whole (rw (not_send x.end.end.control.state n));
      finished_first = λ e. r.whole (rw e (and-false (is_send x.end.end.control.state)));
      can_finish = places x.end.end.sending.given;
      read_so_far = ap (walk start) (read_is x.log) ∙ r.read;
      in_inbox = r.inbox;
      no_bad_record = no_bad_read x.log r.never_8;
      cut = λ later earlier v y us e. (
        ends_there x.log later earlier v y us e r.complete,
        says_so x.log later earlier v y us e r.complete,
        none_before x.log later earlier v y us e r.apart,
      );
      parts = λ later earlier v y us e. says_more x.log later earlier v y us e r.more;
      takes_none = takes_not_complete x.log r.complete;
      takes_no_more = takes_no_more x.log r.more;
    }

one_way : (x y : OneEnd) → BytesConserved x y → RecordsArrive x y → TablesArrive x y → OneWay x y
one_way x y b r t =
    record {
      bytes =
          given_is x.log ∙ b
          ∙ ap
          (λ (bs : List ℕ).
          bs ++ (take y.end.end.receiving.held y.end.inbox ++ (bytes_on_line (y.waiting normal) ++ take x.end.end.sending.held x.end.send)))
          (sym (read_is y.log))
          ∙ ap (λ (bs : List ℕ). has_read y ++ (take y.end.end.receiving.held y.end.inbox ++ (bs ++ take x.end.end.sending.held x.end.send)))
          (sym (line_is (y.waiting normal)));
      to_come = r.still_to_come;
      records =
          ap whole_records (given_is x.log) ∙ r.first_are_read
          ∙ ap (λ (bs : List ℕ). whole_records bs ++ r.still_to_come) (sym (read_is y.log));
      tables_to_come = t.still_to_come;
      tables =
          ap whole_tables (given_is x.log) ∙ t.first_are_read
          ∙ ap (λ (bs : List ℕ). whole_tables bs ++ t.still_to_come) (sym (read_is y.log));
    }

-- a list of no item
none_of : {A : Type 0} (xs : List A) → length xs ≡ 0 → xs ≡ []
none_of [] e = refl
none_of (x ∷ xs) e = absurd (omega (arith, e))

signals_told : (x y : OneEnd) → Signals x y → SignalsTold x y
signals_told x y s =
    let there = signals_in (y.waiting expedited) in
    let back = responses_in (x.waiting expedited) in
    let c = s.unanswered in
    record {
      each_told = let t = s.told in omega (arith, signals_are x.log, t, told_are y.log, there);
      waits_for_answer = λ u. let d = rw u at c in omega (arith, d, there, back);
      has_answer = λ u.
          let d = rw u at c in (
            none_of (each signal (y.waiting expedited)) (omega (arith, d, there)),
            none_of (each response (x.waiting expedited)) (omega (arith, d, back)),
          );
    }

same_end : (x y : OneEnd) → x ≡ y → SameEnd x y
same_end x y e =
    record {
      end = ap (λ (z : OneEnd). z.end) e;
      waiting = ap (λ (z : OneEnd). z.waiting) e;
      answers = ap (λ (z : OneEnd). each answer (story z.log)) e;
    }

module _ (claim : Claim) (records : TheRecords) (always : AlwaysGood) (denials : TheDenials) (signals : TheSignals) (places : EveryPlaceCanEnd) where
  agrees : (n : Numbers) (b c : Buffers) → InRange n b c → (l : List (At Lane Verb)) → Agree n (after n b c l)
  agrees n b c r l =
      let p = after n b c l in
      let o = openings n b c r in
      let j = (claim (speaker n) (bidder n) b c l o).0 in
      let k = records (speaker n) (bidder n) b c l o in
      record {
        one_sends = λ x y. j.not_both (turn_held x) (turn_held y);
        at_one = at_one_end n.window_out p.one j.no_breach_one j.credit_one k.one places;
        at_two = at_one_end n.window_back p.two j.no_breach_two j.credit_two k.two places;
        out = one_way p.one p.two j.bytes_out k.out k.tables_out;
        back = one_way p.two p.one j.bytes_back k.back k.tables_back;
      }

  alike : (n : Numbers) (b c : Buffers) → InRange n b c → (xs ys : List (Call Lane Verb)) (l m : List (At Lane Verb))
      → Interleaves xs ys l
      → Interleaves xs ys m
      → TakesFind (after n b c []) l
      → TakesFind (after n b c []) m
      → SameEnd (after n b c l).one (after n b c m).one × SameEnd (after n b c l).two (after n b c m).two
  alike n b c r xs ys l m i j f g =
      let p = after n b c [] in
      let e =
      (claim (speaker n) (bidder n) b c l (openings n b c r)).1 m (firsts_are i ∙ sym (firsts_are j)) (seconds_are i ∙ sym (seconds_are j))
      (fed p l f) (fed p m g) in (
        same_end (after n b c l).one (after n b c m).one (ap (λ (q : Ends). q.one) e),
        same_end (after n b c l).two (after n b c m).two (ap (λ (q : Ends). q.two) e),
      )

  keeps : (s t : Session) (b c : Buffers) → Opens s b → Opens t c → (l : List (At Lane Verb))
      → AreBytes (b.send ++ (b.inbox ++ (c.send ++ (c.inbox ++ each offered l))))
      → (let p = run same_lane acts takes (opened_both s t b c) l in KeepsRules p.one × KeepsRules p.two)
  keeps s t b c o q l h =
      let p = run same_lane acts takes (opened_both s t b c) l in
      let h1 = parted b.send _ h in
      let h2 = parted b.inbox _ h1.1 in
      let h3 = parted c.send _ h2.1 in
      let h4 = parted c.inbox (each offered l) h3.1 in
      let g =
      always s t b c l (accepts s b o) (accepts t c q) (record { send = all_bytes b.send h1.0; inbox = all_bytes b.inbox h2.0 })
      (record { send = all_bytes c.send h3.0; inbox = all_bytes c.inbox h4.0 }) (given_bytes l h4.1) in (
        record { record_good_lem = g.one; never_5 = never_in 5 p.one.log g.never_5_one },
        record { record_good_lem = g.two; never_5 = never_in 5 p.two.log g.never_5_two },
      )

  tells : (s t : Session) (b c : Buffers) → Opens s b → Opens t c → (l : List (At Lane Verb))
      → (let p = run same_lane acts takes (opened_both s t b c) l in Causes p.one p.two × Causes p.two p.one)
  tells s t b c o q l =
      let p = run same_lane acts takes (opened_both s t b c) l in
      let d = denials s t b c l (accepts s b o) (accepts t c q) in
      (causes_of p.one p.two d.out, causes_of p.two p.one d.back)

  told_once : (s t : Session) (b c : Buffers) → Opens s b → Opens t c → (l : List (At Lane Verb))
      → (let p = run same_lane acts takes (opened_both s t b c) l in SignalsTold p.one p.two × SignalsTold p.two p.one)
  told_once s t b c o q l =
      let p = run same_lane acts takes (opened_both s t b c) l in
      let d = signals s t b c l (accepts s b o) (accepts t c q) in
      (signals_told p.one p.two d.out, signals_told p.two p.one d.back)

  pub in_other_words : InOtherWords
  in_other_words = record { agree = agrees; same = alike; rules = keeps; causes = tells; signals = told_once }
