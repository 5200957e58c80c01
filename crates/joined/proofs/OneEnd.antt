-- What holds at one end by itself, whatever the other does: the places of the bytes given, taken and read, the credit count, and what reads say.
-- Assumes nothing.
use Rattle.joined.proofs.JoinedWords.{ℕ, ◌+◌, ◌*◌, ◌≤◌, ◌<◌, eqb, take, Bool, true, false, ◌&&◌, List, [], ◌∷◌, ◌++◌, append-nil, ◌≡◌, refl, sym, ap}
use Rattle.joined.proofs.JoinedWords.{◌∙◌, arith, is_whole, ended, then_walk, walk, Position, walk_append, walk_prefix, Through, same_position}
use Rattle.joined.proofs.JoinedWords.{BadLength, Result, Ok}
use Rattle.joined.proofs.JoinedWords.{credit, may_send, WhatReceived, read_refused, Station, Reply, Verb, count, is_pacing_response}
use Rattle.joined.proofs.JoinedWords.{among, requests_among, Lane, normal, on_normal, Log, bytes_accepted, bytes_in_inbox, requests_made, pacing_responses_taken}
use Rattle.joined.proofs.JoinedWords.{breaches, bad_reads, CompleteIsRight, MoreIsRight, NoneCrosses, is_breach, took, acted, Lines}
use native.Mathlib.Nat.{zero-add}
use borrow.Author.Tests.{ne_eqb}
use Rattle.logical_record.specs.Positions.{start, is_between, more_follows}
use Rattle.logical_record.proofs.WholeRecords.{bit_remembered}
use Rattle.control.specs.declared.WhatReceived.TheVariants as mark
use Rattle.answers.specs.Answers.{refused, refused_naming, read_accepted}
use Rattle.answers.specs.declared.Answer.{Answer}
use Rattle.joined.specs.Histories.{given, bytes_read, is_bad_read}
use Rattle.calls.specs.Calls.{plain, read_reply, expedited_reply}
use Rattle.answers.specs.declared.ExpeditedAnswer.{ExpeditedAnswer}
use Rattle.joined.specs.Ends.{expedited}

-- The values of an end that its log speaks of: those that only reads and takes change, and the window's size; the others.
pub record Inner : Type 0 where
  pub read : Position
  pub taken : Position
  pub inbox : List ℕ
  pub size : ℕ

pub record Values : Type 0 where
  pub sends : Bool
  pub given : Position
  pub credit : ℕ
  pub inner : Inner

abbrev pub values_of : Station → Values
values_of s =
    record {
      sends = may_send s.end.control;
      given = s.end.sending.given;
      credit = credit s.end.sending.window;
      inner =
          record {
            read = s.end.receiving.read;
            taken = s.end.receiving.taken;
            inbox = bytes_in_inbox s;
            size = s.end.sending.window.size;
          };
    }

pub record Local (v : Values) (xs : Log) : Type 0 where
  pub given : walk start (bytes_accepted xs) ≡ Ok v.given
  pub whole : v.sends ≡ false → is_whole v.given ≡ true
  pub read : walk start (bytes_read xs) ≡ Ok v.inner.read
  pub inbox : walk v.inner.read v.inner.inbox ≡ Ok v.inner.taken
  pub counted : requests_made xs + v.credit ≡ v.inner.size * (1 + pacing_responses_taken xs)
  pub complete : CompleteIsRight xs
  pub more : MoreIsRight xs
  pub apart : NoneCrosses xs
  pub never_8 : bad_reads xs ≡ 0
  pub no_breach : breaches xs ≡ 0

walk_more : (bs new : List ℕ) (p q : Position) → walk start bs ≡ Ok p → walk p new ≡ Ok q → walk start (bs ++ new) ≡ Ok q
walk_more bs new p q e f = walk_append start bs new ∙ ap (λ (w : Result Position BadLength). then_walk w new) e ∙ f

-- ---- a call that copies no byte: bytes may be given, units made, a mark answered

abbrev pub reply : Answer → WhatReceived → List ℕ → Reply
reply a m buffer = record { answer = record { answer = a; copied = 0; complete = false; more = false; mark = m }; buffer = buffer; signalled = false }

pub local_act :
    {v : Values} {xs : Log} (verb : Verb) (a : Answer) (m : WhatReceived) (buffer : List ℕ) (us : Lines Lane (List ℕ)) (w : Values)
    → Local v xs
    → walk v.given (given verb a.refusal) ≡ Ok w.given
    → (w.sends ≡ false → is_whole w.given ≡ true)
    → w.inner ≡ v.inner
    → requests_among (us normal) + w.credit ≡ v.credit
    → is_bad_read verb a.refusal ≡ false
    → Local w (acted verb (reply a m buffer) us ∷ xs)
unfolding bytes_accepted bytes_read requests_made pacing_responses_taken CompleteIsRight MoreIsRight NoneCrosses bad_reads breaches
local_act {v} {xs} verb a m buffer us w l g h r c b =
    record {
      given = walk_more (bytes_accepted xs) (given verb a.refusal) v.given w.given l.given g;
      whole = h;
      read = ap (walk start) (append-nil (bytes_read xs)) ∙ rw r l.read;
      inbox = rw r l.inbox;
      counted = rw r (let q = l.counted in omega (arith, q, c));
      complete = (refl, l.complete);
      more = (refl, l.more);
      apart = (λ n some few. absurd (omega arith), l.apart);
      never_8 = rw b (zero-add (bad_reads xs) ∙ l.never_8);
      no_breach = l.no_breach;
    }

refused_gives : (verb : Verb) (q : ℕ) → eqb q 0 ≡ false → given verb q ≡ []
refused_gives Verb.allocate q e = refl
refused_gives Verb.confirmed q e = refl
refused_gives Verb.send_error q e = refl
refused_gives Verb.send_pacing_response q e = refl
refused_gives Verb.request_to_send q e = refl
refused_gives Verb.withdraw q e = refl
refused_gives (Verb.send_data bytes) q e = rw e
refused_gives (Verb.close f b) q e = refl
refused_gives (Verb.defer d) q e = refl
refused_gives (Verb.receive buffer) q e = refl

pub refused_accepts : (verb : Verb) (q : ℕ) (buffer : List ℕ) (us : Lines Lane (List ℕ)) (xs : Log) → eqb q 0 ≡ false
    → bytes_accepted (acted verb (read_reply (read_refused q) buffer) us ∷ xs) ≡ bytes_accepted xs
unfolding bytes_accepted
refused_accepts verb q buffer us xs e = rw (refused_gives verb q e) (append-nil (bytes_accepted xs))

pub local_refused :
    {v : Values} {xs : Log} (verb : Verb) (q : ℕ) (buffer : List ℕ)
    → eqb q 0 ≡ false
    → is_bad_read verb q ≡ false
    → Local v xs
    → Local v (acted verb (read_reply (read_refused q) buffer) (on_normal []) ∷ xs)
unfolding then_walk among
local_refused {v} verb q buffer e b l =
    local_act verb (refused q) mark.Nothing buffer (on_normal []) v l (rw (refused_gives verb q e)) l.whole refl (zero-add v.credit) b

-- ---- a read of bytes

pub local_read :
    {v : Values} {xs : Log} (asked : List ℕ) (k : ℕ) (first rest buffer : List ℕ) (w : Values)
    → Local v xs
    → 1 ≤ k
    → take k buffer ≡ first
    → v.inner.inbox ≡ first ++ rest
    → walk v.inner.read first ≡ Ok w.inner.read
    → ((n : ℕ) → 0 < n → n < k → ended (walk v.inner.read (take n buffer)) ≡ false)
    → w.inner.inbox ≡ rest
    → w.sends ≡ v.sends
    → w.given ≡ v.given
    → w.inner.taken ≡ v.inner.taken
    → w.inner.size ≡ v.inner.size
    → w.credit ≡ v.credit
    → Local w
    (acted (Verb.receive asked)
    (read_reply (read_accepted k (is_between w.inner.read) (more_follows w.inner.read) mark.Nothing) buffer)
    (on_normal []) ∷ xs)
unfolding bytes_accepted bytes_read among requests_made pacing_responses_taken CompleteIsRight MoreIsRight NoneCrosses bad_reads breaches
local_read {v} {xs} asked k first rest buffer w l some f i r within b d g t z c =
    let p = v.inner.read in
    let q = w.inner.read in
    let read' : walk start (bytes_read xs ++ take k buffer) ≡ Ok q = rw f (walk_more (bytes_read xs) first p q l.read r) in
    let through : Through p first rest v.inner.taken = walk_prefix p v.inner.taken first rest (rw i at l.inbox) in
    record {
      given = rw (append-nil (bytes_accepted xs), g) l.given;
      whole = λ n. rw g (l.whole (sym d ∙ n));
      read = read';
      inbox = rw (b, t, ← same_position through.middle q (sym through.first ∙ r)) through.second;
      counted = let q = l.counted in rw (z, c) (omega (arith, q));
      complete = (
        let n : eqb k 0 ≡ false = ne_eqb k 0 (λ y. omega arith) in
            rw (n, read'),
        l.complete,
      );
      more = (bit_remembered (bytes_read xs ++ take k buffer) q read', l.more);
      apart = (
        λ n x y. ap ended (walk_append start (bytes_read xs) (take n buffer) ∙ ap (λ (w : Result Position BadLength). then_walk w (take n buffer)) l.read) ∙ within n x y,
        l.apart,
      );
      never_8 = zero-add (bad_reads xs) ∙ l.never_8;
      no_breach = l.no_breach;
    }

-- ---- takes

counts : (b : Bool) (new old w v size n : ℕ) → old + v ≡ size * (1 + n) → new + w ≡ v + size * count b → new + old + w ≡ size * (1 + (count b + n))
counts true new old w v size n e f = omega (arith, e, f)
counts false new old w v size n e f = omega (arith, e, f)

pub local_took :
    {v : Values} {xs : Log} (u : List ℕ) (a : Answer) (us : Lines Lane (List ℕ)) (b : Bool) (w : Values)
    → Local v xs
    → eqb a.refusal 0 && is_pacing_response u ≡ b
    → is_breach a.refusal ≡ false
    → w.given ≡ v.given
    → (w.sends ≡ false → is_whole w.given ≡ true)
    → w.inner.read ≡ v.inner.read
    → walk w.inner.read w.inner.inbox ≡ Ok w.inner.taken
    → w.inner.size ≡ v.inner.size
    → requests_among (us normal) + w.credit ≡ v.credit + v.inner.size * count b
    → Local w (took normal u (plain a) us ∷ xs)
unfolding bytes_accepted bytes_read requests_made pacing_responses_taken CompleteIsRight MoreIsRight NoneCrosses bad_reads breaches
local_took {v} {xs} u a us b w l p q g h r i z c =
    record {
      given = rw g l.given;
      whole = h;
      read = rw r l.read;
      inbox = i;
      counted =
          rw (z, p)
          (counts b (requests_among (us normal)) (requests_made xs) w.credit v.credit v.inner.size (pacing_responses_taken xs) l.counted c);
      complete = (refl, l.complete);
      more = (refl, l.more);
      apart = l.apart;
      never_8 = l.never_8;
      no_breach = rw q (zero-add (breaches xs) ∙ l.no_breach);
    }

pub local_take_refused :
    {v : Values} {xs : Log} (u : List ℕ) (rule q : ℕ)
    → eqb q 0 ≡ false
    → is_breach q ≡ false
    → Local v xs
    → Local v (took normal u (plain (refused_naming rule q)) (on_normal []) ∷ xs)
unfolding among
local_take_refused {v} u rule q e b l =
    local_took u (refused_naming rule q) (on_normal []) false v l (rw e) b refl l.whole refl l.inbox refl (omega arith)

-- a take on the expedited lane, whatever it leaves there: no value of the end is its concern
pub local_took_expedited :
    {v : Values} {xs : Log} (u : List ℕ) (a : ExpeditedAnswer) (us : Lines Lane (List ℕ))
    → Local v xs
    → is_breach a.answer.refusal ≡ false
    → us normal ≡ []
    → Local v (took expedited u (expedited_reply a) us ∷ xs)
unfolding bytes_accepted bytes_read among requests_made pacing_responses_taken CompleteIsRight MoreIsRight NoneCrosses bad_reads breaches
local_took_expedited {v} {xs} u a us l q n =
    record {
      given = l.given;
      whole = l.whole;
      read = l.read;
      inbox = l.inbox;
      counted = rw n (let q = l.counted in omega (arith, q));
      complete = (refl, l.complete);
      more = (refl, l.more);
      apart = l.apart;
      never_8 = l.never_8;
      no_breach = rw q (zero-add (breaches xs) ∙ l.no_breach);
    }
