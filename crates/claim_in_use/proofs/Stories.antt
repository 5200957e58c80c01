-- What the programs saw, oldest first, is what the histories of crate joined count.
-- Assumes nothing.
use Prim.Native.Nat.{ℕ, ◌+◌, ◌≤◌, ◌<◌}
use mathlib.Core.Path.{◌≡◌, refl, sym, ap, ◌∙◌, subst}
use mathlib.Core.Bool.{Bool, true, false, not, cond, ◌&&◌}
use mathlib.Core.List.{List, [], ◌∷◌, ◌++◌, append-nil, append_assoc}
use native.Mathlib.Omega.{arith}
use borrow.Author.Tests.{eq-eqb, le-leb, ne_eqb}
use lib.Dec.{eqb}
use lib.ListN.{length, take, length-append}
use Rattle.bools.proofs.Tests.{right}
use Rattle.logical_record.specs.Positions.{start}
use Rattle.logical_record.specs.Walk.{walk}
use Rattle.logical_record.specs.Records.{ended, whole_records, last_bit}
use Rattle.joined.specs.Lanes.{Lines}
use Rattle.joined.specs.Joined.{Event, acted, took}
use Rattle.joined.specs.Ends.{Lane, normal, expedited}
use Rattle.joined.specs.Histories as H
use Rattle.joined.specs.Histories.{Log, bytes_accepted, bytes_read, bytes_on_line, is_breach, breaches, refused_with, is_bad_read, bad_reads, requests_made}
use Rattle.joined.specs.Histories.{pacing_responses_taken, CompleteIsRight, MoreIsRight, NoneCrosses}
use Rattle.claim_in_use.specs.OtherWords.{Seen, story, each, All, number_of, gave, copied, made, answer, take_answer, of_read, read_answer, request}
use Rattle.claim_in_use.specs.OtherWords.{pacing_answer, data_bytes, made_expedited, signal, response, told}
use Rattle.joined.specs.Signals.{signals_among, responses_among, signals_made, signals_told}
use Rattle.calls.specs.Calls.{Reply, Verb}
use Rattle.calls.specs.UnitCounts.{count, among, is_request, requests_among, is_pacing_response, is_signal_unit, is_response_unit}

-- ---- lists

each_append : {A B : Type 0} (f : A → List B) (xs ys : List A) → each f (xs ++ ys) ≡ each f xs ++ each f ys
each_append f [] ys = refl
each_append f (x ∷ xs) ys = ap (λ (r : List _). f x ++ r) (each_append f xs ys) ∙ sym (append_assoc (f x) (each f xs) (each f ys))

-- the story goes on with what happened last
pub goes_on : {B : Type 0} (f : Seen → List B) (e : Seen) (es : List Seen) → each f (story (e ∷ es)) ≡ each f (story es) ++ f e
goes_on f e es = each_append f (story es) (e ∷ []) ∙ ap (λ (r : List _). each f (story es) ++ r) (append-nil (f e))

all_append : {A : Type 0} (P : A → Type 0) (xs ys : List A) → All P xs → All P ys → All P (xs ++ ys)
all_append P [] ys h k = k
all_append P (x ∷ xs) ys h k = (h.0, all_append P xs ys h.1 k)

-- what holds of each item of the story until now, and of what happened last
holds_on : {B : Type 0} (P : B → Type 0) (f : Seen → List B) (e : Seen) (es : List Seen) → All P (each f (story es)) → All P (f e)
    → All P (each f (story (e ∷ es)))
holds_on P f e es h k = subst (All P) (sym (goes_on f e es)) (all_append P (each f (story es)) (f e) h k)

-- ---- bytes

gave_none : (b : Bool) → ◌≡◌ {A = List ℕ} (cond b [] []) []
gave_none true = refl
gave_none false = refl

gave_is : (v : Verb) (r : Reply) (us : Lines Lane (List ℕ)) → gave (acted v r us) ≡ H.given v (number_of r)
gave_is Verb.allocate r us = gave_none (eqb (number_of r) 0)
gave_is Verb.confirmed r us = gave_none (eqb (number_of r) 0)
gave_is Verb.send_error r us = gave_none (eqb (number_of r) 0)
gave_is Verb.send_pacing_response r us = gave_none (eqb (number_of r) 0)
gave_is Verb.request_to_send r us = gave_none (eqb (number_of r) 0)
gave_is (Verb.send_data bytes) r us = refl
gave_is (Verb.close f b) r us = gave_none (eqb (number_of r) 0)
gave_is Verb.withdraw r us = gave_none (eqb (number_of r) 0)
gave_is (Verb.defer d) r us = gave_none (eqb (number_of r) 0)
gave_is (Verb.receive buffer) r us = gave_none (eqb (number_of r) 0)

pub given_is : (es : Log) → each gave (story es) ≡ bytes_accepted es
unfolding bytes_accepted
given_is [] = refl
given_is (acted v r us ∷ es) = goes_on gave (acted v r us) es ∙ rw (given_is es, gave_is v r us)
given_is (took l u r us ∷ es) = goes_on gave (took l u r us) es ∙ append-nil (each gave (story es)) ∙ given_is es

pub read_is : (es : Log) → each copied (story es) ≡ bytes_read es
unfolding bytes_read
read_is [] = refl
read_is (acted v r us ∷ es) = goes_on copied (acted v r us) es ∙ rw (read_is es)
read_is (took l u r us ∷ es) = goes_on copied (took l u r us) es ∙ append-nil (each copied (story es)) ∙ read_is es

pub line_is : (us : List (List ℕ)) → each data_bytes us ≡ bytes_on_line us
unfolding bytes_on_line
line_is [] = refl
line_is (u ∷ us) = ap (λ (r : List ℕ). data_bytes u ++ r) (line_is us)

-- ---- counts

-- the units that a test finds
found_in : (p : List ℕ → Bool) (us : List (List ℕ)) → length (each (λ (u : List ℕ). cond (p u) (u ∷ []) []) us) ≡ among p us
unfolding among
found_in p [] = refl
found_in p (u ∷ us) = by (p u) (found_in p us)
  where
    by : (b : Bool) → length (each (λ (v : List ℕ). cond (p v) (v ∷ []) []) us) ≡ among p us
        → length (cond b (u ∷ []) [] ++ each (λ (v : List ℕ). cond (p v) (v ∷ []) []) us) ≡ count b + among p us
    by true h = omega (arith, h)
    by false h = omega (arith, h)

requests_in : (us : List (List ℕ)) → length (each request us) ≡ requests_among us
requests_in = found_in is_request

-- units of the kind f among those made, with those that the last call made
more_made : (f : List ℕ → List (List ℕ)) (make : Seen → List (List ℕ)) (e : Seen) (es : Log) (n k : ℕ)
    → length (each f (each make (story es))) ≡ n → length (each f (make e)) ≡ k → length (each f (each make (story (e ∷ es)))) ≡ k + n
more_made f make e es n k h r =
    ap (λ (x : List (List ℕ)). length (each f x)) (goes_on make e es)
    ∙ ap length (each_append f (each make (story es)) (make e))
    ∙ length-append (each f (each make (story es))) (each f (make e))
    ∙ omega (arith, h, r)

pub requests_are : (es : Log) → length (each request (each made (story es))) ≡ requests_made es
unfolding requests_made
requests_are [] = refl
requests_are (acted v r us ∷ es) = more_made request made (acted v r us) es _ _ (requests_are es) (requests_in (us normal))
requests_are (took l u r us ∷ es) = more_made request made (took l u r us) es _ _ (requests_are es) (requests_in (us normal))

-- one item more, if it is one
one_counted : {B : Type 0} (f : Seen → List B) (e : Seen) (es : Log) (b : Bool) (x : B) (n : ℕ) → f e ≡ cond b (x ∷ []) [] → length (each f (story es)) ≡ n
    → length (each f (story (e ∷ es))) ≡ count b + n
one_counted {B} f e es b x n k h =
    ap length (goes_on f e es) ∙ length-append (each f (story es)) (f e) ∙ ap (λ (y : List B). length (each f (story es)) + length y) k ∙ by b
  where
    by : (b : Bool) → length (each f (story es)) + length (cond b (x ∷ []) []) ≡ count b + n
    by true = omega (arith, h)
    by false = omega (arith, h)

pub answers_are : (es : Log) → length (each pacing_answer (story es)) ≡ pacing_responses_taken es
unfolding pacing_responses_taken
answers_are [] = refl
answers_are (acted v r us ∷ es) =
    ap length (goes_on pacing_answer (acted v r us) es ∙ append-nil (each pacing_answer (story es))) ∙ answers_are es
answers_are (took expedited u r us ∷ es) =
    ap length (goes_on pacing_answer (took expedited u r us) es ∙ append-nil (each pacing_answer (story es))) ∙ answers_are es
answers_are (took normal u r us ∷ es) =
    one_counted pacing_answer (took normal u r us) es (eqb (number_of r) 0 && is_pacing_response u) u (pacing_responses_taken es) refl (answers_are es)

-- ---- signals

pub signals_in : (us : List (List ℕ)) → length (each signal us) ≡ signals_among us
signals_in = found_in is_signal_unit

pub responses_in : (us : List (List ℕ)) → length (each response us) ≡ responses_among us
responses_in = found_in is_response_unit

pub signals_are : (es : Log) → length (each signal (each made_expedited (story es))) ≡ signals_made es
unfolding signals_made
signals_are [] = refl
signals_are (acted v r us ∷ es) = more_made signal made_expedited (acted v r us) es _ _ (signals_are es) (signals_in (us expedited))
signals_are (took l u r us ∷ es) = more_made signal made_expedited (took l u r us) es _ _ (signals_are es) (signals_in (us expedited))

pub told_are : (es : Log) → length (each told (story es)) ≡ signals_told es
unfolding signals_told
told_are [] = refl
told_are (acted v r us ∷ es) = one_counted told (acted v r us) es r.signalled r (signals_told es) refl (told_are es)
told_are (took l u r us ∷ es) = one_counted told (took l u r us) es r.signalled r (signals_told es) refl (told_are es)

-- ---- takes

abbrev pub NoBreach : Reply → Type 0
NoBreach r = 20 ≤ number_of r → number_of r ≤ 29 → ⊥

not_counted : (b : Bool) (n : ℕ) → count b + n ≡ 0 → (b ≡ false) × (n ≡ 0)
not_counted true n e = absurd (omega (arith, e))
not_counted false n e = (refl, omega (arith, e))

outside : (r : Reply) → is_breach (number_of r) ≡ false → NoBreach r
outside r e l m = let z : true ≡ false = sym (rw (le-leb 20 (number_of r) l, le-leb (number_of r) 29 m)) ∙ e in cc

pub no_breach_in : (es : Log) → breaches es ≡ 0 → All NoBreach (each take_answer (story es))
unfolding breaches
no_breach_in [] e = tt
no_breach_in (acted v r us ∷ es) e = holds_on NoBreach take_answer (acted v r us) es (no_breach_in es e) tt
no_breach_in (took l u r us ∷ es) e =
    let n = not_counted (is_breach (number_of r)) (breaches es) e in
    holds_on NoBreach take_answer (took l u r us) es (no_breach_in es n.1) (outside r n.0, tt)

-- ---- refusals

abbrev pub Not : ℕ → Reply → Type 0
Not n r = number_of r ≡ n → ⊥

other_than : (n : ℕ) (r : Reply) → eqb (number_of r) n ≡ false → Not n r
other_than n r e h = let z : true ≡ false = sym (eq-eqb (number_of r) n h) ∙ e in cc

pub never_in : (n : ℕ) (es : Log) → refused_with n es ≡ 0 → All (Not n) (each answer (story es))
unfolding refused_with
never_in n [] e = tt
never_in n (acted v r us ∷ es) e =
    let c = not_counted (eqb (number_of r) n) (refused_with n es) e in
    holds_on (Not n) answer (acted v r us) es (never_in n es c.1) (other_than n r c.0, tt)
never_in n (took l u r us ∷ es) e =
    let c = not_counted (eqb (number_of r) n) (refused_with n es) e in
    holds_on (Not n) answer (took l u r us) es (never_in n es c.1) (other_than n r c.0, tt)

not_bad : (v : Verb) (r : Reply) → is_bad_read v (number_of r) ≡ false → All (Not 8) (of_read v r)
not_bad Verb.allocate r e = tt
not_bad Verb.confirmed r e = tt
not_bad Verb.send_error r e = tt
not_bad Verb.send_pacing_response r e = tt
not_bad Verb.request_to_send r e = tt
not_bad (Verb.send_data bytes) r e = tt
not_bad (Verb.close f b) r e = tt
not_bad Verb.withdraw r e = tt
not_bad (Verb.defer d) r e = tt
not_bad (Verb.receive buffer) r e = (other_than 8 r e, tt)

pub no_bad_read : (es : Log) → bad_reads es ≡ 0 → All (Not 8) (each read_answer (story es))
unfolding bad_reads
no_bad_read [] e = tt
no_bad_read (acted v r us ∷ es) e =
    let c = not_counted (is_bad_read v (number_of r)) (bad_reads es) e in
    holds_on (Not 8) read_answer (acted v r us) es (no_bad_read es c.1) (not_bad v r c.0)
no_bad_read (took l u r us ∷ es) e = holds_on (Not 8) read_answer (took l u r us) es (no_bad_read es e) tt

-- ---- reads

-- a rule of logs that holds of a log held of it when it was shorter
module _ (Rule : Log → Type 0) (tail : (e : Event Lane Verb Reply (List ℕ)) (es : Log) → Rule (e ∷ es) → Rule es) where
  earlier_too : (later earlier : Log) → Rule (later ++ earlier) → Rule earlier
  earlier_too [] earlier h = h
  earlier_too (e ∷ later) earlier h = earlier_too later earlier (tail e (later ++ earlier) h)

  -- what it says of each take
  takes_are : (P : Reply → Type 0) → ((l : Lane) (u : List ℕ) (r : Reply) (us : Lines Lane (List ℕ)) (es : Log) → Rule (took l u r us ∷ es) → P r)
      → (es : Log) → Rule es → All P (each take_answer (story es))
  takes_are P head [] h = tt
  takes_are P head (acted v r us ∷ es) h = holds_on P take_answer (acted v r us) es (takes_are P head es (tail (acted v r us) es h)) tt
  takes_are P head (took l u r us ∷ es) h =
      holds_on P take_answer (took l u r us) es (takes_are P head es (tail (took l u r us) es h)) (head l u r us es h, tt)

complete_tail : (e : Event Lane Verb Reply (List ℕ)) (es : Log) → CompleteIsRight (e ∷ es) → CompleteIsRight es
unfolding CompleteIsRight
complete_tail (acted v r us) es h = h.1
complete_tail (took l u r us) es h = h.1

more_tail : (e : Event Lane Verb Reply (List ℕ)) (es : Log) → MoreIsRight (e ∷ es) → MoreIsRight es
unfolding MoreIsRight
more_tail (acted v r us) es h = h.1
more_tail (took l u r us) es h = h.1

apart_tail : (e : Event Lane Verb Reply (List ℕ)) (es : Log) → NoneCrosses (e ∷ es) → NoneCrosses es
unfolding NoneCrosses
apart_tail (acted v r us) es h = h.1
apart_tail (took l u r us) es h = h

pub takes_not_complete : (es : Log) → CompleteIsRight es → All (λ r. r.answer.complete ≡ false) (each take_answer (story es))
unfolding CompleteIsRight
takes_not_complete = takes_are CompleteIsRight complete_tail (λ r. r.answer.complete ≡ false) (λ l u r us es h. h.0)

pub takes_no_more : (es : Log) → MoreIsRight es → All (λ r. r.answer.more ≡ false) (each take_answer (story es))
unfolding MoreIsRight
takes_no_more = takes_are MoreIsRight more_tail (λ r. r.answer.more ≡ false) (λ l u r us es h. h.0)

-- what a call says of the record's end, where it stands in the log
module _ (log later earlier : Log) (v : Verb) (r : Reply) (us : Lines Lane (List ℕ)) (here : log ≡ later ++ (acted v r us ∷ earlier)) where
  abbrev until : List ℕ
  until = each copied (story (acted v r us ∷ earlier))

  said : CompleteIsRight log → r.answer.complete ≡ (not (eqb r.answer.copied 0) && ended (walk start until))
  unfolding CompleteIsRight
  said h =
      let c = earlier_too CompleteIsRight complete_tail later (acted v r us ∷ earlier) (subst CompleteIsRight here h) in
      c.0 ∙ ap (λ (bs : List ℕ). not (eqb r.answer.copied 0) && ended (walk start bs)) (sym (read_is (acted v r us ∷ earlier)))

  pub ends_there : CompleteIsRight log → r.answer.complete ≡ true → ended (walk start until) ≡ true
  ends_there h e = right (not (eqb r.answer.copied 0)) (ended (walk start until)) (sym (said h) ∙ e)

  pub says_so : CompleteIsRight log → 0 < r.answer.copied → ended (walk start until) ≡ true → r.answer.complete ≡ true
  says_so h some e = said h ∙ rw (ne_eqb r.answer.copied 0 (λ z. omega (arith, z, some)), e)

  pub says_more : MoreIsRight log → r.answer.more ≡ (r.answer.complete && last_bit (whole_records until))
  unfolding MoreIsRight
  says_more h =
      let c = earlier_too MoreIsRight more_tail later (acted v r us ∷ earlier) (subst MoreIsRight here h) in
      c.0 ∙ ap (λ (bs : List ℕ). r.answer.complete && last_bit (whole_records bs)) (sym (read_is (acted v r us ∷ earlier)))

  pub none_before : NoneCrosses log → (n : ℕ) → 0 < n → n < r.answer.copied → ended (walk start (each copied (story earlier) ++ take n r.buffer)) ≡ false
  unfolding NoneCrosses
  none_before h n some few =
      ap (λ (bs : List ℕ). ended (walk start (bs ++ take n r.buffer))) (read_is earlier)
      ∙ (earlier_too NoneCrosses apart_tail later (acted v r us ∷ earlier) (subst NoneCrosses here h)).0 n some few
