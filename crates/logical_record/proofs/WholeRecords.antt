-- The whole records of a stream: of one list after another, that each is a record, and that the place behind them remembers what the last
-- of them says of more parts.
-- Assumes nothing.
use mathlib.Core.Path.{◌≡◌, refl, sym, ap, subst, ◌∙◌}
use mathlib.Core.Bool.{Bool, true, false, cond, ◌&&◌, true≢false}
use mathlib.Core.List.{List, [], ◌∷◌, ◌++◌, append-nil, append_assoc}
use Prim.Native.Nat.{ℕ, ◌+◌, ◌-◌, ◌<◌}
use native.Mathlib.Omega.{arith}
use lib.ListN.{length, length-append}
use lib.Dec.{eqb}
use borrow.Author.Tests.{eq-eqb, eqb-true, eqb-false}
use Rattle.logical_record.specs.Length.{part, length_of}
use Rattle.logical_record.specs.Positions.{start, remaining, is_between, more_follows}
use Rattle.logical_record.specs.Walk.{passed, step, then_walk, walk}
use Rattle.logical_record.specs.Groups.{known, groups_from, joined}
use Rattle.logical_record.specs.Records.{is_record, are_records, part_more, last_more, last_bit, ended, further, records_from, whole_records, pending}
use Rattle.std.specs.Prelude.{Result, Ok, Err}
use Rattle.logical_record.specs.declared.BadLength.{BadLength}
use Rattle.logical_record.specs.declared.Length.{Length}
use Rattle.logical_record.specs.declared.Position.{Position}
use Rattle.logical_record.specs.declared.Position.TheVariants.{Between, AfterFirst, Remaining}
use Rattle.logical_record.proofs.BytesLeft.{length_bounds, remaining_some}
use Rattle.logical_record.proofs.Walks.{walk_bad, at_not_bad, same_position}
use Rattle.logical_record.proofs.RecordEnds.{record_parts, record_ends}
use Rattle.logical_record.proofs.Groups.{groups_append, groups_items, left_none}
use Rattle.bools.proofs.Tests.{both}

-- ---- one list after another

-- what is known of the bytes so far is where they walk to
known_walk : (w : Result Position BadLength) (bs : List ℕ) → known further w bs ≡ then_walk w bs
unfolding then_walk
known_walk w [] = refl
known_walk (Ok p) (b ∷ bs) = known_walk (step p b) bs
known_walk (Err bad) (b ∷ bs) = known_walk (Err bad) bs ∙ walk_bad bs

-- the records of a stream stay as they are when more bytes come
pub whole_records_append :
    (a b : List ℕ) → whole_records (a ++ b) ≡ whole_records a ++ records_from (walk start a) (pending a) b
whole_records_append a b = groups_append further ended (Ok start) [] a b ∙ rw (known_walk (Ok start) a)

pub whole_records_bytes : (bs : List ℕ) → joined (whole_records bs) ++ pending bs ≡ bs
whole_records_bytes bs = groups_items further ended (Ok start) [] bs

-- a stream that ends between records is its whole records and nothing more
pub pending_empty : (bs : List ℕ) (p : Position) → walk start bs ≡ Ok p → is_between p ≡ true → pending bs ≡ []
pending_empty bs p e b = left_none further ended (Ok start) [] bs (λ _. refl) (ap ended (known_walk (Ok start) bs ∙ e) ∙ b)

-- the next record does not ask what the one before it said
records_between : (p : Position) (bs : List ℕ) → is_between p ≡ true → records_from (Ok p) [] bs ≡ whole_records bs
unfolding groups_from
records_between p [] e = refl
records_between (Between more) (b ∷ bs) e = refl
records_between (AfterFirst high) (b ∷ bs) e = cc
records_between (Remaining more n) (b ∷ bs) e = cc

pub whole_stream_append :
    (a b : List ℕ) (p : Position) → walk start a ≡ Ok p → is_between p ≡ true → whole_records (a ++ b) ≡ whole_records a ++ whole_records b
whole_stream_append a b p e f = whole_records_append a b ∙ rw (e, pending_empty a p e f, records_between p b f)

-- ---- each is a record, and its bit is remembered

-- what has been met of a record, when n of its bytes are left
record Data (n : ℕ) (more : Bool) (met : List ℕ) : Type 0 where
  high : ℕ
  low : ℕ
  body : List ℕ
  is : met ≡ high ∷ low ∷ body
  says : length_of high low ≡ Ok (part (length (high ∷ low ∷ body) + n) more)
  some : 0 < n

-- of the current record these bytes, where `bit` is what the last whole record says of more parts
abbrev Met : Position → List ℕ → Bool → Type 0
Met (Between more) met bit = (met ≡ []) × (more ≡ bit)
Met (AfterFirst high) met bit = met ≡ high ∷ []
Met (Remaining more n) met bit = Data n more met

abbrev MetBy : Result Position BadLength → List ℕ → Bool → Type 0
MetBy (Ok p) met bit = Met p met bit
MetBy (Err bad) met bit = Unit {0}

-- after a byte: a record has ended, or one more byte of it is met
record Next (w : Result Position BadLength) (met : List ℕ) (bit : Bool) : Type 0 where
  ends : ended w ≡ true → (is_record met ≡ true) × MetBy w [] (part_more met)
  goes : ended w ≡ false → MetBy w met bit

next_left :
    (t : Bool) (m high low : ℕ) (more : Bool) (met body : List ℕ) (bit : Bool)
    → eqb m 0 ≡ t
    → met ≡ high ∷ low ∷ body
    → length_of high low ≡ Ok (part (length (high ∷ low ∷ body) + m) more)
    → Next (Ok (cond t (Between more) (Remaining more m))) met bit
next_left true m high low more met body bit t e g =
    let f = eqb-true m 0 t in
    record {
      ends = λ _. (
        rw (e, g, eq-eqb (length (high ∷ low ∷ body)) (length (high ∷ low ∷ body) + m) (omega arith)),
        (refl, rw (e, g)),
      );
      goes = λ y. cc;
    }
next_left false m high low more met body bit t e g =
    record {
      ends = λ y. cc;
      goes = λ _. record { high = high; low = low; body = body; is = e; says = g; some = omega (arith, eqb-false m 0 t) };
    }

next_length : (l : Result Length BadLength) (high low : ℕ) (met : List ℕ) (bit : Bool) → length_of high low ≡ l → met ≡ high ∷ low ∷ [] → Next (passed l) met bit
next_length (Ok l) high low met bit g e =
    let b = length_bounds high low l.bytes l.more g in
    let f : l.bytes ≡ length (high ∷ low ∷ []) + (l.bytes - 2) = omega arith in
    next_left (eqb (l.bytes - 2) 0) (l.bytes - 2) high low l.more met [] bit refl e (g ∙ ap (λ (k : ℕ). Ok (part k l.more)) f)
next_length (Err bad) high low met bit g e =
    record { ends = λ y. cc; goes = λ _. tt }

next : (p : Position) (met : List ℕ) (bit : Bool) (b : ℕ) → Met p met bit → Next (step p b) (met ++ (b ∷ [])) bit
next (Between more) met bit b m =
    record { ends = λ y. cc; goes = λ _. rw m.0 }
next (AfterFirst high) met bit b m = next_length (length_of high b) high b (met ++ (b ∷ [])) bit refl (rw m)
next (Remaining more n) met bit b m =
    let l = length-append m.body (b ∷ []) in
    let f : length (m.high ∷ m.low ∷ m.body) + n ≡ length (m.high ∷ m.low ∷ (m.body ++ (b ∷ []))) + (n - 1) = omega (arith, m.some) in
    next_left (eqb (n - 1) 0) (n - 1) m.high m.low more (met ++ (b ∷ [])) (m.body ++ (b ∷ [])) bit refl
    (rw m.is) (m.says ∙ ap (λ (k : ℕ). Ok (part k more)) f)

-- the records found in the bytes ahead
record Found (w : Result Position BadLength) (rs : List (List ℕ)) (bit : Bool) : Type 0 where
  are : are_records rs ≡ true
  remembered : (q : Position) → w ≡ Ok q → is_between q ≡ true → more_follows q ≡ known last_more bit rs

found_one :
    (t : Bool) (w v : Result Position BadLength) (met : List ℕ) (bit : Bool) (rs₁ rs₂ : List (List ℕ))
    → ended w ≡ t
    → Next w met bit
    → (MetBy w [] (part_more met) → Found v rs₁ (part_more met))
    → (MetBy w met bit → Found v rs₂ bit)
    → Found v (cond t (met ∷ rs₁) rs₂) bit
found_one true w v met bit rs₁ rs₂ e n f g =
    let r = f (n.ends e).1 in
    record { are = rw ((n.ends e).0, r.are); remembered = r.remembered }
found_one false w v met bit rs₁ rs₂ e n f g = g (n.goes e)

at_between : (p q : Position) (met : List ℕ) (bit : Bool) → Met p met bit → p ≡ q → is_between q ≡ true → more_follows q ≡ bit
at_between (Between more) q met bit m e b = ap more_follows (sym e) ∙ m.1
at_between (AfterFirst high) q met bit m e b = absurd (true≢false (sym b ∙ ap is_between (sym e)))
at_between (Remaining more n) q met bit m e b = absurd (true≢false (sym b ∙ ap is_between (sym e)))

between_bit :
    (w : Result Position BadLength) (met : List ℕ) (bit : Bool) → MetBy w met bit → (q : Position) → w ≡ Ok q → is_between q ≡ true → more_follows q ≡ bit
between_bit (Ok p) met bit m q e b = at_between p q met bit m (same_position p q e) b
between_bit (Err bad) met bit m q e b = absurd (at_not_bad q (sym e))

found_from : (w : Result Position BadLength) (met bs : List ℕ) (bit : Bool) → MetBy w met bit → Found (then_walk w bs) (records_from w met bs) bit
unfolding then_walk groups_from
found_from w met [] bit m = record { are = refl; remembered = between_bit w met bit m }
found_from (Ok p) met (b ∷ bs) bit m =
    found_one (ended (step p b)) (step p b) (then_walk (step p b) bs) (met ++ (b ∷ [])) bit
    (records_from (step p b) [] bs) (records_from (step p b) (met ++ (b ∷ [])) bs) refl
    (next p met bit b m) (found_from (step p b) [] bs (part_more (met ++ (b ∷ [])))) (found_from (step p b) (met ++ (b ∷ [])) bs bit)
found_from (Err bad) met (b ∷ bs) bit m =
    subst (λ (w : Result Position BadLength). Found w (records_from (Err bad) (met ++ (b ∷ [])) bs) bit) (walk_bad bs)
    (found_from (Err bad) (met ++ (b ∷ [])) bs bit tt)

found : (bs : List ℕ) → Found (walk start bs) (whole_records bs) false
found bs = found_from (Ok start) [] bs false (refl, refl)

pub whole_records_are : (bs : List ℕ) → are_records (whole_records bs) ≡ true
whole_records_are bs = (found bs).are

pub bit_remembered : (bs : List ℕ) (p : Position) → walk start bs ≡ Ok p → more_follows p ≡ (is_between p && last_bit (whole_records bs))
bit_remembered bs (Between more) e = (found bs).remembered (Between more) e refl
bit_remembered bs (AfterFirst high) e = refl
bit_remembered bs (Remaining more n) e = refl

-- ---- and each record is found

-- the bytes left of a record end it
ending :
    (n : ℕ) (more : Bool) (met bs : List ℕ)
    → length bs ≡ n
    → cond (is_between (remaining n more)) (met ∷ records_from (Ok (remaining n more)) [] bs) (records_from (Ok (remaining n more)) met bs)
    ≡ (met ++ bs) ∷ []
unfolding groups_from
ending n more met [] e = rw (← e, append-nil met)
ending n more met (b ∷ bs) e =
    rw (remaining_some n more (omega arith))
    (ending (n - 1) more (met ++ (b ∷ [])) bs (omega arith) ∙ rw (append_assoc met (b ∷ []) bs))

record_alone : (r : List ℕ) → is_record r ≡ true → whole_records r ≡ r ∷ []
unfolding groups_from
record_alone [] h = cc
record_alone (high ∷ []) h = cc
record_alone (high ∷ low ∷ bs) h =
    let t = record_parts high low bs h in
    rw t.says (ending (length (high ∷ low ∷ bs) - 2) t.more (high ∷ low ∷ []) bs (omega arith))

pub record_first : (r bs : List ℕ) → is_record r ≡ true → whole_records (r ++ bs) ≡ r ∷ whole_records bs
record_first r bs h = whole_stream_append r bs (Between (part_more r)) (record_ends r h) refl ∙ rw (record_alone r h)

pub whole_records_joined : (rs : List (List ℕ)) → are_records rs ≡ true → whole_records (joined rs) ≡ rs
unfolding groups_from
whole_records_joined [] h = refl
whole_records_joined (r ∷ rs) h =
    let t = both (is_record r) (are_records rs) h in
    record_first r (joined rs) t.0 ∙ rw (whole_records_joined rs t.1)
