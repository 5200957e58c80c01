-- The expedited half of two joined ends: a signal of an end is nowhere, on its way, or its response is; the numbers that the ends keep say which.
-- Assumes nothing.
use Rattle.joined.proofs.JoinedWords.{ℕ, ◌+◌, Bool, true, false, not, cond, List, [], ◌∷◌, ◌++◌, append-nil, ◌≡◌, refl, sym, ap, ◌∙◌}
use Rattle.joined.proofs.JoinedWords.{subst, never, number_in, next_number, Expedited, count, among, RU_START, length, arith, le-leb, eq-eqb}
use Rattle.header.specs.ExpeditedHeader.{is_signal, expedited_fields, expedited_bytes}
use Rattle.header.specs.declared.ExpeditedHeader.{ExpeditedHeader}
use Rattle.header.specs.declared.ExpeditedHeader.TheVariants.{Signal, SignalResponse}
use Rattle.header.specs.Rules.{bytes, same_header}
use Rattle.header.specs.declared.HeaderBytes.{HeaderBytes}
use Rattle.unit.specs.ExpeditedUnit.{expedited_ru, expedited_of}
use Rattle.unit.proofs.ExpeditedUnits.{expedited_length, expedited_number, expedited_header, expedited_ru_lem, expedited_built_good, expedited_built_fields}
use Rattle.cells.proofs.Equal.{same_self}
use Rattle.answers.specs.FirstNo.{first_no}
use Rattle.expedited.specs.Signals.{no_signal, signal_made, signal_taken, response_taken}
use Rattle.expedited.specs.Takes.{header_taken, field_questions, take_questions}
use Rattle.calls.specs.UnitCounts.{is_signal_unit, is_response_unit}
use Rattle.joined.specs.Signals.{signals_among, responses_among}

-- ---- units of an expedited lane

-- it is one that an end makes
pub record Written (u : List ℕ) : Type 0 where
  pub number : ℕ
  pub header : ExpeditedHeader
  pub is : u ≡ expedited_of number header

abbrev pub AllWritten : List (List ℕ) → Type 0
AllWritten [] = Unit {0}
AllWritten (u ∷ us) = Written u × AllWritten us

pub all_more_lem : (us : List (List ℕ)) (n : ℕ) (h : ExpeditedHeader) → AllWritten us → AllWritten (us ++ (expedited_of n h ∷ []))
all_more_lem [] n h w = (record { number = n; header = h; is = refl }, tt)
all_more_lem (u ∷ us) n h w = (w.0, all_more_lem us n h w.1)

pub header_written : (n : ℕ) (h : ExpeditedHeader) → header_taken (expedited_of n h) ≡ h
header_written n h = ap expedited_fields (expedited_header n h) ∙ expedited_built_fields h

abbrev is_response : ExpeditedHeader → Bool
is_response h = not (is_signal h)

-- the numbers of the signals, and of the responses, oldest first
abbrev pub picked : (ExpeditedHeader → Bool) → List (List ℕ) → List ℕ
picked p [] = []
picked p (u ∷ us) = cond (p (header_taken u)) (number_in u ∷ picked p us) (picked p us)

abbrev pub signals_on : List (List ℕ) → List ℕ
signals_on us = picked is_signal us

abbrev pub responses_on : List (List ℕ) → List ℕ
responses_on us = picked is_response us

picked_append : (p : ExpeditedHeader → Bool) (us vs : List (List ℕ)) → picked p (us ++ vs) ≡ picked p us ++ picked p vs
picked_append p [] vs = refl
picked_append p (u ∷ us) vs = one (p (header_taken u)) (picked p (us ++ vs)) (picked p us) (picked_append p us vs)
  where
    one : (b : Bool) (xs ys : List ℕ) → xs ≡ ys ++ picked p vs → cond b (number_in u ∷ xs) xs ≡ cond b (number_in u ∷ ys) ys ++ picked p vs
    one true xs ys e = ap (λ (ns : List ℕ). number_in u ∷ ns) e
    one false xs ys e = e

-- a unit behind them
picked_more : (p : ExpeditedHeader → Bool) (us : List (List ℕ)) (n : ℕ) (h : ExpeditedHeader)
    → picked p (us ++ (expedited_of n h ∷ [])) ≡ picked p us ++ cond (p h) (n ∷ []) []
picked_more p us n h =
    picked_append p us (expedited_of n h ∷ [])
    ∙ ap (λ (k : ExpeditedHeader). picked p us ++ cond (p k) (number_in (expedited_of n h) ∷ []) []) (header_written n h)
    ∙ ap (λ (m : ℕ). picked p us ++ cond (p h) (m ∷ []) []) (expedited_number n h)

-- ---- where a signal is

-- x is kept at the end that makes it, `taken` at the other; `signals` are on the line there, `responses` on the line back
pub data Course (x : Expedited) (taken : ℕ) (signals responses : List ℕ) : Type 0 where
  quiet : x.unanswered ≡ false → x.sent ≡ taken → signals ≡ [] → responses ≡ [] → Course x taken signals responses
  going : x.unanswered ≡ true → x.sent ≡ next_number taken → signals ≡ x.sent ∷ [] → responses ≡ [] → Course x taken signals responses
  coming : x.unanswered ≡ true → x.sent ≡ taken → signals ≡ [] → responses ≡ x.sent ∷ [] → Course x taken signals responses

-- the two ends, and the lines between them
pub record Halves (x y : Expedited) (line back : List (List ℕ)) : Type 0 where
  pub out : Course x y.taken (signals_on line) (responses_on back)
  pub into : Course y x.taken (signals_on back) (responses_on line)
  pub line_written : AllWritten line
  pub back_written : AllWritten back

pub halves_flip : {x y : Expedited} {line back : List (List ℕ)} → Halves x y line back → Halves y x back line
halves_flip h = record { out = h.into; into = h.out; line_written = h.back_written; back_written = h.line_written }

pub halves_fresh : Halves no_signal no_signal [] []
halves_fresh = record { out = quiet refl refl refl refl; into = quiet refl refl refl refl; line_written = tt; back_written = tt }

-- a course by other words for its values
as_course : {x y : Expedited} {taken : ℕ} {ss rs ss' rs' : List ℕ} → y.unanswered ≡ x.unanswered → y.sent ≡ x.sent → ss' ≡ ss → rs' ≡ rs
    → Course x taken ss rs → Course y taken ss' rs'
as_course u n s r (quiet a b c d) = quiet (u ∙ a) (n ∙ b) (s ∙ c) (r ∙ d)
as_course u n s r (going a b c d) = going (u ∙ a) (n ∙ b) (s ∙ c ∙ ap (λ (k : ℕ). k ∷ []) (sym n)) (r ∙ d)
as_course u n s r (coming a b c d) = coming (u ∙ a) (n ∙ b) (s ∙ c) (r ∙ d ∙ ap (λ (k : ℕ). k ∷ []) (sym n))

-- ---- a signal made

made_course : (x : Expedited) (taken : ℕ) (ss rs : List ℕ) → x.unanswered ≡ false → Course x taken ss rs
    → Course (signal_made x) taken (ss ++ (next_number x.sent ∷ [])) rs
made_course x taken ss rs n (quiet a b c d) = going refl (ap next_number b) (ap (λ (ks : List ℕ). ks ++ (next_number x.sent ∷ [])) c) d
made_course x taken ss rs n (going a b c d) = never (sym n ∙ a)
made_course x taken ss rs n (coming a b c d) = never (sym n ∙ a)

pub halves_made : (x y : Expedited) (line back : List (List ℕ)) → x.unanswered ≡ false → Halves x y line back
    → Halves (signal_made x) y (line ++ (expedited_of (next_number x.sent) Signal ∷ [])) back
halves_made x y line back n h =
    record {
      out =
          subst (λ (ss : List ℕ). Course (signal_made x) y.taken ss (responses_on back)) (sym (picked_more is_signal line (next_number x.sent) Signal))
          (made_course x y.taken (signals_on line) (responses_on back) n h.out);
      into =
          as_course refl refl refl (picked_more is_response line (next_number x.sent) Signal ∙ append-nil (responses_on line)) h.into;
      line_written = all_more_lem line (next_number x.sent) Signal h.line_written;
      back_written = h.back_written;
    }

-- ---- a signal taken, and a response

-- the first of a list of one
first_is : (k n : ℕ) (ks : List ℕ) → k ∷ ks ≡ n ∷ [] → (k ≡ n) × (ks ≡ [])
first_is k n ks e = (cc, cc)

none_first : {X : Type 0} (k : ℕ) (ks : List ℕ) → k ∷ ks ≡ [] → X
none_first k ks e = cc

pub record SignalTaken (y : Expedited) (taken k : ℕ) (ss rs : List ℕ) : Type 0 where
  pub next : k ≡ next_number taken
  pub after : Course y k ss (rs ++ (k ∷ []))

signal_taken_lem : (y : Expedited) (taken k : ℕ) (ss rs : List ℕ) → Course y taken (k ∷ ss) rs → SignalTaken y taken k ss rs
signal_taken_lem y taken k ss rs (quiet a b c d) = none_first k ss c
signal_taken_lem y taken k ss rs (going a b c d) =
    let f = first_is k y.sent ss c in
    record {
      next = f.0 ∙ b;
      after = coming a (sym f.0) f.1 (ap (λ (ks : List ℕ). ks ++ (k ∷ [])) d ∙ ap (λ (n : ℕ). n ∷ []) f.0);
    }
signal_taken_lem y taken k ss rs (coming a b c d) = none_first k ss c

pub record ResponseTaken (x : Expedited) (taken k : ℕ) (ss rs : List ℕ) : Type 0 where
  pub on : x.unanswered ≡ true
  pub number : k ≡ x.sent
  pub after : Course (response_taken x) taken ss rs

response_taken_lem : (x : Expedited) (taken k : ℕ) (ss rs : List ℕ) → Course x taken ss (k ∷ rs) → ResponseTaken x taken k ss rs
response_taken_lem x taken k ss rs (quiet a b c d) = none_first k rs d
response_taken_lem x taken k ss rs (going a b c d) = none_first k rs d
response_taken_lem x taken k ss rs (coming a b c d) =
    let f = first_is k x.sent rs d in
    record { on = a; number = f.0; after = quiet refl b c f.1 }

-- what is on a line whose first unit is this one
on_first : (u : List ℕ) (us : List (List ℕ)) (h : ExpeditedHeader) → header_taken u ≡ h
    → (signals_on (u ∷ us) ≡ cond (is_signal h) (number_in u ∷ signals_on us) (signals_on us))
    × (responses_on (u ∷ us) ≡ cond (is_response h) (number_in u ∷ responses_on us) (responses_on us))
on_first u us h e = (rw e, rw e)

module _ (x y : Expedited) (line : List (List ℕ)) (u : List ℕ) (us : List (List ℕ)) (h : Halves x y line (u ∷ us)) where
  -- a signal that is taken at x
  to_take : header_taken u ≡ Signal → SignalTaken y x.taken (number_in u) (signals_on us) (responses_on line)
  to_take e =
      signal_taken_lem y x.taken (number_in u) (signals_on us) (responses_on line)
      (subst (λ (ss : List ℕ). Course y x.taken ss (responses_on line)) (on_first u us Signal e).0 h.into)

  pub halves_told : header_taken u ≡ Signal → Halves (signal_taken (number_in u) x) y (line ++ (expedited_of (number_in u) SignalResponse ∷ [])) us
  halves_told e =
      record {
        out =
            as_course refl refl (picked_more is_signal line (number_in u) SignalResponse ∙ append-nil (signals_on line))
            (sym (on_first u us Signal e).1) h.out;
        into =
            subst (λ (rs : List ℕ). Course y (number_in u) (signals_on us) rs) (sym (picked_more is_response line (number_in u) SignalResponse))
            (to_take e).after;
        line_written = all_more_lem line (number_in u) SignalResponse h.line_written;
        back_written = h.back_written.1;
      }

  -- a response
  to_clear : header_taken u ≡ SignalResponse → ResponseTaken x y.taken (number_in u) (signals_on line) (responses_on us)
  to_clear e =
      response_taken_lem x y.taken (number_in u) (signals_on line) (responses_on us)
      (subst (λ (rs : List ℕ). Course x y.taken (signals_on line) rs) (on_first u us SignalResponse e).1 h.out)

  pub halves_cleared : header_taken u ≡ SignalResponse → Halves (response_taken x) y line us
  halves_cleared e =
      record {
        out = (to_clear e).after;
        into = as_course refl refl (sym (on_first u us SignalResponse e).0) refl h.into;
        line_written = h.line_written;
        back_written = h.back_written.1;
      }

  -- ---- no breach: every question from 20 on is answered yes

  head_passes : (n : ℕ) (k : ExpeditedHeader) → u ≡ expedited_of n k
      → first_no (take_questions x u) ≡ first_no (field_questions x k n (expedited_ru k))
  head_passes n k e =
      let long = le-leb RU_START (length (expedited_of n k)) (omega (arith, expedited_length n k)) in
      rw (e, long, expedited_header n k, expedited_built_good k, expedited_built_fields k, expedited_number n k, expedited_ru_lem n k)

  by : (n : ℕ) (k : ExpeditedHeader) → u ≡ expedited_of n k → first_no (field_questions x k n (expedited_ru k)) ≡ 0
  by n Signal e =
      let t = (to_take (ap header_taken e ∙ header_written n Signal)).next in
      rw (same_self (expedited_ru Signal), eq-eqb n (next_number x.taken) (sym (ap number_in e ∙ expedited_number n Signal) ∙ t))
  by n SignalResponse e =
      let t = to_clear (ap header_taken e ∙ header_written n SignalResponse) in
      rw (same_self (expedited_ru SignalResponse), t.on, eq-eqb n x.sent (sym (ap number_in e ∙ expedited_number n SignalResponse) ∙ t.number))

  pub all_yes : first_no (take_questions x u) ≡ 0
  all_yes =
      let w = h.back_written.0 in
      head_passes w.number w.header w.is ∙ by w.number w.header w.is

-- ---- counts

-- read by its bytes
pub signal_unit : (n : ℕ) (h : ExpeditedHeader) → (is_signal_unit (expedited_of n h) ≡ is_signal h) × (is_response_unit (expedited_of n h) ≡ is_response h)
unfolding expedited_bytes
signal_unit n Signal = (
  ap (λ (b : HeaderBytes). same_header b (bytes 0x4B 0x80 0x00)) (expedited_header n Signal),
  ap (λ (b : HeaderBytes). same_header b (bytes 0xCB 0x80 0x00)) (expedited_header n Signal),
)
signal_unit n SignalResponse = (
  ap (λ (b : HeaderBytes). same_header b (bytes 0x4B 0x80 0x00)) (expedited_header n SignalResponse),
  ap (λ (b : HeaderBytes). same_header b (bytes 0xCB 0x80 0x00)) (expedited_header n SignalResponse),
)

count_one : (b : Bool) (n k : ℕ) (ks : List ℕ) → n ≡ length ks → count b + n ≡ length (cond b (k ∷ ks) ks)
count_one true n k ks e = omega (arith, e)
count_one false n k ks e = omega (arith, e)

pub signals_counted : (us : List (List ℕ)) → AllWritten us → (signals_among us ≡ length (signals_on us)) × (responses_among us ≡ length (responses_on us))
unfolding among
signals_counted [] w = (refl, refl)
signals_counted (u ∷ us) w =
    let c = signals_counted us w.1 in
    let i = w.0.is in
    let s = signal_unit w.0.number w.0.header in
    let h : header_taken u ≡ w.0.header = ap header_taken i ∙ header_written w.0.number w.0.header in (
      ap (λ (b : Bool). count b + signals_among us) (ap is_signal_unit i ∙ s.0 ∙ ap is_signal (sym h))
          ∙ count_one (is_signal (header_taken u)) (signals_among us) (number_in u) (signals_on us) c.0,
      ap (λ (b : Bool). count b + responses_among us) (ap is_response_unit i ∙ s.1 ∙ ap is_response (sym h))
          ∙ count_one (is_response (header_taken u)) (responses_among us) (number_in u) (responses_on us) c.1,
    )

-- one is unanswered exactly while it, or its response, is on a line
pub course_counted : (x : Expedited) (taken : ℕ) (ss rs : List ℕ) → Course x taken ss rs → count x.unanswered ≡ length ss + length rs
course_counted x taken ss rs (quiet a b c d) = rw (a, c, d)
course_counted x taken ss rs (going a b c d) = rw (a, c, d)
course_counted x taken ss rs (coming a b c d) = rw (a, c, d)
