-- One way between two joined ends, as a stream of requests: numbers, positions in the window, chains and record places. What the receiving end has
-- taken, led on by the units on the line, is what the sending end has made.
-- Assumes nothing.
use Rattle.joined.proofs.JoinedWords.{ℕ, le-leb, eq-eqb, eqb, leb, length, Bool, true, false, not, cond, ◌&&◌, ◌||◌, List, [], ◌∷◌, ◌++◌, ◌≡◌, refl, sym}
use Rattle.joined.proofs.JoinedWords.{ap, ◌∙◌, subst, arith, never, is_whole, then_walk, walk, place_or, Position, walk_append, walk_prefix, same_position}
use Rattle.joined.proofs.JoinedWords.{BadLength, Result, Ok}
use Rattle.joined.proofs.JoinedWords.{Through, is_first, header_good, ChainEnd, DataHeader, Header, marks, fixed_ru, ru_good, RU_START, unit_of, number_in}
use Rattle.joined.proofs.JoinedWords.{header_in, unit_number, agree, next_number, header_received, ru_received, Station, Sort, sort_of, is_asking}
use Rattle.joined.proofs.JoinedWords.{taken_header, bytes_in_send_buffer}
use Rattle.header.specs.Header.{is_last}
use Rattle.cells.specs.Equal.{same_bytes}
use Rattle.header.specs.declared.Header.TheVariants.{Data, Bid, ErrorDescription}
use Rattle.header.proofs.RoundTrip.{built_good}
use Rattle.unit.proofs.UnitLaws.{unit_length, unit_header, unit_ru}
use Rattle.pacing.specs.Pacing.{next_position}
use Rattle.control.proofs.Agree.{agree_same}
use Rattle.receiving.specs.Receiving.{records_fit}
use Rattle.calls.proofs.UnitsByHeader.{brings, asks, tells, answers, paces, fixed_ru_lem}
use Rattle.joined.proofs.LineAutomaton.{Ran, ok, stuck, stuck≢ok, ok_is, Leads, leads_nowhere, leads_more, Parted, parted}

-- ---- what is kept in step

pub record Books : Type 0 where
  pub number : ℕ
  pub position : ℕ
  pub chain : Bool
  pub place : Position

-- a unit of a sort may come next
abbrev pub follows : Books → Sort → ℕ → List ℕ → Bool
follows b (brings d) n ru =
    agree d.pacing (eqb b.position 0)
    && (eqb n (next_number b.number) && (agree (is_first d.begins) (not b.chain) && records_fit d.ends (walk b.place ru)))
follows b (asks p) n ru = agree p (eqb b.position 0) && (eqb n (next_number b.number) && agree true (not b.chain))
follows b (tells p) n ru =
    agree p (eqb b.position 0) && (eqb n (next_number b.number) && (agree true (not b.chain) && is_whole b.place))
follows b answers n ru = true
follows b paces n ru = eqb n 0

-- with m the maximum RU
abbrev pub fits : ℕ → Books → Header → ℕ → List ℕ → Bool
fits m b h n ru = ru_good m h ru && follows b (sort_of h) n ru

-- the books after a request that brings no bytes, with w the window
abbrev pub passed : ℕ → Books → Books
passed w b = record { number = next_number b.number; position = next_position b.position w; chain = b.chain; place = b.place }

-- the books after a unit
abbrev pub next : ℕ → Books → Sort → List ℕ → Books
next w b (brings d) ru =
    record {
      number = next_number b.number;
      position = next_position b.position w;
      chain = not (is_last d.ends);
      place = place_or b.place (walk b.place ru);
    }
next w b (asks p) ru = passed w b
next w b (tells p) ru = passed w b
next w b answers ru = b
next w b paces ru = b

unfoldable pub stream_step : ℕ → ℕ → Books → List ℕ → Ran Books
stream_step w m b u =
    cond (leb RU_START (length u) && (header_good (header_in u) && fits m b (header_received u) (number_in u) (ru_received u)))
    (ok (next w b (sort_of (header_received u)) (ru_received u)))
    stuck

-- a unit made leads the books on
pub stream_unit : (w m : ℕ) (b : Books) (n : ℕ) (h : Header) (ru : List ℕ) → fits m b h n ru ≡ true
    → stream_step w m b (unit_of n h ru) ≡ ok (next w b (sort_of h) ru)
unfolding stream_step
stream_unit w m b n h ru e =
    rw (
      taken_header n h ru,
      unit_number n h ru,
      unit_header n h ru,
      built_good h,
      unit_ru n h ru,
      le-leb RU_START (length (unit_of n h ru)) (omega (arith, unit_length n h ru)),
      e,
    )

fitting_at : (v x : Books) (a c d : Bool) → cond (a && (c && d)) (ok x) stuck ≡ ok v → (a ≡ true) × (c ≡ true) × (d ≡ true) × (v ≡ x)
fitting_at v x true true true e = (refl, refl, refl, sym (ok_is e))
fitting_at v x true true false e = absurd (stuck≢ok e)
fitting_at v x true false d e = absurd (stuck≢ok e)
fitting_at v x false c d e = absurd (stuck≢ok e)

-- ---- the two ends of the stream

-- what the sending end has made: its window and maximum RU, and the books; the bytes held, and the place after them
pub record Outside : Type 0 where
  pub window : ℕ
  pub max : ℕ
  pub number : ℕ
  pub position : ℕ
  pub chain : Bool
  pub held : List ℕ
  pub given : Position

-- what the receiving end has taken
pub record Inside : Type 0 where
  pub window : ℕ
  pub max : ℕ
  pub books : Books

abbrev pub outside_of : Station → Outside
outside_of s =
    record {
      window = s.end.sending.window.size;
      max = s.end.sending.max;
      number = s.end.sending.number;
      position = s.end.sending.window.position;
      chain = s.end.control.outchain;
      held = bytes_in_send_buffer s;
      given = s.end.sending.given;
    }

abbrev pub inside_of : Station → Inside
inside_of s =
    let r = s.end.receiving in
    record {
      window = r.window.size;
      max = r.max;
      books = record { number = r.number; position = r.window.position; chain = s.end.control.inchain; place = r.taken };
    }

abbrev pub books_out : Outside → Position → Books
books_out o p = record { number = o.number; position = o.position; chain = o.chain; place = p }

-- The line leads what was taken to what was made; `place` is the record place of all bytes sent, from where those held lead to the place given.
pub record Stream (o : Outside) (i : Inside) (line : List (List ℕ)) : Type 0 where
  pub window : o.window ≡ i.window
  pub max : o.max ≡ i.max
  pub place : Position
  pub leads : Leads (stream_step i.window i.max) i.books line (books_out o place)
  pub held : walk place o.held ≡ Ok o.given

-- ---- at the sending end

abbrev pub holding : Outside → List ℕ → Position → Outside
holding o h p =
    record { window = o.window; max = o.max; number = o.number; position = o.position; chain = o.chain; held = h; given = p }

-- more bytes are held
pub stream_keep : {o : Outside} {i : Inside} {line : List (List ℕ)} (new : List ℕ) (p : Position)
    → Stream o i line → walk o.given new ≡ Ok p → Stream (holding o (o.held ++ new) p) i line
stream_keep {o} new p s e =
    record {
      window = s.window;
      max = s.max;
      place = s.place;
      leads = s.leads;
      held = walk_append s.place o.held new ∙ ap (λ (w : Result Position BadLength). then_walk w new) s.held ∙ e;
    }

-- a data unit is whole at a mark
marked : (ends : ChainEnd) (w : Result Position BadLength) (p : Position) → w ≡ Ok p → not (marks ends) || is_whole p ≡ true → records_fit ends w ≡ true
marked ends w p e h = rw e h

-- the sending end after a request
abbrev pub request_out : Outside → Bool → List ℕ → Outside
request_out o chain held =
    record {
      window = o.window;
      max = o.max;
      number = next_number o.number;
      position = next_position o.position o.window;
      chain = chain;
      held = held;
      given = o.given;
    }

-- a data unit goes out: the bytes held are its RU and then the rest
pub stream_data : {o : Outside} {i : Inside} {line : List (List ℕ)} (d : DataHeader) (ru rest : List ℕ)
    → Stream o i line
    → o.held ≡ ru ++ rest
    → ru_good o.max (Data d) ru ≡ true
    → d.pacing ≡ eqb o.position 0
    → is_first d.begins ≡ not o.chain
    → ((x : Position) → walk x rest ≡ Ok o.given → not (marks d.ends) || is_whole x ≡ true)
    → Stream (request_out o (not (is_last d.ends)) rest) i (line ++ (unit_of (next_number o.number) (Data d) ru ∷ []))
stream_data {o} {i} {line} d ru rest s parts good pacing first whole =
    let t : Through s.place ru rest o.given =
    walk_prefix s.place o.given ru rest (rw parts at s.held) in
    let b : Books = books_out o s.place in
    let n = next_number o.number in
    let f : fits i.max b (Data d) n ru ≡ true =
    rw (
      ← s.max,
      good,
      agree_same _ _ pacing,
      eq-eqb n n refl,
      agree_same _ _ first,
      marked d.ends (walk s.place ru) t.middle t.first (whole t.middle t.second),
    ) in
    let e : next i.window b (brings d) ru ≡ books_out (request_out o (not (is_last d.ends)) rest) t.middle = rw (s.window, t.first) in
    record {
      window = s.window;
      max = s.max;
      place = t.middle;
      leads = leads_more s.leads (stream_unit i.window i.max b n (Data d) ru f ∙ ap ok e);
      held = t.second;
    }

-- a bid goes out
pub stream_bid : {o : Outside} {i : Inside} {line : List (List ℕ)} (p : Bool)
    → Stream o i line
    → p ≡ eqb o.position 0
    → o.chain ≡ false
    → Stream (request_out o o.chain o.held) i (line ++ (unit_of (next_number o.number) (Bid p) (fixed_ru (Bid p)) ∷ []))
unfolding ru_good same_bytes
stream_bid {o} {i} {line} p s pacing chain =
    let b : Books = books_out o s.place in
    let n = next_number o.number in
    let f : fits i.max b (Bid p) n (fixed_ru (Bid p)) ≡ true = rw (agree_same _ _ pacing, eq-eqb n n refl, chain) in
    let e : next i.window b (asks p) (fixed_ru (Bid p)) ≡ books_out (request_out o o.chain o.held) s.place = rw s.window in
    record {
      window = s.window;
      max = s.max;
      place = s.place;
      leads = leads_more s.leads (stream_unit i.window i.max b n (Bid p) (fixed_ru (Bid p)) f ∙ ap ok e);
      held = s.held;
    }

-- an error header goes out, with nothing held and the record whole
pub stream_error : {o : Outside} {i : Inside} {line : List (List ℕ)} (p : Bool)
    → Stream o i line
    → p ≡ eqb o.position 0
    → o.chain ≡ false
    → o.held ≡ []
    → is_whole o.given ≡ true
    → Stream (request_out o o.chain []) i (line ++ (unit_of (next_number o.number) (ErrorDescription p) (fixed_ru (ErrorDescription p)) ∷ []))
unfolding ru_good same_bytes then_walk
stream_error {o} {i} {line} p s pacing chain none whole =
    let h = ErrorDescription p in
    let b : Books = books_out o s.place in
    let n = next_number o.number in
    let still : walk s.place [] ≡ Ok o.given = rw none at s.held in
    let place : s.place ≡ o.given = same_position s.place o.given still in
    let f : fits i.max b h n (fixed_ru h) ≡ true = rw (agree_same _ _ pacing, eq-eqb n n refl, chain, place) whole in
    let e : next i.window b (tells p) (fixed_ru h) ≡ books_out (request_out o o.chain []) s.place = rw s.window in
    record {
      window = s.window;
      max = s.max;
      place = s.place;
      leads = leads_more s.leads (stream_unit i.window i.max b n h (fixed_ru h) f ∙ ap ok e);
      held = still;
    }

-- a response goes out, a pacing response under the number 0
abbrev pub may_answer : Sort → ℕ → Bool
may_answer (brings d) n = false
may_answer (asks p) n = false
may_answer (tells p) n = false
may_answer answers n = true
may_answer paces n = eqb n 0

answer_fits : (b : Books) (k : Sort) (w n : ℕ) (ru : List ℕ) → may_answer k n ≡ true
    → (is_asking k ≡ false) × (follows b k n ru ≡ true) × (next w b k ru ≡ b)
answer_fits b (brings d) w n ru e = never e
answer_fits b (asks p) w n ru e = never e
answer_fits b (tells p) w n ru e = never e
answer_fits b answers w n ru e = (refl, refl, refl)
answer_fits b paces w n ru e = (refl, e, refl)

pub stream_response : {o : Outside} {i : Inside} {line : List (List ℕ)} (n : ℕ) (h : Header)
    → Stream o i line → may_answer (sort_of h) n ≡ true → Stream o i (line ++ (unit_of n h (fixed_ru h) ∷ []))
stream_response {o} {i} {line} n h s e =
    let b : Books = books_out o s.place in
    let a = answer_fits b (sort_of h) i.window n (fixed_ru h) e in
    let f : fits i.max b h n (fixed_ru h) ≡ true = rw ((fixed_ru_lem h).2 i.max a.0, a.1) in
    record {
      window = s.window;
      max = s.max;
      place = s.place;
      leads = leads_more s.leads (stream_unit i.window i.max b n h (fixed_ru h) f ∙ ap ok a.2);
      held = s.held;
    }

-- ---- at the receiving end

-- the receiving end after a unit of the sort k
abbrev pub taken : Inside → Sort → List ℕ → Inside
taken i k ru = record { window = i.window; max = i.max; books = next i.window i.books k ru }

pub record Heads (o : Outside) (i : Inside) (u : List ℕ) (line : List (List ℕ)) : Type 0 where
  pub long : leb RU_START (length u) ≡ true
  pub header : header_good (header_in u) ≡ true
  pub fitting : fits i.max i.books (header_received u) (number_in u) (ru_received u) ≡ true
  pub rest : Stream o (taken i (sort_of (header_received u)) (ru_received u)) line

-- the oldest unit fits, and what is left of the line follows it
pub stream_take : {o : Outside} {i : Inside} {u : List ℕ} {line : List (List ℕ)} → Stream o i (u ∷ line) → Heads o i u line
unfolding stream_step
stream_take {o} {i} {u} {line} s =
    let q : Parted (stream_step i.window i.max) i.books u line (books_out o s.place) = parted s.leads in
    let f = fitting_at _ _ _ _ _ q.head in
    record {
      long = f.0;
      header = f.1;
      fitting = f.2;
      rest = record { window = s.window; max = s.max; place = s.place; leads = rw f.3 at q.rest; held = s.held };
    }

-- ---- as opened

pub stream_fresh : (o : Outside) (i : Inside)
    → o.window ≡ i.window → o.max ≡ i.max → i.books ≡ books_out o o.given → o.held ≡ [] → Stream o i []
unfolding then_walk
stream_fresh o i w m b h =
    record {
      window = w;
      max = m;
      place = o.given;
      leads = subst (λ (x : Books). Leads (stream_step i.window i.max) i.books [] x) b leads_nowhere;
      held = ap (walk o.given) h;
    }
