-- Every call keeps the streams in step, as the sending end and as the receiving end.
-- Assumes nothing.
use Rattle.joined.proofs.JoinedWords.{ℕ, ◌+◌, ◌-◌, length, take, drop, length-drop, length-take-le, Bool, true, false, not, cond, ◌||◌, List, [], ◌∷◌}
use Rattle.joined.proofs.JoinedWords.{◌++◌, append-nil, ◌≡◌, refl, sym, ap, subst, arith, left, front, written, is_whole, then_walk, walk, place_or}
use Rattle.joined.proofs.JoinedWords.{Position, same_position, Continues, Last, DataHeader, Follows, marks, unit_of, number_in, paced, advanced, answered}
use Rattle.joined.proofs.JoinedWords.{is_reset, bid_answer, begin_of, closed, spilled, confirmation_made, data_received, request_received, request_made}
use Rattle.joined.proofs.JoinedWords.{next_number, bid_made, closing, deferred, withdrawn, defer_cases, withdraw_cases, bytes_read}
use Rattle.joined.proofs.JoinedWords.{header_received, ru_received, data_joined, bid_answered, credit_raised}
use Rattle.joined.proofs.JoinedWords.{data_header, held_bytes, bytes_kept, bytes_spilled, gone, facts, Station, Reply, Verb, allocate_cases, close_cases}
use Rattle.joined.proofs.JoinedWords.{confirmed_cases, pacing_response_cases, read_cases, send_cases, spilled_ru, take_cases, SendAsked, spilled_unit}
use Rattle.joined.proofs.JoinedWords.{control_within, allocate_moves, mark_moves, Sort, sort_of, answer_sort, Lane, normal, acts, takes, Acted, Took}
use Rattle.cells.proofs.Fronts.{front_of, written_bytes}
use Rattle.header.specs.declared.Header.TheVariants.{Confirmation, ErrorDescription, NegativeConfirmation, PacingResponse}
use Rattle.sending.specs.Sending.{keeps}
use Rattle.calls.proofs.CallCases.{CloseAsked, BytesGo}
use Rattle.unit.proofs.DataRu.{full_good, last_good}
use Rattle.transitions.proofs.Chains.{begins_first, closed_in}
use Rattle.calls.proofs.CallBytes.{spilled_parts, spilled_length}
use Rattle.control.proofs.States.{reset_not_send}
use Rattle.joined.proofs.CallsOnLanes.{Laned, LanedTake}
use Rattle.joined.proofs.RequestStream.{Outside, Inside, outside_of, inside_of, Stream, holding, stream_keep, stream_data, stream_bid, stream_response}
use Rattle.joined.proofs.RequestStream.{taken, stream_take, stream_error}
use Rattle.control.proofs.Within.{closed_outside_send}
use Rattle.calls.proofs.RecordStaysGood.{none_held}
use Rattle.calls.proofs.ErrorLaws.{closed_chain}
use mathlib.Core.Bool.{and-false}
use Rattle.joined.proofs.JoinedWords.{is_send}
use Rattle.joined.proofs.JoinedWords.{confirmation_denied, error_made, error_marked, send_error_cases, request_cases, sent_end, error_ru, may_send, record_good}

-- ---- one field at a time

abbrev chained : Outside → Bool → Outside
chained o b =
    record { window = o.window; max = o.max; number = o.number; position = o.position; chain = b; held = o.held; given = o.given }

abbrev linked : Inside → Bool → Inside
linked i b =
    let books = i.books in
    record { window = i.window; max = i.max; books = record { number = books.number; position = books.position; chain = b; place = books.place } }

module _ {o : Outside} {i : Inside} {line : List (List ℕ)} where
  same_chain : (b : Bool) → b ≡ o.chain → Stream o i line → Stream (chained o b) i line
  same_chain b e s = rw e s

  same_link : (b : Bool) → b ≡ i.books.chain → Stream o i line → Stream o (linked i b) line
  same_link b e s = rw e s

  same_held : (h : List ℕ) (p : Position) → h ≡ o.held → p ≡ o.given → Stream o i line → Stream (holding o h p) i line
  same_held h p e f s = rw (e, f) s

-- ---- as the sending end

module _ (s : Station) (i : Inside) (line : List (List ℕ)) (st : Stream (outside_of s) i line) where
  abbrev After : Acted Lane Station Reply (List ℕ) → Type 0
  After m = Stream (outside_of m.end) i (line ++ m.sent normal)

  spill : (bytes : List ℕ) → SendAsked s bytes → keeps s.end.sending (length bytes) ≡ false
      → Stream
      (outside_of
      (record { end = (bytes_spilled s.end bytes s.send).end; send = front (drop (gone s.end) bytes) s.send; unit = s.unit; inbox = s.inbox }))
      i (line ++ (spilled_unit s bytes ∷ []))
  unfolding bytes_spilled request_made advanced spilled data_header
  spill bytes a k =
      let e = s.end in
      let kept = stream_keep bytes a.place st a.walked in
      let rest = drop (gone e) bytes in
      let d : DataHeader = record { begins = begin_of e.control; ends = Continues; pacing = paced e.sending.window } in
      let sent =
      stream_data d (spilled_ru s bytes) rest kept (spilled_parts s bytes)
      (full_good e.sending.max d (spilled_ru s bytes) (spilled_length s bytes a k) (facts e a.good).sending.max.least) refl
      (begins_first e.control) (λ x w. refl) in
      same_held (take (length bytes - gone e) (front rest s.send)) (place_or e.sending.given (walk e.sending.given bytes))
      (front_of (length bytes - gone e) rest s.send (sym (length-drop (gone e) bytes))) (ap (place_or e.sending.given) a.walked) sent

  last : (f : Follows) (c : Bool) → CloseAsked s f c → BytesGo s f c
      → Stream (outside_of (record { end = sent_end s.end (closed f c s.end.control); send = s.send; unit = s.unit; inbox = s.inbox }))
      i (line ++ (unit_of (next_number s.end.sending.number) (data_header s.end (Last f c)) (held_bytes s.end s.send) ∷ []))
  unfolding request_made advanced closed data_header then_walk
  last f c a n =
      let e = s.end in
      let b = a.buffer in
      let h = (facts e a.good).sending.held in
      let ru = held_bytes e s.send in
      let d : DataHeader = record { begins = begin_of e.control; ends = Last f c; pacing = paced e.sending.window } in
      stream_data d ru [] st (sym (append-nil ru))
      (last_good e.sending.max e.sending.held d ru (length-take-le e.sending.held s.send (omega arith)) h n.some) refl (begins_first e.control)
      (λ x w. subst (λ (p : Position). not (marks (Last f c)) || is_whole p ≡ true) (sym (same_position x e.sending.given w)) a.whole)

  -- outside Send, and while an error is due, what was given is whole
  abbrev GivenWhole : Type 0
  GivenWhole = may_send s.end.control ≡ false → is_whole s.end.sending.given ≡ true

  erred : GivenWhole → record_good s.end ≡ true → s.end.control.error ≡ true
      → Stream (outside_of (record { end = sent_end s.end (error_made s.end.control); send = s.send; unit = s.unit; inbox = s.inbox }))
      i (line ++ (unit_of (next_number s.end.sending.number) (ErrorDescription (paced s.end.sending.window)) error_ru ∷ []))
  unfolding request_made advanced error_made
  erred w g y =
      let e = s.end in
      let c = e.control in
      stream_error (paced e.sending.window) st refl (closed_chain s y g) (ap (λ (n : ℕ). take n s.send) (none_held s g y))
      (w (rw y (and-false (is_send c.state))))

  pub stream_acts : GivenWhole → (v : Verb) → After (acts s v)
  unfolding acts bytes_kept bytes_read bid_made request_made advanced confirmation_made confirmation_denied deferred withdrawn
  stream_acts w Verb.allocate =
      let c = s.end.control in
      allocate_cases (Laned After) s (λ q n. rw append-nil st)
      (λ g a x. rw append-nil (same_chain _ (allocate_moves c (control_within s.end g) a).out st))
      (λ g a x k.
      let shut = closed_outside_send c (facts s.end g).control (reset_not_send c.state (left (is_reset c.state) _ a)) in
      same_chain _ (allocate_moves c (control_within s.end g) a).out (stream_bid (paced s.end.sending.window) st refl shut))
  stream_acts w Verb.confirmed = confirmed_cases (Laned After) s (λ q n. rw append-nil st) (λ g a. stream_response s.end.owed Confirmation st refl)
  stream_acts w Verb.send_error =
      send_error_cases (Laned After) s (λ q n. rw append-nil st) (λ g a. stream_response s.end.owed NegativeConfirmation st refl)
  stream_acts w Verb.request_to_send = request_cases (Laned After) s (λ q n. rw append-nil st) (λ a. rw append-nil st)
  stream_acts w Verb.send_pacing_response = pacing_response_cases (Laned After) s (λ q n. rw append-nil st) (λ g a. stream_response 0 PacingResponse st refl)
  stream_acts w (Verb.send_data bytes) =
      let o = s.end.sending in
      send_cases (Laned After) s bytes (λ q n. rw append-nil st)
      (λ a k.
      let h = (facts s.end a.good).sending.held in
      let b = a.buffer in
      rw append-nil
      (same_held (take (o.held + length bytes) (written o.held bytes s.send)) (place_or o.given (walk o.given bytes))
      (written_bytes o.held bytes s.send (omega arith)) (ap (place_or o.given) a.walked) (stream_keep bytes a.place st a.walked)))
      (λ a k h. spill bytes a k)
  stream_acts w (Verb.close f c) =
      close_cases (Laned After) s f c (λ q n. rw append-nil st) (λ a n. rw append-nil st) (λ a y k. erred w a.good y)
      (λ a n k. last (closing s.end f) c a n)
  stream_acts w (Verb.defer d) = defer_cases (Laned After) s d (λ q n. rw append-nil st) (λ a. rw append-nil st)
  stream_acts w Verb.withdraw = withdraw_cases (Laned After) s (λ q n. rw append-nil st) (λ g a. rw append-nil st)
  stream_acts w (Verb.receive buffer) =
      read_cases (Laned After) s buffer (λ q w n. rw append-nil st) (λ a h. rw append-nil st)
      (λ a h m. rw append-nil (same_chain _ (mark_moves s.end.control (control_within s.end a.good) m).out st))

  -- a take at this end: only a bid has it make a unit, which is a response
  abbrev Left : Took Lane Station Reply (List ℕ) → Type 0
  Left t = Stream (outside_of t.end) i (line ++ t.sent normal)

  pub stream_takes : (u : List ℕ) → Left (takes normal s u)
  unfolding takes data_joined error_marked bid_answered credit_raised data_received answered
  stream_takes u =
      take_cases (LanedTake Left) s u (λ q w n. rw append-nil st) (λ d a e k. rw append-nil st)
      (λ p a e k m. same_chain _ m.out (stream_response (number_in u) (bid_answer s.end.control) st (rw (answer_sort s.end.control))))
      (λ p a e k m. rw append-nil (same_chain _ m.out st))
      (λ c a e m. rw append-nil (same_chain _ m.out st)) (λ a e k. rw append-nil st)

-- ---- as the receiving end

module _ (s : Station) (o : Outside) (back : List (List ℕ)) where
  abbrev AfterIn : Acted Lane Station Reply (List ℕ) → Type 0
  AfterIn m = Stream o (inside_of m.end) back

  pub stream_in_acts : Stream o (inside_of s) back → (v : Verb) → AfterIn (acts s v)
  unfolding acts bytes_kept bytes_spilled bytes_read bid_made request_made spilled confirmation_made confirmation_denied error_made answered deferred withdrawn
  stream_in_acts st Verb.allocate =
      let c = s.end.control in
      allocate_cases (Laned AfterIn) s (λ q n. st) (λ g a w. same_link _ (allocate_moves c (control_within s.end g) a).into st)
      (λ g a w k. same_link _ (allocate_moves c (control_within s.end g) a).into st)
  stream_in_acts st Verb.confirmed = confirmed_cases (Laned AfterIn) s (λ q n. st) (λ g a. st)
  stream_in_acts st Verb.request_to_send = request_cases (Laned AfterIn) s (λ q n. st) (λ a. st)
  stream_in_acts st Verb.send_error = send_error_cases (Laned AfterIn) s (λ q n. st) (λ g a. st)
  stream_in_acts st Verb.send_pacing_response = pacing_response_cases (Laned AfterIn) s (λ q n. st) (λ g a. st)
  stream_in_acts st (Verb.send_data bytes) = send_cases (Laned AfterIn) s bytes (λ q n. st) (λ a k. st) (λ a k h. st)
  stream_in_acts st (Verb.close f c) =
      close_cases (Laned AfterIn) s f c (λ q n. st) (λ a n. st) (λ a y k. st) (λ a n k. same_link _ (closed_in (closing s.end f) c s.end.control) st)
  stream_in_acts st (Verb.defer d) = defer_cases (Laned AfterIn) s d (λ q n. st) (λ a. st)
  stream_in_acts st Verb.withdraw = withdraw_cases (Laned AfterIn) s (λ q n. st) (λ g a. st)
  stream_in_acts st (Verb.receive buffer) =
      read_cases (Laned AfterIn) s buffer (λ q w n. st) (λ a h. st)
      (λ a h m. same_link _ (mark_moves s.end.control (control_within s.end a.good) m).into st)

  module _ (u : List ℕ) (st : Stream o (inside_of s) (u ∷ back)) where
    abbrev LeftIn : Took Lane Station Reply (List ℕ) → Type 0
    LeftIn t = Stream o (inside_of t.end) (cond t.removed back (u ∷ back))

    -- the end is where the unit leads
    led : (k : Sort) → sort_of (header_received u) ≡ k → Stream o (taken (inside_of s) k (ru_received u)) back
    led k e = rw e at (stream_take st).rest

    pub stream_in_takes : LeftIn (takes normal s u)
    unfolding takes data_joined error_marked bid_answered credit_raised request_received advanced data_received
    stream_in_takes =
        take_cases (LanedTake LeftIn) s u (λ q w n. rw n st) (λ d a e k. led _ e) (λ p a e k m. same_link _ m.into (led _ e))
        (λ p a e k m. same_link _ m.into (led _ e))
        (λ c a e m. same_link _ m.into (led _ e)) (λ a e k. led _ e)
