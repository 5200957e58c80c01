-- Every call keeps what holds at its end by itself.
-- Assumes nothing.
use Rattle.joined.proofs.JoinedWords.{ℕ, ◌+◌, ◌*◌, ◌≤◌, ◌<◌, eqb, length, take, drop, take-take, length-take-le, Bool, true, false, List, [], ◌∷◌, ◌≡◌}
use Rattle.joined.proofs.JoinedWords.{refl, sym, ap, ◌∙◌, arith, front, ended, then_walk, walk, place_or, Position, walk_append, walk_prefix}
use Rattle.joined.proofs.JoinedWords.{BadLength, Result, Ok, Err}
use Rattle.joined.proofs.JoinedWords.{Through, Continues, Last, Follows, fixed_ru, bid_ru, RU_START, unit_of, number_in, paced, advanced, answered, credit}
use Rattle.joined.proofs.JoinedWords.{bid_answer, spilled, data_received, read_refused, accepted, request_received, request_made, next_number, rest_bytes}
use Rattle.joined.proofs.JoinedWords.{bid_made, closing, deferred, withdrawn, defer_cases, withdraw_cases, bytes_read, record_rest, copy_count}
use Rattle.joined.proofs.JoinedWords.{header_received, ru_received, rule_named, data_joined, bid_answered}
use Rattle.joined.proofs.JoinedWords.{credit_raised, receive_unit_refusal, data_header, held_bytes, bytes_kept, bytes_spilled, facts, Station, Reply, Verb}
use Rattle.joined.proofs.JoinedWords.{count, is_pacing_response, requests_among, allocate_cases, bid_number, close_cases, confirmed_cases}
use Rattle.joined.proofs.JoinedWords.{pacing_response_cases, read_cases, send_cases, spilled_ru, take_cases, ReadAsked, read_count, control_within}
use Rattle.joined.proofs.JoinedWords.{TakeAsked, allocate_moves, mark_moves, Sort, sort_of, is_asking, is_pacing, answer_sort, Lane, normal, acts, takes}
use Rattle.joined.proofs.JoinedWords.{on_normal, Log, bytes_in_inbox, is_breach, Acted, Took, took, acted}
use borrow.Author.Tests.{leb-true}
use Rattle.logical_record.proofs.RecordEnds.{Inside}
use Rattle.logical_record.proofs.Rests.{rest_some, rest_walks, rest_inside, RestIs}
use Rattle.header.specs.declared.Header.TheVariants.{Bid, ErrorDescription, Confirmation, NegativeConfirmation, PacingResponse}
use Rattle.joined.proofs.JoinedWords.{error_made, error_marked, send_error_cases, request_cases, on_expedited, error_ru, negative_confirmation_ru}
use Rattle.control.specs.declared.WhatReceived.TheVariants as mark
use Rattle.control.proofs.States.{not_holding, in_defer_lem}
use mathlib.Core.Bool.{and-false}
use Rattle.joined.proofs.JoinedWords.{is_send}
use Rattle.end.specs.Receive.{some_held, receive_questions, receive_refusal, mark_read}
use Rattle.receiving.specs.BytesRead.{rest_good}
use Rattle.joined.specs.Histories as H
use Rattle.calls.specs.Calls.{read_reply}
use mathlib.Core.Bool.{true≢false as never}
use Rattle.calls.proofs.Credit.{data_asks, none_made, once, other_made, request_made_lem}
use Rattle.calls.proofs.Refusals.{not_first}
use Rattle.calls.proofs.ControlMoved.{confirmed_moves, denied_moves}
use Rattle.calls.proofs.UnitsByHeader.{pacing_taken}
use Rattle.joined.proofs.CallsOnLanes.{Laned, LanedTake}
use Rattle.pacing.proofs.Windows.{response_raises}
use Rattle.cells.proofs.Fronts.{written_bytes}
use Rattle.calls.proofs.CallBytes.{closed_whole, inbox_room, count_held, count_rest, read_parts, read_copied, moved_left}
use Rattle.joined.proofs.OneEnd.{values_of, Local, local_act, local_refused, local_read, local_took, local_take_refused}

-- ---- calls that the end answers by itself

module _ (s : Station) (xs : Log) (l : Local (values_of s) xs) where
  abbrev After : Verb → Acted Lane Station Reply (List ℕ) → Type 0
  After v m = Local (values_of m.end) (acted v m.answer m.sent ∷ xs)

  here : walk s.end.sending.given [] ≡ Ok s.end.sending.given
  unfolding then_walk
  here = refl

  refuses : (v : Verb) → ((q : ℕ) → H.is_bad_read v q ≡ false) → (q : ℕ) → eqb q 0 ≡ false
      → Local (values_of s) (acted v (read_reply (read_refused q) []) (on_normal []) ∷ xs)
  refuses v b q n = local_refused v q [] n (b q) l

  closes : (f : Follows) (c : Bool) → After (Verb.close f c) (acts s (Verb.close f c))
  unfolding acts request_made advanced error_made
  closes f c =
      let v = Verb.close f c in
      let x = closing s.end f in
      close_cases (Laned (After v)) s f c (refuses v (λ q. refl))
      (λ a n. local_act v (accepted 0) mark.Nothing [] (on_normal []) (values_of s) l here l.whole refl
      (none_made (credit s.end.sending.window)) refl)
      (λ a y k.
      let h = ErrorDescription (paced s.end.sending.window) in
      let n = next_number s.end.sending.number in
      local_act v (accepted 12) mark.Nothing [] (on_normal (unit_of n h error_ru ∷ [])) _ l here
      (λ z. l.whole (rw y (and-false (is_send s.end.control.state)))) refl (request_made_lem s n h error_ru refl a.good k) refl)
      (λ a n k.
      let h = data_header s.end (Last x c) in
      let ru = held_bytes s.end s.send in
      let u = unit_of (next_number s.end.sending.number) h ru in
      local_act v (accepted (RU_START + length ru)) mark.Nothing [] (on_normal (u ∷ [])) _ l here (closed_whole x c s.end.control _ n.clear a.whole) refl
      (request_made_lem s (next_number s.end.sending.number) h ru (data_asks s (Last x c)) a.good k) refl)

  at_place : (g p : Position) (w : Result Position BadLength) → w ≡ Ok p → w ≡ Ok (place_or g w)
  at_place g p w e = rw e

  -- ---- a read

  rest_is_lem : rest_good (record_rest s.end s.inbox) ≡ true
  rest_is_lem =
      let i : RestIs s.end.receiving.read (bytes_in_inbox s) = rest_walks s.end.receiving.read s.end.receiving.taken (bytes_in_inbox s) l.inbox in
      ap rest_good i.is

  -- 8 is never the number
  never_refused : (buffer : List ℕ) (q : ℕ) → q ≡ receive_refusal s.end s.inbox (length buffer) → eqb q 8 ≡ false
  unfolding receive_refusal
  never_refused buffer q e = rw e (not_first (receive_questions s.end s.inbox (length buffer)) 8 refl (rw rest_is_lem))

  bytes_of : (r : Result ℕ BadLength) → rest_good r ≡ true → r ≡ Ok (rest_bytes r)
  bytes_of (Ok n) e = refl
  bytes_of (Err bad) e = absurd (never (sym e))

  -- at least one byte is copied
  some_copied : (buffer : List ℕ) → ReadAsked s buffer → some_held s.end ≡ true → 1 ≤ read_count s buffer
  unfolding copy_count
  some_copied buffer a h =
      let held : 1 ≤ s.end.receiving.held = leb-true 1 s.end.receiving.held h in
      let long : length (bytes_in_inbox s) ≡ s.end.receiving.held = length-take-le s.end.receiving.held s.inbox (inbox_room s a.inbox a.good) in
      let some : 0 < rest_bytes (record_rest s.end s.inbox) =
      rest_some s.end.receiving.read (bytes_in_inbox s) (rest_bytes (record_rest s.end s.inbox)) (facts s.end a.good).receiving.read
      (omega (arith, long, held)) (bytes_of (record_rest s.end s.inbox) a.rest) in
      omega (arith, a.least, held, some)

  -- fewer bytes than it copies do not end the record
  inside : (buffer : List ℕ) → ReadAsked s buffer → (n : ℕ) → 0 < n → n < read_count s buffer
      → ended (walk s.end.receiving.read (take n (front (take (read_count s buffer) s.inbox) buffer))) ≡ false
  inside buffer a n some few =
      let k = read_count s buffer in
      let held = s.end.receiving.held in
      let c = count_held s buffer in
      let r = count_rest s buffer in
      let long : length (bytes_in_inbox s) ≡ held = length-take-le held s.inbox (inbox_room s a.inbox a.good) in
      let i : Inside s.end.receiving.read (take n (bytes_in_inbox s)) =
      rest_inside s.end.receiving.read (bytes_in_inbox s) (rest_bytes (record_rest s.end s.inbox)) n
      (bytes_of (record_rest s.end s.inbox) a.rest) some (omega (arith, few, r)) (omega (arith, few, c, long)) in
      let same : take n (front (take k s.inbox) buffer) ≡ take n (bytes_in_inbox s) =
      sym (take-take n k (front (take k s.inbox) buffer) (omega (arith, few)))
      ∙ ap (take n) (read_copied s buffer a)
      ∙ take-take n k s.inbox (omega (arith, few))
      ∙ sym (take-take n held s.inbox (omega (arith, few, c))) in
      ap (λ (bs : List ℕ). ended (walk s.end.receiving.read bs)) same ∙ ap ended i.reached ∙ i.inside

  reads : (buffer : List ℕ) → After (Verb.receive buffer) (acts s (Verb.receive buffer))
  unfolding acts bytes_read mark_read
  reads buffer =
      read_cases (Laned (After (Verb.receive buffer))) s buffer (λ q w n. local_refused (Verb.receive buffer) q buffer n (never_refused buffer q w) l)
      (λ a h.
      let k = read_count s buffer in
      let t : Through s.end.receiving.read (take k s.inbox) (drop k (bytes_in_inbox s)) s.end.receiving.taken =
      walk_prefix s.end.receiving.read s.end.receiving.taken (take k s.inbox) (drop k (bytes_in_inbox s))
      (rw (← read_parts s buffer) l.inbox) in
      local_read buffer k (take k s.inbox) (drop k (bytes_in_inbox s)) (front (take k s.inbox) buffer) _ l (some_copied buffer a h)
      (read_copied s buffer a) (read_parts s buffer)
      (at_place s.end.receiving.read t.middle (walk s.end.receiving.read (take k s.inbox)) t.first)
      (inside buffer a) (moved_left s k (inbox_room s a.inbox a.good)) refl refl refl refl refl)
      (λ a h m.
      local_act (Verb.receive buffer) (accepted 0) s.end.control.mark buffer (on_normal []) _ l here
      (λ n. l.whole ((mark_moves s.end.control (control_within s.end a.good) m).send n))
      refl (none_made (credit s.end.sending.window)) refl)

  pub local_acts : (v : Verb) → After v (acts s v)
  unfolding acts bytes_kept bytes_spilled bid_made request_made advanced spilled answered deferred withdrawn
  local_acts Verb.allocate =
      allocate_cases (Laned (After Verb.allocate)) s (refuses Verb.allocate (λ q. refl))
      (λ g a w.
      local_act Verb.allocate (accepted 0) mark.Nothing [] (on_normal []) _ l here
      (λ n. l.whole ((allocate_moves s.end.control (control_within s.end g) a).send n))
      refl (none_made (credit s.end.sending.window)) refl)
      (λ g a w k.
      local_act Verb.allocate (accepted 10) mark.Nothing [] (on_normal (unit_of (bid_number s.end) (Bid (paced s.end.sending.window)) bid_ru ∷ [])) _ l here
      (λ n. l.whole ((allocate_moves s.end.control (control_within s.end g) a).send n)) refl
      (request_made_lem s (bid_number s.end) (Bid (paced s.end.sending.window)) bid_ru refl g k) refl)
  local_acts Verb.confirmed =
      confirmed_cases (Laned (After Verb.confirmed)) s (refuses Verb.confirmed (λ q. refl))
      (λ g a.
      local_act Verb.confirmed (accepted 5) mark.Nothing [] (on_normal (unit_of s.end.owed Confirmation [] ∷ [])) _ l here
      (λ n. l.whole ((confirmed_moves s.end.control (control_within s.end g) a).send n)) refl
      (other_made s.end.owed (credit s.end.sending.window) Confirmation [] refl) refl)
  local_acts Verb.send_error =
      send_error_cases (Laned (After Verb.send_error)) s (refuses Verb.send_error (λ q. refl))
      (λ g a.
      local_act Verb.send_error (accepted 9) mark.Nothing [] (on_normal (unit_of s.end.owed NegativeConfirmation negative_confirmation_ru ∷ [])) _ l here
      (λ n. l.whole ((denied_moves s.end.control (control_within s.end g) a).send n)) refl
      (other_made s.end.owed (credit s.end.sending.window) NegativeConfirmation negative_confirmation_ru refl) refl)
  local_acts Verb.request_to_send =
      request_cases (Laned (After Verb.request_to_send)) s (refuses Verb.request_to_send (λ q. refl))
      (λ a.
      local_act Verb.request_to_send (accepted 10) mark.Nothing [] (on_expedited _) _ l here l.whole refl
      (none_made (credit s.end.sending.window)) refl)
  local_acts Verb.send_pacing_response =
      pacing_response_cases (Laned (After Verb.send_pacing_response)) s (refuses Verb.send_pacing_response (λ q. refl))
      (λ g a.
      local_act Verb.send_pacing_response (accepted 5) mark.Nothing [] (on_normal (unit_of 0 PacingResponse [] ∷ [])) _ l here l.whole refl
      (other_made 0 (credit s.end.sending.window) PacingResponse [] refl) refl)
  local_acts (Verb.send_data bytes) =
      let g = s.end.sending.given in
      send_cases (Laned (After (Verb.send_data bytes))) s bytes (refuses (Verb.send_data bytes) (λ q. refl))
      (λ a k.
      local_act (Verb.send_data bytes) (accepted 0) mark.Nothing [] (on_normal []) _ l (at_place g a.place (walk g bytes) a.walked)
      (λ n. absurd (never (sym a.sending ∙ n))) refl (none_made (credit s.end.sending.window)) refl)
      (λ a k h.
      let hd = data_header s.end Continues in
      local_act (Verb.send_data bytes) (accepted (RU_START + length (spilled_ru s bytes))) mark.Nothing []
      (on_normal (unit_of (next_number s.end.sending.number) hd (spilled_ru s bytes) ∷ [])) _ l
      (at_place g a.place (walk g bytes) a.walked) (λ n. absurd (never (sym a.sending ∙ n))) refl
      (request_made_lem s (next_number s.end.sending.number) hd (spilled_ru s bytes) (data_asks s Continues) a.good h) refl)
  local_acts (Verb.close f c) = closes f c
  local_acts (Verb.defer d) =
      defer_cases (Laned (After (Verb.defer d))) s d (refuses (Verb.defer d) (λ q. refl))
      (λ a.
      local_act (Verb.defer d) (accepted 0) mark.Nothing [] (on_normal []) _ l here (λ n. a.whole) refl (none_made (credit s.end.sending.window)) refl)
  local_acts Verb.withdraw =
      withdraw_cases (Laned (After Verb.withdraw)) s (refuses Verb.withdraw (λ q. refl))
      (λ g a.
      local_act Verb.withdraw (accepted 0) mark.Nothing [] (on_normal []) _ l here (λ n. l.whole (rw (in_defer_lem s.end.control.state a).not_send)) refl
      (none_made (credit s.end.sending.window)) refl)
  local_acts (Verb.receive buffer) = reads buffer

-- ---- takes

module _ (s : Station) (xs : Log) (u : List ℕ) (l : Local (values_of s) xs) where
  abbrev Left : Took Lane Station Reply (List ℕ) → Type 0
  Left t = Local (values_of t.end) (took normal u t.answer t.sent ∷ xs)

  counts_pacing : (k : Sort) → sort_of (header_received u) ≡ k → TakeAsked s u → is_pacing_response u ≡ is_pacing k
  counts_pacing k e a = pacing_taken u a.header ∙ ap is_pacing e

  no_rise : (c z : ℕ) → requests_among [] + c ≡ c + z * count false
  no_rise c z = none_made c ∙ (let y : c ≡ c + z * 0 = omega arith in y)

  pub local_takes : ((q : ℕ) → q ≡ receive_unit_refusal s.end u (length s.inbox) (length s.unit) → is_breach q ≡ false)
      → Left (takes normal s u)
  unfolding takes data_joined error_marked bid_answered credit_raised request_received data_received answered
  local_takes nb =
      let h = bid_answer s.end.control in
      let ru = ru_received u in
      let r = s.end.receiving in
      let w = s.end.sending.window in
      let same = no_rise (credit w) w.size in
      take_cases (LanedTake Left) s u (λ q x n. local_take_refused u (rule_named u) q n (nb q x) l)
      (λ d a e k.
      local_took u (accepted 0) (on_normal []) false _ l (counts_pacing _ e a) refl refl
      (λ m. l.whole (rw (not_holding s.end.control.state k.away))) refl
      (ap (walk r.read) (written_bytes r.held ru s.inbox (inbox_room s a.inbox a.good))
      ∙ walk_append r.read (bytes_in_inbox s) ru ∙ ap (λ (x : Result Position BadLength). then_walk x ru) l.inbox ∙ k.walked) refl same)
      (λ p a e k m.
      local_took u (accepted (RU_START + length (fixed_ru h))) (on_normal (unit_of (number_in u) h (fixed_ru h) ∷ [])) false _ l
      (counts_pacing _ e a) refl refl
      (λ n. l.whole (m.send n)) refl l.inbox refl
      (other_made (number_in u) (credit w) h (fixed_ru h) (ap is_asking (answer_sort s.end.control))
      ∙ (let y : credit w ≡ credit w + w.size * 0 = omega arith in y)))
      (λ p a e k m.
      local_took u (accepted 0) (on_normal []) false _ l (counts_pacing _ e a) refl refl (λ n. l.whole (m.send n)) refl l.inbox refl same)
      (λ c a e m.
      local_took u (accepted 0) (on_normal []) false _ l (counts_pacing _ e a) refl refl (λ n. l.whole (m.send n)) refl l.inbox refl same)
      (λ a e k.
      local_took u (accepted 0) (on_normal []) true _ l (counts_pacing _ e a) refl refl l.whole refl l.inbox refl
      (none_made (credit (answered w)) ∙ response_raises w k ∙ once (credit w) w.size))
