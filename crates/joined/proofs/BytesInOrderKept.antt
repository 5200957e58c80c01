-- Every call conserves the bytes in order, as the sending end and as the receiving end.
-- Assumes nothing.
use Rattle.joined.proofs.JoinedWords.{ℕ, ◌-◌, eqb, length, take, drop, length-drop, Bool, false, cond, List, [], ◌∷◌, ◌++◌, append-nil, ◌≡◌, refl, sym}
use Rattle.joined.proofs.JoinedWords.{ap, arith, front, Continues, Last, DataHeader, Follows, Header, fixed_ru, bid_ru, unit_of, number_in, paced, bid_answer}
use Rattle.joined.proofs.JoinedWords.{begin_of, read_refused, request_received, request_made, next_number, bid_made, closing, defer_cases}
use Rattle.joined.proofs.JoinedWords.{withdraw_cases, bytes_read, header_received}
use Rattle.joined.proofs.JoinedWords.{ru_received, data_joined, bid_answered, credit_raised, data_header, held_bytes, bytes_kept, bytes_spilled, gone, facts}
use Rattle.joined.proofs.JoinedWords.{Station, Reply, Verb, allocate_cases, bid_number, close_cases, confirmed_cases, pacing_response_cases, read_cases}
use Rattle.joined.proofs.JoinedWords.{send_cases, spilled_ru, take_cases, ReadAsked, SendAsked, read_count, spilled_unit, Sort, sort_of, answer_sort, data_of}
use Rattle.joined.proofs.JoinedWords.{Lane, normal, acts, takes, on_normal, bytes_in_send_buffer, Log, bytes_accepted, bytes_in_inbox, Acted, Took, took, acted}
use Rattle.header.specs.declared.Header.TheVariants.{Bid, ErrorDescription, Confirmation, NegativeConfirmation, PacingResponse}
use Rattle.joined.proofs.JoinedWords.{error_marked, send_error_cases, request_cases, error_ru, negative_confirmation_ru}
use Rattle.calls.proofs.RecordStaysGood.{none_held}
use Rattle.end.specs.Receive.{inbox_moved}
use Rattle.end.specs.Receive as R
use Rattle.joined.specs.Histories as H
use Rattle.cells.proofs.Fronts.{front_of, written_bytes}
use Rattle.calls.proofs.CallBytes.{spilled_parts, inbox_room, read_parts, read_copied, moved_left}
use Rattle.joined.proofs.CallsOnLanes.{Laned, LanedTake}
use Rattle.calls.specs.Calls.{read_reply}
use Rattle.joined.proofs.OneEnd.{refused_accepts}
use Rattle.joined.proofs.BytesInOrder.{Carried, carried_kept, carried_sent, carried_other, carried_read, carried_taken}

-- ---- as the sending end

module _ (s : Station) (xs : Log) (line : List (List ℕ)) (read inbox : List ℕ) (c : Carried (bytes_accepted xs) (bytes_in_send_buffer s) line read inbox) where
  abbrev After : Verb → Acted Lane Station Reply (List ℕ) → Type 0
  After v m = Carried (bytes_accepted (acted v m.answer m.sent ∷ xs)) (bytes_in_send_buffer m.end) (line ++ m.sent normal) read inbox

  -- nothing was accepted, and no unit was made
  quiet : {held : List ℕ} → Carried (bytes_accepted xs) held line read inbox → Carried (bytes_accepted xs ++ []) held (line ++ []) read inbox
  quiet d = rw (append-nil (bytes_accepted xs), append-nil line) d

  refuses : (v : Verb) (q : ℕ) (buffer : List ℕ) → eqb q 0 ≡ false
      → Carried (bytes_accepted (acted v (read_reply (read_refused q) buffer) (on_normal []) ∷ xs)) (bytes_in_send_buffer s) (line ++ []) read inbox
  refuses v q buffer n = rw (refused_accepts v q buffer (on_normal []) xs n, append-nil line) c

  -- a unit with no bytes goes out
  other : (n : ℕ) (h : Header) (ru : List ℕ) → data_of (sort_of h) ru ≡ []
      → Carried (bytes_accepted xs ++ []) (bytes_in_send_buffer s) (line ++ (unit_of n h ru ∷ [])) read inbox
  other n h ru z = rw (append-nil (bytes_accepted xs)) (carried_other n h ru z c)

  last : (f : Follows) (b : Bool)
      → Carried (bytes_accepted xs) []
      (line ++ (unit_of (next_number s.end.sending.number) (data_header s.end (Last f b)) (held_bytes s.end s.send) ∷ [])) read inbox
  unfolding data_header
  last f b =
      let d : DataHeader = record { begins = begin_of s.end.control; ends = Last f b; pacing = paced s.end.sending.window } in
      let ru = held_bytes s.end s.send in
      carried_sent {line = line} (next_number s.end.sending.number) d ru [] (rw (append-nil ru) c)

  spill : (bytes : List ℕ) → SendAsked s bytes
      → Carried (bytes_accepted xs ++ bytes) (take (length bytes - gone s.end) (front (drop (gone s.end) bytes) s.send))
      (line ++ (spilled_unit s bytes ∷ [])) read inbox
  unfolding data_header
  spill bytes a =
      let e = s.end in
      let rest = drop (gone e) bytes in
      let d : DataHeader = record { begins = begin_of e.control; ends = Continues; pacing = paced e.sending.window } in
      rw (front_of (length bytes - gone e) rest s.send (sym (length-drop (gone e) bytes)))
      (carried_sent (next_number e.sending.number) d (spilled_ru s bytes) rest (rw (spilled_parts s bytes) at (carried_kept bytes c)))

  pub bytes_acts : (v : Verb) → After v (acts s v)
  unfolding acts bytes_accepted bytes_kept bytes_spilled bytes_read bid_made request_made
  bytes_acts Verb.allocate =
      allocate_cases (Laned (After Verb.allocate)) s (λ q n. refuses Verb.allocate q [] n) (λ g a w. quiet c)
      (λ g a w k. other (bid_number s.end) (Bid (paced s.end.sending.window)) bid_ru refl)
  bytes_acts Verb.confirmed =
      confirmed_cases (Laned (After Verb.confirmed)) s (λ q n. refuses Verb.confirmed q [] n) (λ g a. other s.end.owed Confirmation [] refl)
  bytes_acts Verb.send_error =
      send_error_cases (Laned (After Verb.send_error)) s (λ q n. refuses Verb.send_error q [] n)
      (λ g a. other s.end.owed NegativeConfirmation negative_confirmation_ru refl)
  bytes_acts Verb.request_to_send =
      request_cases (Laned (After Verb.request_to_send)) s (λ q n. refuses Verb.request_to_send q [] n) (λ a. quiet c)
  bytes_acts Verb.send_pacing_response =
      pacing_response_cases (Laned (After Verb.send_pacing_response)) s (λ q n. refuses Verb.send_pacing_response q [] n) (λ g a. other 0 PacingResponse [] refl)
  bytes_acts (Verb.send_data bytes) =
      let o = s.end.sending in
      send_cases (Laned (After (Verb.send_data bytes))) s bytes (λ q n. refuses (Verb.send_data bytes) q [] n)
      (λ a k.
      let h = (facts s.end a.good).sending.held in
      let b = a.buffer in
      rw (append-nil line, written_bytes o.held bytes s.send (omega arith)) (carried_kept bytes c))
      (λ a k h. spill bytes a)
  bytes_acts (Verb.close f b) =
      close_cases (Laned (After (Verb.close f b))) s f b (λ q n. refuses (Verb.close f b) q [] n) (λ a n. quiet c)
      (λ a y k.
      rw (none_held s a.good y) at (other (next_number s.end.sending.number) (ErrorDescription (paced s.end.sending.window)) error_ru refl))
      (λ a n k. rw (append-nil (bytes_accepted xs)) (last (closing s.end f) b))
  bytes_acts (Verb.defer d) = defer_cases (Laned (After (Verb.defer d))) s d (λ q n. refuses (Verb.defer d) q [] n) (λ a. quiet c)
  bytes_acts Verb.withdraw = withdraw_cases (Laned (After Verb.withdraw)) s (λ q n. refuses Verb.withdraw q [] n) (λ g a. quiet c)
  bytes_acts (Verb.receive buffer) =
      read_cases (Laned (After (Verb.receive buffer))) s buffer (λ q w n. refuses (Verb.receive buffer) q buffer n) (λ a h. quiet c) (λ a h m. quiet c)

  abbrev Left : List ℕ → Took Lane Station Reply (List ℕ) → Type 0
  Left u t = Carried (bytes_accepted (took normal u t.answer t.sent ∷ xs)) (bytes_in_send_buffer t.end) (line ++ t.sent normal) read inbox

  pub bytes_takes : (u : List ℕ) → Left u (takes normal s u)
  unfolding takes bytes_accepted data_joined error_marked bid_answered credit_raised
  bytes_takes u =
      let h = bid_answer s.end.control in
      take_cases (LanedTake (Left u)) s u (λ q w n. rw (append-nil line) c) (λ d a e k. rw (append-nil line) c)
      (λ p a e k m. carried_other (number_in u) h (fixed_ru h) (ap (λ (x : Sort). data_of x (fixed_ru h)) (answer_sort s.end.control)) c)
      (λ p a e k m. rw (append-nil line) c) (λ x a e m. rw (append-nil line) c) (λ a e k. rw (append-nil line) c)

-- ---- as the receiving end

module _ (s : Station) (xs : Log) (acc held : List ℕ) (back : List (List ℕ)) where
  module _ (c : Carried acc held back (H.bytes_read xs) (bytes_in_inbox s)) where
    abbrev AfterIn : Verb → Acted Lane Station Reply (List ℕ) → Type 0
    AfterIn v m = Carried acc held back (H.bytes_read (acted v m.answer m.sent ∷ xs)) (bytes_in_inbox m.end)

    -- nothing was read
    quiet_in : Carried acc held back (H.bytes_read xs ++ []) (bytes_in_inbox s)
    quiet_in = rw (append-nil (H.bytes_read xs)) c

    read_in : (buffer : List ℕ) → ReadAsked s buffer
        → Carried acc held back (H.bytes_read xs ++ take (read_count s buffer) (front (take (read_count s buffer) s.inbox) buffer))
        (take (s.end.receiving.held - read_count s buffer) (inbox_moved s.end (read_count s buffer) s.inbox))
    read_in buffer a =
        let k = read_count s buffer in
        rw (read_copied s buffer a, moved_left s k (inbox_room s a.inbox a.good))
        (carried_read (take k s.inbox) (drop k (bytes_in_inbox s)) (read_parts s buffer) c)

    pub bytes_in_acts : (v : Verb) → AfterIn v (acts s v)
    unfolding acts H.bytes_read bytes_kept bytes_spilled bytes_read bid_made R.mark_read
    bytes_in_acts Verb.allocate = allocate_cases (Laned (AfterIn Verb.allocate)) s (λ q n. quiet_in) (λ g a w. quiet_in) (λ g a w k. quiet_in)
    bytes_in_acts Verb.confirmed = confirmed_cases (Laned (AfterIn Verb.confirmed)) s (λ q n. quiet_in) (λ g a. quiet_in)
    bytes_in_acts Verb.send_error = send_error_cases (Laned (AfterIn Verb.send_error)) s (λ q n. quiet_in) (λ g a. quiet_in)
    bytes_in_acts Verb.request_to_send = request_cases (Laned (AfterIn Verb.request_to_send)) s (λ q n. quiet_in) (λ a. quiet_in)
    bytes_in_acts Verb.send_pacing_response = pacing_response_cases (Laned (AfterIn Verb.send_pacing_response)) s (λ q n. quiet_in) (λ g a. quiet_in)
    bytes_in_acts (Verb.send_data bytes) = send_cases (Laned (AfterIn (Verb.send_data bytes))) s bytes (λ q n. quiet_in) (λ a k. quiet_in) (λ a k h. quiet_in)
    bytes_in_acts (Verb.close f b) =
        close_cases (Laned (AfterIn (Verb.close f b))) s f b (λ q n. quiet_in) (λ a n. quiet_in) (λ a y k. quiet_in) (λ a n k. quiet_in)
    bytes_in_acts (Verb.defer d) = defer_cases (Laned (AfterIn (Verb.defer d))) s d (λ q n. quiet_in) (λ a. quiet_in)
    bytes_in_acts Verb.withdraw = withdraw_cases (Laned (AfterIn Verb.withdraw)) s (λ q n. quiet_in) (λ g a. quiet_in)
    bytes_in_acts (Verb.receive buffer) =
        read_cases (Laned (AfterIn (Verb.receive buffer))) s buffer (λ q w n. quiet_in) (λ a h. read_in buffer a) (λ a h m. quiet_in)

  module _ (u : List ℕ) (c : Carried acc held (u ∷ back) (H.bytes_read xs) (bytes_in_inbox s)) where
    abbrev LeftIn : Took Lane Station Reply (List ℕ) → Type 0
    LeftIn t = Carried acc held (cond t.removed back (u ∷ back)) (H.bytes_read (took normal u t.answer t.sent ∷ xs)) (bytes_in_inbox t.end)

    -- what is in the inbox after a unit of the sort k
    joined_in : (k : Sort) → sort_of (header_received u) ≡ k → Carried acc held back (H.bytes_read xs) (bytes_in_inbox s ++ data_of k (ru_received u))
    joined_in k e = rw e at (carried_taken c)

    no_data : (k : Sort) → sort_of (header_received u) ≡ k → data_of k (ru_received u) ≡ [] → Carried acc held back (H.bytes_read xs) (bytes_in_inbox s)
    no_data k e z = rw (z, append-nil (bytes_in_inbox s)) at (joined_in k e)

    pub bytes_in_takes : LeftIn (takes normal s u)
    unfolding takes H.bytes_read data_joined error_marked bid_answered credit_raised request_received
    bytes_in_takes =
        take_cases (LanedTake LeftIn) s u (λ q w n. rw n c)
        (λ d a e k. rw (written_bytes s.end.receiving.held (ru_received u) s.inbox (inbox_room s a.inbox a.good)) (joined_in _ e))
        (λ p a e k m. no_data _ e refl) (λ p a e k m. no_data _ e refl) (λ x a e m. no_data _ e refl) (λ a e k. no_data _ e refl)
