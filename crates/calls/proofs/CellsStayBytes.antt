-- The cells that a call leaves and the unit that it makes are bytes, if those that it was lent and given are.
-- Assumes nothing.
use Rattle.calls.proofs.CallWords.{ℕ, ◌<◌, eqb, take, drop, Bool, true, false, cond, List, [], ◌∷◌, arith, cases, confirms, Continues, Last, Follows}
use Rattle.calls.proofs.CallWords.{Header, bid_ru, fixed_ru, RU_START, unit_of, number_in, paced, bid_answer, next_number, bid_made, closing, error_ru, negative_confirmation_ru}
use Rattle.calls.proofs.CallWords.{bytes_read, error_marked}
use Rattle.calls.proofs.CallWords.{inbox_moved, ru_received, data_joined, bid_answered, credit_raised, data_header, held_bytes, gone, bytes_kept, bytes_spilled}
use Rattle.calls.proofs.CallWords.{Called, Station, Verb, called, taken, taken_expedited, AllBytes, BytesOf}
use Rattle.header.specs.declared.Header.TheVariants.{Bid, ErrorDescription, Confirmation, NegativeConfirmation, PacingResponse}
use Rattle.end.specs.Receive.{inbox_bytes}
use Rattle.calls.proofs.ByteLists.{none_bytes, take_bytes, drop_bytes, append_bytes, front_bytes_all, written_bytes_all, next_small, number_small}
use Rattle.calls.proofs.ByteLists.{AllUnits}
use Rattle.calls.proofs.UnitsByHeader.{unit_bytes_lem, fixed_ru_lem}
use Rattle.calls.proofs.CallCases.{allocate_cases, bid_number, send_cases, spilled_ru, close_cases, confirmed_cases, pacing_response_cases, read_cases}
use Rattle.calls.proofs.CallCases.{send_error_cases, request_cases, expedited_cases, defer_cases, withdraw_cases, read_count, take_cases}

-- ---- the cells and units are bytes, and the number owed is one of two bytes

pub record AreBytes (sent taken : List ℕ) (n : ℕ) : Type 0 where
  pub send : AllBytes sent
  pub inbox : AllBytes taken
  pub owed : n < 65536

abbrev pub Cells : Station → Type 0
Cells s = AreBytes s.send s.inbox s.end.owed

module _ (s : Station) (c : Cells s) where
  abbrev After : Called → Type 0
  After m = Cells m.end × AllUnits m.sent

  one_unit : (n : ℕ) (h : Header) (ru : List ℕ) → n < 65536 → AllBytes ru → AllUnits (unit_of n h ru ∷ [])
  one_unit n h ru l f = (unit_bytes_lem n h ru l f, tt)

  held_bytes_lem : AllBytes (held_bytes s.end s.send)
  held_bytes_lem = take_bytes s.end.sending.held s.send c.send

  closes : (f : Follows) (b : Bool) → After (called s (Verb.close f b))
  closes f b =
      close_cases After s f b (λ q n. (c, tt)) (λ a n. (c, tt))
      (λ a n k. (
        c,
        one_unit (next_number s.end.sending.number) (ErrorDescription (paced s.end.sending.window)) error_ru (next_small s.end.sending.number)
            (fixed_ru_lem (ErrorDescription (paced s.end.sending.window))).1,
      ))
      (λ a n k. (
        c,
        one_unit (next_number s.end.sending.number) (data_header s.end (Last (closing s.end f) b)) (held_bytes s.end s.send)
            (next_small s.end.sending.number) held_bytes_lem,
      ))

  gives : (bytes : List ℕ) → AllBytes bytes → After (called s (Verb.send_data bytes))
  unfolding bytes_kept bytes_spilled
  gives bytes b =
      let e = s.end in
      send_cases After s bytes (λ q n. (c, tt))
      (λ a k. (record { send = written_bytes_all e.sending.held bytes s.send b c.send; inbox = c.inbox; owed = c.owed }, tt))
      (λ a k h. (
        record {
          send = front_bytes_all (drop (gone e) bytes) s.send (drop_bytes (gone e) bytes b) c.send;
          inbox = c.inbox;
          owed = c.owed;
        },
        one_unit (next_number e.sending.number) (data_header e Continues) (spilled_ru s bytes) (next_small e.sending.number)
            (append_bytes (held_bytes e s.send) (take (gone e) bytes) held_bytes_lem (take_bytes (gone e) bytes b)),
      ))

  moved_bytes : (k : ℕ) → AllBytes (inbox_moved s.end k s.inbox)
  unfolding inbox_moved
  moved_bytes k =
      let held = inbox_bytes s.end s.inbox in
      cases AllBytes (eqb k 0) (λ y. c.inbox)
      (λ y. front_bytes_all (drop k held) s.inbox (drop_bytes k held (take_bytes s.end.receiving.held s.inbox c.inbox)) c.inbox)

  pub cells_acts : (v : Verb) → BytesOf v → After (called s v)
  unfolding called bid_made bytes_read
  cells_acts Verb.allocate b =
      allocate_cases After s (λ q n. (c, tt)) (λ g a w. (c, tt))
      (λ g a w k. (
        c,
        one_unit (bid_number s.end) (Bid (paced s.end.sending.window)) bid_ru (next_small s.end.sending.number)
            (fixed_ru_lem (Bid (paced s.end.sending.window))).1,
      ))
  cells_acts Verb.confirmed b =
      confirmed_cases After s (λ q n. (c, tt))
      (λ g a. (c, one_unit s.end.owed Confirmation [] c.owed none_bytes))
  cells_acts Verb.send_error b =
      send_error_cases After s (λ q n. (c, tt))
      (λ g a. (c, one_unit s.end.owed NegativeConfirmation negative_confirmation_ru c.owed (fixed_ru_lem NegativeConfirmation).1))
  cells_acts Verb.send_pacing_response b =
      pacing_response_cases After s (λ q n. (c, tt))
      (λ g a. (c, one_unit 0 PacingResponse [] (omega arith) none_bytes))
  cells_acts Verb.request_to_send b = request_cases After s (λ q n. (c, tt)) (λ a. (c, tt))
  cells_acts (Verb.send_data bytes) b = gives bytes b
  cells_acts (Verb.close f x) b = closes f x
  cells_acts (Verb.defer d) b = defer_cases After s d (λ q n. (c, tt)) (λ a. (c, tt))
  cells_acts Verb.withdraw b = withdraw_cases After s (λ q n. (c, tt)) (λ g a. (c, tt))
  cells_acts (Verb.receive buffer) b =
      read_cases After s buffer (λ q w n. (c, tt))
      (λ a h. (record { send = c.send; inbox = moved_bytes (read_count s buffer); owed = c.owed }, tt))
      (λ a h m. (c, tt))

  -- the number owed is that of the unit, or as it was
  owed_small : (b : Bool) (n : ℕ) → n < 65536 → cond b n s.end.owed < 65536
  owed_small true n l = l
  owed_small false n l = c.owed

  pub cells_takes : (u : List ℕ) → AllBytes u → After (taken s u)
  unfolding data_joined error_marked bid_answered credit_raised
  cells_takes u f =
      let h = bid_answer s.end.control in
      let n = number_small u f in
      let joined = written_bytes_all s.end.receiving.held (ru_received u) s.inbox (drop_bytes RU_START u f) c.inbox in
      take_cases After s u (λ q w x. (c, tt))
      (λ d a e k. (record { send = c.send; inbox = joined; owed = owed_small (confirms d.ends) (number_in u) n }, tt))
      (λ p a e k m. (c, one_unit (number_in u) h (fixed_ru h) n (fixed_ru_lem h).1)) (λ p a e k m. (c, tt)) (λ x a e m. (c, tt)) (λ a e k. (c, tt))

  pub cells_takes_expedited : (u : List ℕ) → After (taken_expedited s u)
  cells_takes_expedited u = expedited_cases After s u (λ q w x. (c, tt)) (λ a k. (c, tt)) (λ a k. (c, tt))
