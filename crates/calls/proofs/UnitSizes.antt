-- A unit that a call makes is at most 1,029 bytes long, and stands within the unit buffer.
-- Assumes nothing.
use Rattle.calls.proofs.CallWords.{ℕ, ◌+◌, ◌≤◌, length, true, List, ◌≡◌, arith, front, Header, bid_ru, error_ru, negative_confirmation_ru, fixed_ru, unit_of, number_in, unit_length, bid_answer}
use Rattle.calls.proofs.CallWords.{bytes_read, mark_read, record_good, held_bytes, End, facts, Called, Station, Verb, called, taken, taken_expedited}
use Rattle.calls.proofs.CallWords.{ExpeditedHeader, Signal, SignalResponse, expedited_ru, expedited_of, expedited_length}
use Prim.Native.Nat.{zero-le}
use lib.ListN.{length-append, length-take}
use Rattle.calls.specs.Laws.{UnitsFit}
use Rattle.calls.proofs.CallCases.{spilled_ru, allocate_cases, send_cases, close_cases, confirmed_cases, pacing_response_cases, read_cases, take_cases}
use Rattle.calls.proofs.CallCases.{send_error_cases, request_cases, expedited_cases, defer_cases, withdraw_cases}
use Rattle.calls.proofs.UnitsByHeader.{fixed_ru_lem}

-- a unit of n bytes at the front of these cells, short enough
pub record Fits (n : ℕ) (cells : List ℕ) : Type 0 where
  pub short : n ≤ 1029
  pub there : n ≤ length cells

none : (cells : List ℕ) → Fits 0 cells
none cells = record { short = zero-le; there = zero-le }

bytes_fit : (u cells : List ℕ) (k : ℕ) → length u ≡ 5 + k → k ≤ 1024 → Fits (5 + k) (front u cells)
unfolding front
bytes_fit u cells k e l = record { short = omega arith; there = simp length-append (omega (arith, e)) }

unit_fits : (n : ℕ) (h : Header) (ru cells : List ℕ) → length ru ≤ 1024 → Fits (5 + length ru) (front (unit_of n h ru) cells)
unit_fits n h ru cells l = bytes_fit (unit_of n h ru) cells (length ru) (unit_length n h ru) l

expedited_fits : (n : ℕ) (h : ExpeditedHeader) (cells : List ℕ) → Fits (5 + length (expedited_ru h)) (front (expedited_of n h) cells)
expedited_fits n Signal cells = bytes_fit (expedited_of n Signal) cells 5 (expedited_length n Signal) (omega arith)
expedited_fits n SignalResponse cells = bytes_fit (expedited_of n SignalResponse) cells 1 (expedited_length n SignalResponse) (omega arith)

held_short : (e : End) (send : List ℕ) → record_good e ≡ true → length (held_bytes e send) ≤ 1024
held_short e send g = simp length-take (omega (arith, (facts e g).sending.held, (facts e g).sending.max.most))

spilled_short : (s : Station) (bytes : List ℕ) → record_good s.end ≡ true → length (spilled_ru s bytes) ≤ 1024
spilled_short s bytes g = simp (length-append, length-take) (omega (arith, (facts s.end g).sending.held, (facts s.end g).sending.max.most))

module _ (s : Station) where
  abbrev After : Called → Type 0
  After m = Fits m.answer.answer.answer.unit m.end.unit

  pub acts_fit : (v : Verb) → After (called s v)
  unfolding called bytes_read mark_read
  acts_fit Verb.allocate =
      allocate_cases After s (λ q n. none s.unit) (λ g a w. none s.unit) (λ g a w k. unit_fits _ _ bid_ru s.unit (omega arith))
  acts_fit Verb.confirmed = confirmed_cases After s (λ q n. none s.unit) (λ g a. unit_fits _ _ _ s.unit (omega arith))
  acts_fit Verb.send_error = send_error_cases After s (λ q n. none s.unit) (λ g a. unit_fits _ _ negative_confirmation_ru s.unit (omega arith))
  acts_fit Verb.request_to_send = request_cases After s (λ q n. none s.unit) (λ a. expedited_fits _ Signal s.unit)
  acts_fit Verb.send_pacing_response = pacing_response_cases After s (λ q n. none s.unit) (λ g a. unit_fits _ _ _ s.unit (omega arith))
  acts_fit (Verb.send_data bytes) =
      send_cases After s bytes (λ q n. none s.unit) (λ a k. none s.unit)
      (λ a k h. unit_fits _ _ (spilled_ru s bytes) s.unit (spilled_short s bytes a.good))
  acts_fit (Verb.close f c) =
      close_cases After s f c (λ q n. none s.unit) (λ a n. none s.unit)
      (λ a n k. unit_fits _ _ error_ru s.unit (omega arith))
      (λ a n k. unit_fits _ _ (held_bytes s.end s.send) s.unit (held_short s.end s.send a.good))
  acts_fit (Verb.defer d) = defer_cases After s d (λ q n. none s.unit) (λ a. none s.unit)
  acts_fit Verb.withdraw = withdraw_cases After s (λ q n. none s.unit) (λ g a. none s.unit)
  acts_fit (Verb.receive buffer) =
      read_cases After s buffer (λ q w n. none s.unit) (λ a h. none s.unit) (λ a h m. none s.unit)

  pub takes_fit : (u : List ℕ) → After (taken s u)
  takes_fit u =
      let h = bid_answer s.end.control in
      take_cases After s u (λ q w n. none s.unit) (λ d a e k. none s.unit)
      (λ p a e k m. unit_fits (number_in u) h (fixed_ru h) s.unit (fixed_ru_lem h).0) (λ p a e k m. none s.unit) (λ c a e m. none s.unit)
      (λ a e k. none s.unit)

  pub expedited_fit : (u : List ℕ) → After (taken_expedited s u)
  expedited_fit u =
      expedited_cases After s u (λ q w n. none s.unit) (λ a k. expedited_fits (number_in u) SignalResponse s.unit) (λ a k. none s.unit)

pub units_fit : UnitsFit
units_fit =
    record {
      made = λ s v. (acts_fit s v).there;
      short = λ s v. (acts_fit s v).short;
      made_by_take = λ s u. (takes_fit s u).there;
      short_by_take = λ s u. (takes_fit s u).short;
      made_by_expedited_take = λ s u. (expedited_fit s u).there;
      short_by_expedited_take = λ s u. (expedited_fit s u).short;
    }
