-- What has happened at an end, as functions of its log; and the bytes that are on a line or held.
-- Assumes nothing.
use Rattle.std.specs.Prelude.{ℕ, ◌+◌, ◌<◌, Bool, false, not, cond, ◌&&◌, List, [], ◌∷◌, ◌++◌, eqb, leb, take, ◌≡◌}
use Rattle.logical_record.specs.Positions.{start}
use Rattle.logical_record.specs.Walk.{walk}
use Rattle.logical_record.specs.Records.{ended, whole_records, last_bit}
use Rattle.header.specs.Rules.{bytes}
use Rattle.answers.specs.Answers.{BAD_LL}
use Rattle.calls.specs.UnitCounts.{count, data_ru, requests_among, is_pacing_response}
use Rattle.joined.specs.Joined.{Event, acted, took}
use Rattle.joined.specs.Ends.{Lane, normal, expedited}
use Rattle.calls.specs.Calls.{Reply, Station, Verb, allocate, close, confirmed, defer, send_error, send_pacing_response, receive, refusal_in, request_to_send}
use Rattle.calls.specs.Calls.{send_data, withdraw}

abbrev pub Log : Type 0
Log = List (Event Lane Verb Reply (List ℕ))

-- ---- bytes

-- the bytes that a call gives, if it is accepted
abbrev pub given : Verb → ℕ → List ℕ
given allocate q = []
given confirmed q = []
given send_error q = []
given send_pacing_response q = []
given request_to_send q = []
given withdraw q = []
given (send_data bytes) q = cond (eqb q 0) bytes []
given (close f b) q = []
given (defer d) q = []
given (receive buffer) q = []

-- accepted are the bytes of accepted send data calls
unfoldable pub bytes_accepted : Log → List ℕ
bytes_accepted [] = []
bytes_accepted (acted v r us ∷ es) = bytes_accepted es ++ given v (refusal_in r)
bytes_accepted (took l u r us ∷ es) = bytes_accepted es

-- read are those that reads copied
unfoldable pub bytes_read : Log → List ℕ
bytes_read [] = []
bytes_read (acted v r us ∷ es) = bytes_read es ++ take r.answer.copied r.buffer
bytes_read (took l u r us ∷ es) = bytes_read es

unfoldable pub bytes_on_line : List (List ℕ) → List ℕ
bytes_on_line [] = []
bytes_on_line (u ∷ us) = data_ru u ++ bytes_on_line us

-- in the inbox and the send buffer those held
abbrev pub bytes_in_inbox : Station → List ℕ
bytes_in_inbox s = take s.end.receiving.held s.inbox

abbrev pub bytes_in_send_buffer : Station → List ℕ
bytes_in_send_buffer s = take s.end.sending.held s.send

-- ---- counts

-- among the units made on the normal lane: signals are not counted
unfoldable pub requests_made : Log → ℕ
requests_made [] = 0
requests_made (acted v r us ∷ es) = requests_among (us normal) + requests_made es
requests_made (took l u r us ∷ es) = requests_among (us normal) + requests_made es

-- the accepted takes of pacing answers, which run on the normal lane
unfoldable pub pacing_responses_taken : Log → ℕ
pacing_responses_taken [] = 0
pacing_responses_taken (acted v r us ∷ es) = pacing_responses_taken es
pacing_responses_taken (took normal u r us ∷ es) = count (eqb (refusal_in r) 0 && is_pacing_response u) + pacing_responses_taken es
pacing_responses_taken (took expedited u r us ∷ es) = pacing_responses_taken es

-- ---- breaches

-- a breach of protocol is 20 to 29
abbrev pub is_breach : ℕ → Bool
is_breach q = leb 20 q && leb q 29

-- the takes, on any lane, that were refused as a breach
unfoldable pub breaches : Log → ℕ
breaches [] = 0
breaches (acted v r us ∷ es) = breaches es
breaches (took l u r us ∷ es) = count (is_breach (refusal_in r)) + breaches es

-- ---- refusals

-- the calls and the takes, on any lane, that were refused with the number n
unfoldable pub refused_with : ℕ → Log → ℕ
refused_with n [] = 0
refused_with n (acted v r us ∷ es) = count (eqb (refusal_in r) n) + refused_with n es
refused_with n (took l u r us ∷ es) = count (eqb (refusal_in r) n) + refused_with n es

-- ---- reads

-- the reads that were refused with 8
abbrev pub is_bad_read : Verb → ℕ → Bool
is_bad_read allocate q = false
is_bad_read confirmed q = false
is_bad_read send_error q = false
is_bad_read send_pacing_response q = false
is_bad_read request_to_send q = false
is_bad_read withdraw q = false
is_bad_read (send_data bytes) q = false
is_bad_read (close f b) q = false
is_bad_read (defer d) q = false
is_bad_read (receive buffer) q = eqb q BAD_LL

unfoldable pub bad_reads : Log → ℕ
bad_reads [] = 0
bad_reads (acted v r us ∷ es) = count (is_bad_read v (refusal_in r)) + bad_reads es
bad_reads (took l u r us ∷ es) = bad_reads es

-- 'complete' is said exactly by the calls that copied bytes and after which all bytes read so far are whole records
unfoldable pub CompleteIsRight : Log → Type 0
CompleteIsRight [] = Unit {0}
CompleteIsRight (acted v r us ∷ es) =
    (r.answer.complete ≡ (not (eqb r.answer.copied 0) && ended (walk start (bytes_read (acted v r us ∷ es))))) × CompleteIsRight es
CompleteIsRight (took l u r us ∷ es) = (r.answer.complete ≡ false) × CompleteIsRight es

-- 'more' is said exactly by the calls that say 'complete' of a record that says that another part follows
unfoldable pub MoreIsRight : Log → Type 0
MoreIsRight [] = Unit {0}
MoreIsRight (acted v r us ∷ es) =
    (r.answer.more ≡ (r.answer.complete && last_bit (whole_records (bytes_read (acted v r us ∷ es))))) × MoreIsRight es
MoreIsRight (took l u r us ∷ es) = (r.answer.more ≡ false) × MoreIsRight es

-- no read crosses a record's end: no proper, non-empty front of the bytes that one read copied ends a record
unfoldable pub NoneCrosses : Log → Type 0
NoneCrosses [] = Unit {0}
NoneCrosses (acted v r us ∷ es) =
    ((n : ℕ) → 0 < n → n < r.answer.copied → ended (walk start (bytes_read es ++ take n r.buffer)) ≡ false) × NoneCrosses es
NoneCrosses (took l u r us ∷ es) = NoneCrosses es
