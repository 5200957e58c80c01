-- What each call leaves, refused or accepted, read off its definition: the one view of a call that every proof above goes by.
-- Assumes nothing.
use Rattle.calls.proofs.CallWords.{ℕ, ◌+◌, ◌≤◌, eqb-true, leb-true, ne_eqb, eqb, leb, take, drop, length, Bool, true, false, cond, not, ◌&&◌, ◌||◌, List}
use Rattle.calls.proofs.CallWords.{[], ◌∷◌, ◌++◌, ◌≡◌, refl, sym, ap, ◌∙◌, arith, cases, both, left, or_right, front, written, walk, place_or, Position}
use Rattle.calls.proofs.CallWords.{Result, Ok, Err, BadLength}
use Rattle.calls.proofs.CallWords.{header_good, ChainEnd, Continues, Last, DataHeader, Follows, Header, bid_ru, error_ru, fixed_ru, ru_good}
use Rattle.calls.proofs.CallWords.{RU_START, unit_of, number_in, header_in, unit_length, paced, has_credit, may_allocate, may_confirm, positive_response_fits}
use Rattle.calls.proofs.CallWords.{negative_response_fits, confirmation_fits, holds_send, may_send, may_withdraw, Deferred, is_nothing, agree, is_first_speaker}
use Rattle.calls.proofs.CallWords.{control_good, Control, bid_answer}
use Rattle.calls.proofs.CallWords.{allocated, confirmation_made, mark_answered, bid_received, positive_response_received, negative_response_received}
use Rattle.calls.proofs.CallWords.{confirmation_received, accepted, refused, refused_naming, rule_named, first_no, yes, window_answered, keeps, next_number}
use Rattle.calls.proofs.CallWords.{bid_made, negative_confirmation_ru, confirmation_denied, error_made, error_received, negative_confirmation_received}
use Rattle.calls.proofs.CallWords.{send_error_decision, send_error, error_marked, with_sending, request_made, closed}
use Rattle.calls.proofs.CallWords.{allocate_refusal, allocate_decision, allocate, last_made, nothing_goes, closing, close_refusal, close_decision, close}
use Rattle.calls.proofs.CallWords.{deferred, withdrawn, defer_refusal, defer_decision, defer, withdraw_refusal, withdraw_decision, withdraw}
use Rattle.calls.proofs.CallWords.{confirmed_refusal, confirmed_decision, confirmed, with_control, with_receiving, Decision, decided}
use Rattle.calls.proofs.CallWords.{send_pacing_response_refusal, send_pacing_response_decision, send_pacing_response, bytes_read, inbox_moved, some_held}
use Rattle.calls.proofs.CallWords.{receive_refusal, mark_read, receive_decision, receive, ru_received, data_joined, bid_answered, credit_raised, header_received}
use Rattle.calls.proofs.CallWords.{receive_unit_refusal, receive_unit_decision, receive_unit, record_good, data_header, held_bytes, gone, bytes_kept}
use Rattle.calls.proofs.CallWords.{bytes_spilled, send_refusal, send_decision, send_data, End, Done, ReadAnswer, facts, Called, Station, Verb, called, taken, taken_expedited}
use Rattle.calls.proofs.CallWords.{ExpeditedHeader, Signal, SignalResponse, expedited_ru, expedited_of, expedited_length, with_expedited, signal_made, signal_taken}
use Rattle.calls.proofs.CallWords.{response_taken, unit_taken, header_taken, rule_taken, request_refusal, request_decision, request_to_send}
use Rattle.calls.proofs.CallWords.{receive_expedited_refusal, receive_expedited_decision, receive_expedited}
use borrow.Author.Tests.{not-true}
use Rattle.control.specs.Questions.{may_request}
use Rattle.expedited.specs.Takes.{take_questions}
use Rattle.expedited.specs.declared.Expedited.{Expedited}
use Rattle.end.specs.RequestToSend.{request_questions}
use Rattle.end.specs.ReceiveExpedited.{lent_questions, answer_to, expedited_done}
use lib.Dec.{T}
use lib.ListN.{get_or}
use Rattle.cells.proofs.Fronts.{front_bytes}
use Rattle.logical_record.specs.Positions.{is_whole}
use Rattle.unit.specs.Ru.{marks}
use Rattle.header.specs.declared.Header.TheVariants.{Data, Bid, ErrorDescription, PositiveBidResponse, NegativeBidResponse, Confirmation}
use Rattle.header.specs.declared.Header.TheVariants.{NegativeConfirmation, PacingResponse}
use Rattle.control.proofs.Agree.{agrees}
use Rattle.control.proofs.States.{closing_holds, fits_not_send}
use Rattle.control.proofs.Within.{control_good_lem}
use Rattle.pacing.specs.declared.Window.{Window}
use Rattle.answers.specs.Answers.{read_refused}
use Rattle.end.specs.Record.{send_lent, unit_lent, inbox_lent}
use Rattle.end.specs.Outcome.{nothing, a_unit, cells_out, accept, done_of, made}
use Rattle.end.specs.Allocate.{allocate_questions}
use Rattle.logical_record.specs.Walk.{is_good}
use Rattle.end.specs.SendData.{send_questions, send_cells}
use Rattle.end.specs.Close.{close_questions, last_header, last_ru}
use Rattle.end.specs.Defer.{defer_questions, withdraw_questions}
use Rattle.end.specs.Confirmed.{confirmed_questions}
use Rattle.end.specs.ReceiveUnit.{head_questions, kind_questions, kind_received, kind_joined, inbox_cells, answer_naming}
use Rattle.end.specs.Receive.{record_rest, receive_questions, copy_count}
use Rattle.receiving.specs.BytesRead.{rest_good}
use Rattle.receiving.specs.Receiving.{records_fit, may_answer_pacing}
use Rattle.end.specs.SendPacingResponse.{send_pacing_response_questions}
use Rattle.answers.proofs.Rows.{numbered, outcomes}
use Rattle.answers.proofs.TwoRows.{pass_both}
use Rattle.bools.proofs.Cases.{never}
use Rattle.calls.proofs.ControlMoved.{Moved, bid_moves_lem, error_moves, positive_response_moves_lem, negative_response_moves, confirmation_moves}
use Rattle.calls.proofs.ControlMoved.{negative_confirmation_moves}
use Rattle.calls.proofs.UnitsByHeader.{Sort, brings, asks, tells, answers, paces, sort_of}
use Rattle.calls.specs.Calls.{copies, expedited_reply, hands, makes, plain, read_reply, sends, signals, units_of}

-- question 5 of the finite part
pub control_within : (e : End) → record_good e ≡ true → control_good e.control ≡ true
control_within e g = control_good_lem e.control (facts e g).control

-- ---- a refused call

abbrev pub refused_act : Station → ℕ → Called
refused_act s q = record { end = s; answer = plain (refused q); sent = []; expedited = [] }

-- ---- a unit made is what the caller finds at the front of the unit buffer

bytes_out : (u cells : List ℕ) (k : ℕ) → length u ≡ RU_START + k → units_of (RU_START + k) (front u cells) ≡ u ∷ []
bytes_out u cells k l =
    let t : take (RU_START + k) (front u cells) ≡ u = ap (λ (n : ℕ). take n (front u cells)) (sym l) ∙ front_bytes u cells in
    rw (ne_eqb (RU_START + k) 0 (λ z. omega arith)) (ap (λ (x : List ℕ). x ∷ []) t)

pub unit_out : (n : ℕ) (h : Header) (ru cells : List ℕ) → units_of (RU_START + length ru) (front (unit_of n h ru) cells) ≡ unit_of n h ru ∷ []
unit_out n h ru cells = bytes_out (unit_of n h ru) cells (length ru) (unit_length n h ru)

-- the station after a call that is lent no buffer to write but the unit buffer
abbrev pub with_end : Station → End → Station
with_end s e = record { end = e; send = s.send; unit = s.unit; inbox = s.inbox }

abbrev pub quiet_act : Station → End → Called
quiet_act s e = record { end = with_end s e; answer = plain (accepted 0); sent = []; expedited = [] }

abbrev pub unit_act : Station → End → ℕ → Header → List ℕ → Called
unit_act s e n h ru =
    record {
      end = record { end = e; send = s.send; unit = front (unit_of n h ru) s.unit; inbox = s.inbox };
      answer = plain (accepted (RU_START + length ru));
      sent = unit_of n h ru ∷ [];
      expedited = [];
    }

made_unit : (P : Called → Type 0) (s : Station) (e : End) (n : ℕ) (h : Header) (ru : List ℕ)
    → P (unit_act s e n h ru) → P (makes s (made (record { refusal = 0; end = e; out = a_unit n h ru }) s.unit))
made_unit P s e n h ru p = rw (unit_out n h ru s.unit) p

-- a call that is lent the unit buffer: it is refused, or every question was answered yes and its decision stands
decided_cases :
    (P : Called → Type 0) (s : Station) (qs : List (Bool × ℕ)) (d : Decision) → T (numbered qs)
    → ((q : ℕ) → eqb q 0 ≡ false → P (refused_act s q))
    → (((k : ℕ) → get_or (outcomes qs) k true ≡ true) → P (makes s (made d s.unit)))
    → P (makes s (made (decided (first_no qs) s.end d) s.unit))
decided_cases P s qs d t refuses stands =
    cases (λ (x : Decision). P (makes s (made x s.unit))) (eqb (first_no qs) 0)
    (λ y. stands (yes qs t (eqb-true (first_no qs) 0 y))) (λ y. rw y (refuses (first_no qs) y))

-- ---- allocate

abbrev pub bid_number : End → ℕ
bid_number e = next_number e.sending.number

pub allocate_cases :
    (P : Called → Type 0) (s : Station)
    → ((q : ℕ) → eqb q 0 ≡ false → P (refused_act s q))
    → (record_good s.end ≡ true
    → may_allocate s.end.control ≡ true
    → is_first_speaker s.end.control.role ≡ true
    → P (quiet_act s (with_control (allocated s.end.control) s.end)))
    → (record_good s.end ≡ true
    → may_allocate s.end.control ≡ true
    → is_first_speaker s.end.control.role ≡ false
    → has_credit s.end.sending.window ≡ true
    → P (unit_act s (bid_made s.end).end (bid_number s.end) (Bid (paced s.end.sending.window)) bid_ru))
    → P (called s Verb.allocate)
unfolding called allocate allocate_decision allocate_refusal bid_made
allocate_cases P s refuses speaks bids =
    let e = s.end in
    let w = e.sending.window in
    decided_cases P s (allocate_questions e (length s.unit)) _ tt refuses
    (λ t.
    cases (λ (d : Decision). P (makes s (made d s.unit))) (is_first_speaker e.control.role) (λ f. speaks (t 1) (t 2) f)
    (λ f. made_unit P s (bid_made e).end (bid_number e) (Bid (paced w)) bid_ru (bids (t 1) (t 2) f (or_right _ (has_credit w) (t 3) f))))

-- ---- send data

good_at : (w : Result Position BadLength) → is_good w ≡ true → (p : Position) × (w ≡ Ok p)
good_at (Ok p) e = (p, refl)
good_at (Err bad) e = never e

-- the bytes are kept
abbrev pub kept_act : Station → List ℕ → Called
kept_act s bytes =
    record {
      end = record { end = (bytes_kept s.end bytes).end; send = written s.end.sending.held bytes s.send; unit = s.unit; inbox = s.inbox };
      answer = plain (accepted 0);
      sent = [];
      expedited = [];
    }

-- the RU of the unit that goes out where they are not
abbrev pub spilled_ru : Station → List ℕ → List ℕ
spilled_ru s bytes = held_bytes s.end s.send ++ take (gone s.end) bytes

abbrev pub spilled_unit : Station → List ℕ → List ℕ
spilled_unit s bytes = unit_of (next_number s.end.sending.number) (data_header s.end Continues) (spilled_ru s bytes)

abbrev pub spilled_act : Station → List ℕ → Called
spilled_act s bytes =
    record {
      end =
          record {
            end = (bytes_spilled s.end bytes s.send).end;
            send = front (drop (gone s.end) bytes) s.send;
            unit = front (spilled_unit s bytes) s.unit;
            inbox = s.inbox;
          };
      answer = plain (accepted (RU_START + length (spilled_ru s bytes)));
      sent = spilled_unit s bytes ∷ [];
      expedited = [];
    }

-- what an accepted send data has been asked
pub record SendAsked (s : Station) (bytes : List ℕ) : Type 0 where
  pub buffer : s.end.sending.max ≤ length s.send
  pub good : record_good s.end ≡ true
  pub least : 1 ≤ length bytes
  pub most : length bytes ≤ s.end.sending.max
  pub sending : may_send s.end.control ≡ true
  pub place : Position
  pub walked : walk s.end.sending.given bytes ≡ Ok place

pub send_cases :
    (P : Called → Type 0) (s : Station) (bytes : List ℕ)
    → ((q : ℕ) → eqb q 0 ≡ false → P (refused_act s q))
    → (SendAsked s bytes → keeps s.end.sending (length bytes) ≡ true → P (kept_act s bytes))
    → (SendAsked s bytes → keeps s.end.sending (length bytes) ≡ false → has_credit s.end.sending.window ≡ true → P (spilled_act s bytes))
    → P (called s (Verb.send_data bytes))
unfolding called send_data send_decision send_refusal send_cells bytes_kept bytes_spilled
send_cases P s bytes refuses keep spill =
    let e = s.end in
    let q : ℕ = send_refusal e bytes (length s.send) (length s.unit) in
    let ks : Bool = keeps e.sending (length bytes) in
    cases (λ (d : Decision). P (sends s (record { done = done_of d; send = send_cells e bytes d.refusal s.send; unit = cells_out d.out s.unit })))
    (eqb q 0)
    (λ y.
    let t = yes (send_questions e bytes (length s.send) (length s.unit)) tt (eqb-true q 0 y) in
    let w = good_at (walk e.sending.given bytes) (t 4) in
    let many = both (leb 1 (length bytes)) (leb (length bytes) e.sending.max) (t 2) in
    let asked : SendAsked s bytes =
    record {
      buffer = leb-true _ _ (left (send_lent e (length s.send)) (unit_lent e (length s.unit)) (t 0));
      good = t 1;
      least = leb-true _ _ many.0;
      most = leb-true _ _ many.1;
      sending = t 3;
      place = w.0;
      walked = w.1;
    } in
    cases (λ (d : Decision). P (sends s (record { done = done_of d; send = send_cells e bytes d.refusal s.send; unit = cells_out d.out s.unit }))) ks
    (λ k. rw k (keep asked k))
    (λ k.
    rw (k, unit_out (next_number e.sending.number) (data_header e Continues) (spilled_ru s bytes) s.unit)
    (spill asked k (or_right ks (has_credit e.sending.window) (t 5) k))))
    (λ y. rw y (refuses q y))

-- ---- flush, confirm, turn, end

-- f is what the last unit says to follow
pub record CloseAsked (s : Station) (f : Follows) (c : Bool) : Type 0 where
  pub buffer : s.end.sending.max ≤ length s.send
  pub good : record_good s.end ≡ true
  pub holding : holds_send s.end.control.state ≡ true
  pub whole : not (marks (Last f c)) || is_whole s.end.sending.given ≡ true

-- the record after the request that goes, with this finite part: nothing is held then
abbrev pub sent_end : End → Control → End
sent_end e c = with_sending (request_made 0 e.sending.given e.sending) (with_control c e)

-- the bytes held go
abbrev pub last_act : Station → Follows → Bool → Called
last_act s f c =
    unit_act s (sent_end s.end (closed f c s.end.control)) (next_number s.end.sending.number) (data_header s.end (Last f c)) (held_bytes s.end s.send)

-- the error header goes
abbrev pub error_act : Station → Called
error_act s =
    unit_act s (sent_end s.end (error_made s.end.control)) (next_number s.end.sending.number) (ErrorDescription (paced s.end.sending.window)) error_ru

-- the one or the other, by whether an error is due
abbrev going_act : Station → Follows → Bool → Bool → Called
going_act s f c error =
    unit_act s (sent_end s.end (cond error (error_made s.end.control) (closed f c s.end.control))) (next_number s.end.sending.number)
    (cond error (ErrorDescription (paced s.end.sending.window)) (data_header s.end (Last f c))) (cond error error_ru (held_bytes s.end s.send))

going_cases : (P : Called → Type 0) (s : Station) (f : Follows) (c error : Bool) → (error ≡ true → P (error_act s)) → (error ≡ false → P (last_act s f c))
    → P (going_act s f c error)
going_cases P s f c true errs goes = errs refl
going_cases P s f c false errs goes = goes refl

-- no error is due, and a unit that says nothing to follow has a byte to carry
pub record BytesGo (s : Station) (f : Follows) (c : Bool) : Type 0 where
  pub clear : s.end.control.error ≡ false
  pub some : not (marks (Last f c)) && eqb s.end.sending.held 0 ≡ false

without_error : (m z error : Bool) → error ≡ false → m && (z && not error) ≡ false → m && z ≡ false
without_error false z error y n = refl
without_error true false error y n = refl
without_error true true error y n = sym (ap not y) ∙ n

pub close_cases :
    (P : Called → Type 0) (s : Station) (f : Follows) (c : Bool)
    → ((q : ℕ) → eqb q 0 ≡ false → P (refused_act s q))
    → (let x = closing s.end f in CloseAsked s x c → nothing_goes s.end x c ≡ true → P (quiet_act s s.end))
    → (CloseAsked s (closing s.end f) c → s.end.control.error ≡ true → has_credit s.end.sending.window ≡ true → P (error_act s))
    → (let x = closing s.end f in CloseAsked s x c → BytesGo s x c → has_credit s.end.sending.window ≡ true → P (last_act s x c))
    → P (called s (Verb.close f c))
unfolding called close close_decision close_refusal last_made
close_cases P s f c refuses none errs goes =
    let e = s.end in
    let x = closing e f in
    decided_cases P s (close_questions e f c (length s.send) (length s.unit)) _ tt refuses
    (λ t.
    let asked : CloseAsked s x c =
    record {
      buffer = leb-true _ _ (left (send_lent e (length s.send)) (unit_lent e (length s.unit)) (t 0));
      good = t 1;
      holding = closing_holds f c e.control (t 2);
      whole = t 3;
    } in
    cases (λ (d : Decision). P (makes s (made d s.unit))) (nothing_goes e x c) (λ n. none asked n)
    (λ n.
    let k = or_right _ (has_credit e.sending.window) (t 4) n in
    made_unit P s (last_made e x c s.send).end (next_number e.sending.number) (last_header e x c) (last_ru e s.send)
    (going_cases P s x c e.control.error (λ y. errs asked y k)
    (λ y. goes asked (record { clear = y; some = without_error (not (marks (Last x c))) (eqb e.sending.held 0) e.control.error y n }) k))))

-- ---- prepare, withdraw

-- a call that is lent nothing: it is refused, or every question was answered yes and the record is this
noted_cases :
    (P : Called → Type 0) (s : Station) (qs : List (Bool × ℕ)) (next : End) → T (numbered qs)
    → ((q : ℕ) → eqb q 0 ≡ false → P (refused_act s q))
    → (((k : ℕ) → get_or (outcomes qs) k true ≡ true) → P (quiet_act s next))
    → P (hands s (done_of (decided (first_no qs) s.end (accept next nothing))))
noted_cases P s qs next t refuses stands =
    cases (λ (d : Decision). P (hands s (done_of d))) (eqb (first_no qs) 0)
    (λ y. stands (yes qs t (eqb-true (first_no qs) 0 y))) (λ y. rw y (refuses (first_no qs) y))

pub record DeferAsked (s : Station) : Type 0 where
  pub good : record_good s.end ≡ true
  pub sending : may_send s.end.control ≡ true
  pub whole : is_whole s.end.sending.given ≡ true

abbrev pub deferred_act : Station → Deferred → Called
deferred_act s d = quiet_act s (with_control (deferred d s.end.control) s.end)

pub defer_cases :
    (P : Called → Type 0) (s : Station) (d : Deferred)
    → ((q : ℕ) → eqb q 0 ≡ false → P (refused_act s q))
    → (DeferAsked s → P (deferred_act s d))
    → P (called s (Verb.defer d))
unfolding called defer defer_decision defer_refusal
defer_cases P s d refuses notes =
    noted_cases P s (defer_questions s.end) _ tt refuses (λ t. notes (record { good = t 0; sending = t 1; whole = t 2 }))

pub withdraw_cases :
    (P : Called → Type 0) (s : Station)
    → ((q : ℕ) → eqb q 0 ≡ false → P (refused_act s q))
    → (record_good s.end ≡ true → may_withdraw s.end.control ≡ true → P (quiet_act s (with_control (withdrawn s.end.control) s.end)))
    → P (called s Verb.withdraw)
unfolding called withdraw withdraw_decision withdraw_refusal
withdraw_cases P s refuses drops = noted_cases P s (withdraw_questions s.end) _ tt refuses (λ t. drops (t 0) (t 1))

-- ---- confirmed

pub confirmed_cases :
    (P : Called → Type 0) (s : Station)
    → ((q : ℕ) → eqb q 0 ≡ false → P (refused_act s q))
    → (record_good s.end ≡ true
    → may_confirm s.end.control ≡ true
    → P (unit_act s (with_control (confirmation_made s.end.control) s.end) s.end.owed Confirmation []))
    → P (called s Verb.confirmed)
unfolding called confirmed confirmed_decision confirmed_refusal
confirmed_cases P s refuses goes =
    let e = s.end in
    decided_cases P s (confirmed_questions e (length s.unit)) _ tt refuses
    (λ t. made_unit P s (with_control (confirmation_made e.control) e) e.owed Confirmation [] (goes (t 1) (t 2)))

-- ---- send error

pub send_error_cases :
    (P : Called → Type 0) (s : Station)
    → ((q : ℕ) → eqb q 0 ≡ false → P (refused_act s q))
    → (record_good s.end ≡ true
    → may_confirm s.end.control ≡ true
    → P (unit_act s (with_control (confirmation_denied s.end.control) s.end) s.end.owed NegativeConfirmation negative_confirmation_ru))
    → P (called s Verb.send_error)
unfolding called send_error send_error_decision confirmed_refusal
send_error_cases P s refuses goes =
    let e = s.end in
    decided_cases P s (confirmed_questions e (length s.unit)) _ tt refuses
    (λ t. made_unit P s (with_control (confirmation_denied e.control) e) e.owed NegativeConfirmation negative_confirmation_ru (goes (t 1) (t 2)))

-- ---- request to send

pub expedited_out_lem : (n : ℕ) (h : ExpeditedHeader) (cells : List ℕ)
    → units_of (RU_START + length (expedited_ru h)) (front (expedited_of n h) cells) ≡ expedited_of n h ∷ []
expedited_out_lem n h cells = bytes_out (expedited_of n h) cells (length (expedited_ru h)) (expedited_length n h)

-- a unit for the expedited line, with what is kept of these lines then; the program is told, or not
abbrev pub expedited_act : Station → Expedited → ℕ → ExpeditedHeader → Bool → Called
expedited_act s x n h told =
    record {
      end = record { end = with_expedited x s.end; send = s.send; unit = front (expedited_of n h) s.unit; inbox = s.inbox };
      answer = expedited_reply (record { answer = accepted (RU_START + length (expedited_ru h)); signalled = told });
      sent = [];
      expedited = expedited_of n h ∷ [];
    }

-- what an accepted request to send has been asked
pub record RequestToSendAsked (s : Station) : Type 0 where
  pub good : record_good s.end ≡ true
  pub state : may_request s.end.control ≡ true
  pub quiet : s.end.expedited.unanswered ≡ false

pub request_cases :
    (P : Called → Type 0) (s : Station)
    → ((q : ℕ) → eqb q 0 ≡ false → P (refused_act s q))
    → (RequestToSendAsked s → P (expedited_act s (signal_made s.end.expedited) (next_number s.end.expedited.sent) Signal false))
    → P (called s Verb.request_to_send)
unfolding called request_to_send request_decision request_refusal
request_cases P s refuses goes =
    let e = s.end in
    let qs = request_questions e (length s.unit) in
    cases (λ (d : Decision). P (signals s (made d s.unit))) (eqb (first_no qs) 0)
    (λ y.
    let t = yes qs tt (eqb-true (first_no qs) 0 y) in
    rw (expedited_out_lem (next_number e.expedited.sent) Signal s.unit)
    (goes (record { good = t 1; state = t 2; quiet = not-true e.expedited.unanswered (t 3) })))
    (λ y. rw y (refuses (first_no qs) y))

-- ---- take, on the expedited line

-- what an accepted one has been asked
pub record ExpeditedAsked (s : Station) (u : List ℕ) : Type 0 where
  pub good : record_good s.end ≡ true
  pub asked : first_no (take_questions s.end.expedited u) ≡ 0

abbrev pub refused_expedited : Station → List ℕ → ℕ → Called
refused_expedited s u q =
    record { end = s; answer = expedited_reply (record { answer = refused_naming (rule_taken u) q; signalled = false }); sent = []; expedited = [] }

-- what is left by its decision
abbrev pub took_expedited : Station → List ℕ → Decision → Called
took_expedited s u d =
    record {
      end = record { end = d.end; send = s.send; unit = cells_out d.out s.unit; inbox = s.inbox };
      answer = expedited_reply (expedited_done u d).answer;
      sent = [];
      expedited = units_of (expedited_done u d).answer.answer.unit (cells_out d.out s.unit);
    }

pub expedited_cases :
    (P : Called → Type 0) (s : Station) (u : List ℕ)
    → ((q : ℕ) → q ≡ receive_expedited_refusal s.end u (length s.unit) → eqb q 0 ≡ false → P (refused_expedited s u q))
    → (ExpeditedAsked s u → header_taken u ≡ Signal → P (expedited_act s (signal_taken (number_in u) s.end.expedited) (number_in u) SignalResponse true))
    → (ExpeditedAsked s u → header_taken u ≡ SignalResponse → P (quiet_act s (with_expedited (response_taken s.end.expedited) s.end)))
    → P (taken_expedited s u)
unfolding taken_expedited receive_expedited receive_expedited_decision receive_expedited_refusal
expedited_cases P s u refuses told cleared =
    let e = s.end in
    let q : ℕ = receive_expedited_refusal e u (length s.unit) in
    cases (λ (d : Decision). P (took_expedited s u d)) (eqb q 0)
    (λ y.
    let both = pass_both (lent_questions e (length s.unit)) (take_questions e.expedited u) tt (eqb-true q 0 y) in
    let t = yes (lent_questions e (length s.unit)) tt both.0 in
    by (header_taken u) refl (record { good = t 1; asked = both.1 }))
    (λ y. rw (y, y) (refuses q refl y))
  where
    by : (h : ExpeditedHeader) → header_taken u ≡ h → ExpeditedAsked s u
        → P (took_expedited s u (accept (with_expedited (unit_taken h (number_in u) s.end.expedited) s.end) (answer_to h (number_in u))))
    by Signal k a = rw (k, expedited_out_lem (number_in u) SignalResponse s.unit) (told a k)
    by SignalResponse k a = rw k (cleared a k)

-- ---- send pacing response

pub pacing_response_cases :
    (P : Called → Type 0) (s : Station)
    → ((q : ℕ) → eqb q 0 ≡ false → P (refused_act s q))
    → (record_good s.end ≡ true
    → may_answer_pacing s.end.receiving ≡ true
    → P (unit_act s (with_receiving (window_answered s.end.receiving) s.end) 0 PacingResponse []))
    → P (called s Verb.send_pacing_response)
unfolding called send_pacing_response send_pacing_response_decision send_pacing_response_refusal
pacing_response_cases P s refuses goes =
    let e = s.end in
    decided_cases P s (send_pacing_response_questions e (length s.unit)) _ tt refuses
    (λ t. made_unit P s (with_receiving (window_answered e.receiving) e) 0 PacingResponse [] (goes (t 1) (t 2)))

-- ---- read

pub record ReadAsked (s : Station) (buffer : List ℕ) : Type 0 where
  pub inbox : length s.inbox ≡ s.end.receiving.inbox
  pub good : record_good s.end ≡ true
  pub least : 1 ≤ length buffer
  pub rest : rest_good (record_rest s.end s.inbox) ≡ true

abbrev pub read_count : Station → List ℕ → ℕ
read_count s buffer = copy_count s.end s.inbox (length buffer)

abbrev pub refused_read : Station → ℕ → List ℕ → Called
refused_read s q buffer = record { end = s; answer = read_reply (read_refused q) buffer; sent = []; expedited = [] }

abbrev pub bytes_act : Station → List ℕ → Called
bytes_act s buffer =
    record {
      end =
          record {
            end = (bytes_read s.end (read_count s buffer) s.inbox).end;
            send = s.send;
            unit = s.unit;
            inbox = inbox_moved s.end (read_count s buffer) s.inbox;
          };
      answer =
          read_reply (bytes_read s.end (read_count s buffer) s.inbox).answer (front (take (read_count s buffer) s.inbox) buffer);
      sent = [];
      expedited = [];
    }

abbrev pub mark_act : Station → List ℕ → Called
mark_act s buffer =
    record {
      end = with_end s (with_control (mark_answered s.end.control) s.end);
      answer = read_reply (mark_read s.end).answer buffer;
      sent = [];
      expedited = [];
    }

pub read_cases :
    (P : Called → Type 0) (s : Station) (buffer : List ℕ)
    → ((q : ℕ) → q ≡ receive_refusal s.end s.inbox (length buffer) → eqb q 0 ≡ false → P (refused_read s q buffer))
    → (ReadAsked s buffer → some_held s.end ≡ true → P (bytes_act s buffer))
    → (ReadAsked s buffer → some_held s.end ≡ false → not (is_nothing s.end.control.mark) ≡ true → P (mark_act s buffer))
    → P (called s (Verb.receive buffer))
unfolding called receive receive_decision receive_refusal bytes_read mark_read inbox_moved front
read_cases P s buffer refuses copied marked =
    let e = s.end in
    let q : ℕ = receive_refusal e s.inbox (length buffer) in
    cases
    (λ (d : Done ReadAnswer).
    P (copies s (record { done = d; inbox = inbox_moved e d.answer.copied s.inbox; buffer = front (take d.answer.copied s.inbox) buffer })))
    (eqb q 0)
    (λ y.
    let t = yes (receive_questions e s.inbox (length buffer)) tt (eqb-true q 0 y) in
    let asked : ReadAsked s buffer =
    record { inbox = eqb-true _ _ (t 0); good = t 1; least = leb-true _ _ (t 2); rest = t 3 } in
    cases
    (λ (d : Done ReadAnswer).
    P (copies s (record { done = d; inbox = inbox_moved e d.answer.copied s.inbox; buffer = front (take d.answer.copied s.inbox) buffer })))
    (some_held e)
    (λ h. copied asked h)
    (λ h. marked asked h (or_right (some_held e) _ (t 4) h)))
    (λ y. refuses q refl y)

-- ---- take

-- the finite part after a response
abbrev control_after : Header → Control → Control
control_after (Data d) c = c
control_after (Bid p) c = c
control_after (ErrorDescription p) c = c
control_after PositiveBidResponse c = positive_response_received c
control_after NegativeBidResponse c = negative_response_received c
control_after Confirmation c = confirmation_received c
control_after NegativeConfirmation c = negative_confirmation_received c
control_after PacingResponse c = c

-- bytes join the inbox
abbrev pub joined_act : Station → DataHeader → ℕ → List ℕ → Called
joined_act s d n ru =
    record {
      end = record { end = (data_joined s.end d n ru).end; send = s.send; unit = s.unit; inbox = written s.end.receiving.held ru s.inbox };
      answer = plain (accepted 0);
      sent = [];
      expedited = [];
    }

-- a bid is answered under its own number
abbrev pub answered_act : Station → ℕ → Called
answered_act s n =
    let h = bid_answer s.end.control in
    unit_act s (bid_answered s.end n).end n h (fixed_ru h)

-- an error header leaves its mark
abbrev pub erred_act : Station → Called
erred_act s = quiet_act s (error_marked s.end).end

abbrev pub credit_act : Station → Called
credit_act s = quiet_act s (credit_raised s.end).end

-- an accepted take, by the unit's header and its sort
abbrev took_as : Station → Header → Sort → ℕ → List ℕ → Called
took_as s h (brings d) n ru = joined_act s d n ru
took_as s h (asks p) n ru = answered_act s n
took_as s h (tells p) n ru = erred_act s
took_as s h answers n ru = quiet_act s (with_control (control_after h s.end.control) s.end)
took_as s h paces n ru = credit_act s

abbrev pub took_kind : Station → Header → ℕ → List ℕ → Called
took_kind s h n ru = took_as s h (sort_of h) n ru

-- what a take leaves by its decision
abbrev pub took_of : Station → List ℕ → Decision → List ℕ → Called
took_of s u d inbox =
    record {
      end = record { end = d.end; send = s.send; unit = cells_out d.out s.unit; inbox = inbox };
      answer = plain (answer_naming u d);
      sent = units_of (answer_naming u d).unit (cells_out d.out s.unit);
      expedited = [];
    }

took_kind_lem :
    (P : Called → Type 0) (s : Station) (u : List ℕ) (h : Header) (n : ℕ) (ru : List ℕ)
    → P (took_kind s h n ru)
    → P (took_of s u (kind_received s.end h n ru) (cond (eqb (kind_received s.end h n ru).refusal 0) (kind_joined s.end h ru s.inbox) s.inbox))
unfolding data_joined error_marked bid_answered credit_raised
took_kind_lem P s u (Data d) n ru p = p
took_kind_lem P s u (Bid b) n ru p =
    let h = bid_answer s.end.control in
    rw (unit_out n h (fixed_ru h) s.unit) p
took_kind_lem P s u (ErrorDescription b) n ru p = p
took_kind_lem P s u PositiveBidResponse n ru p = p
took_kind_lem P s u NegativeBidResponse n ru p = p
took_kind_lem P s u Confirmation n ru p = p
took_kind_lem P s u NegativeConfirmation n ru p = p
took_kind_lem P s u PacingResponse n ru p = p

-- no question that gives the number k is answered no
abbrev pub passes : ℕ → List (Bool × ℕ) → Bool
passes k [] = true
passes k (q ∷ qs) = (not (eqb q.1 k) || q.0) && passes k qs

-- every kind that is taken is accepted, and none of its questions gives the number 5, or 7
pub kind_accepted : (e : End) (h : Header) (n : ℕ) (ru : List ℕ)
    → ((kind_received e h n ru).refusal ≡ 0) × (passes 5 (kind_questions e h n ru) ≡ true) × (passes 7 (kind_questions e h n ru) ≡ true)
unfolding data_joined error_marked bid_answered credit_raised
kind_accepted e (Data d) n ru = (refl, refl, refl)
kind_accepted e (Bid p) n ru = (refl, refl, refl)
kind_accepted e (ErrorDescription p) n ru = (refl, refl, refl)
kind_accepted e PositiveBidResponse n ru = (refl, refl, refl)
kind_accepted e NegativeBidResponse n ru = (refl, refl, refl)
kind_accepted e Confirmation n ru = (refl, refl, refl)
kind_accepted e NegativeConfirmation n ru = (refl, refl, refl)
kind_accepted e PacingResponse n ru = (refl, refl, refl)

-- what an accepted take has been asked before the unit's kind
pub record TakeAsked (s : Station) (u : List ℕ) : Type 0 where
  pub inbox : length s.inbox ≡ s.end.receiving.inbox
  pub good : record_good s.end ≡ true
  pub unmarked : is_nothing s.end.control.mark ≡ true
  pub long : RU_START ≤ length u
  pub header : header_good (header_in u) ≡ true

abbrev pub refused_take : Station → List ℕ → ℕ → Called
refused_take s u q = record { end = s; answer = plain (refused_naming (rule_named u) q); sent = []; expedited = [] }

-- a take, by the kind of the unit
pub kind_cases :
    (P : Called → Type 0) (s : Station) (u : List ℕ)
    → ((q : ℕ) → q ≡ receive_unit_refusal s.end u (length s.inbox) (length s.unit) → eqb q 0 ≡ false → P (refused_take s u q))
    → (TakeAsked s u → first_no (kind_questions s.end (header_received u) (number_in u) (ru_received u)) ≡ 0 → P (took_kind s (header_received u) (number_in u) (ru_received u)))
    → P (taken s u)
unfolding taken receive_unit receive_unit_decision inbox_cells receive_unit_refusal
kind_cases P s u refuses takesIt =
    let e = s.end in
    let q : ℕ = receive_unit_refusal e u (length s.inbox) (length s.unit) in
    cases (λ (d : Decision). P (took_of s u d (cond (eqb d.refusal 0) (kind_joined e (header_received u) (ru_received u) s.inbox) s.inbox))) (eqb q 0)
    (λ y.
    let head = head_questions e u (length s.inbox) (length s.unit) in
    let both = pass_both head (kind_questions e (header_received u) (number_in u) (ru_received u)) tt (eqb-true q 0 y) in
    let t = yes head tt both.0 in
    let asked : TakeAsked s u =
    record {
      inbox = eqb-true _ _ (left (inbox_lent e (length s.inbox)) (unit_lent e (length s.unit)) (t 0));
      good = t 1;
      unmarked = t 2;
      long = leb-true _ _ (t 3);
      header = t 4;
    } in
    took_kind_lem P s u (header_received u) (number_in u) (ru_received u) (takesIt asked both.1))
    (λ y. rw y (refuses q refl y))

-- ---- a take by the sort of the unit

-- a request that is taken finds credit, and has the bit of its window place
pub record RequestAsked (w : Window) (b : Bool) : Type 0 where
  pub credit : has_credit w ≡ true
  pub bit : b ≡ paced w

pub record DataAsked (s : Station) (d : DataHeader) (ru : List ℕ) : Type 0 where
  pub short : length ru ≤ s.end.receiving.max
  pub request : RequestAsked s.end.receiving.window d.pacing
  pub away : holds_send s.end.control.state ≡ false
  pub walked : walk s.end.receiving.taken ru ≡ Ok (place_or s.end.receiving.taken (walk s.end.receiving.taken ru))

request_asked : (w : Window) (bit : Bool) → has_credit w && agree bit (paced w) ≡ true → RequestAsked w bit
request_asked w bit e =
    let h = both (has_credit w) (agree bit (paced w)) e in
    record { credit = h.0; bit = agrees bit (paced w) h.1 }

fits_at : (ends : ChainEnd) (p : Position) (w : Result Position BadLength) → records_fit ends w ≡ true → w ≡ Ok (place_or p w)
fits_at ends p (Ok q) e = refl
fits_at ends p (Err bad) e = cc

pub take_cases :
    (P : Called → Type 0) (s : Station) (u : List ℕ)
    → ((q : ℕ) → q ≡ receive_unit_refusal s.end u (length s.inbox) (length s.unit) → eqb q 0 ≡ false → P (refused_take s u q))
    → ((d : DataHeader) → TakeAsked s u → sort_of (header_received u) ≡ brings d → DataAsked s d (ru_received u) → P (joined_act s d (number_in u) (ru_received u)))
    → ((p : Bool) → TakeAsked s u → sort_of (header_received u) ≡ asks p → RequestAsked s.end.receiving.window p
    → Moved s.end.control (bid_received s.end.control) → P (answered_act s (number_in u)))
    → ((p : Bool) → TakeAsked s u → sort_of (header_received u) ≡ tells p → RequestAsked s.end.receiving.window p
    → Moved s.end.control (error_received s.end.control) → P (erred_act s))
    → ((c : Control) → TakeAsked s u → sort_of (header_received u) ≡ answers → Moved s.end.control c → P (quiet_act s (with_control c s.end)))
    → (TakeAsked s u → sort_of (header_received u) ≡ paces → s.end.sending.window.pending ≡ true → P (credit_act s))
    → P (taken s u)
unfolding ru_good
take_cases P s u refuses joins bids errs responds raises =
    kind_cases P s u refuses (λ a k. by (header_received u) refl a k)
  where
    by : (h : Header) → header_received u ≡ h → TakeAsked s u → first_no (kind_questions s.end h (number_in u) (ru_received u)) ≡ 0
        → P (took_kind s h (number_in u) (ru_received u))
    by (Data d) e a k =
        let t = yes (kind_questions s.end (Data d) (number_in u) (ru_received u)) tt k in
        joins d a (ap sort_of e)
        (record {
          short = leb-true _ _ (left (leb (length (ru_received u)) s.end.receiving.max) _ (t 0));
          request = request_asked s.end.receiving.window d.pacing (t 1);
          away = fits_not_send s.end.control.state _ (t 5);
          walked = fits_at d.ends s.end.receiving.taken (walk s.end.receiving.taken (ru_received u)) (t 6);
        })
    by (Bid p) e a k =
        let t = yes (kind_questions s.end (Bid p) (number_in u) (ru_received u)) tt k in
        bids p a (ap sort_of e) (request_asked s.end.receiving.window p (t 1)) (bid_moves_lem s.end.control (control_within s.end a.good))
    by (ErrorDescription p) e a k =
        let t = yes (kind_questions s.end (ErrorDescription p) (number_in u) (ru_received u)) tt k in
        errs p a (ap sort_of e) (request_asked s.end.receiving.window p (t 1)) (error_moves s.end.control (control_within s.end a.good) (t 5))
    by PositiveBidResponse e a k =
        let t = yes (kind_questions s.end PositiveBidResponse (number_in u) (ru_received u)) tt k in
        responds _ a (ap sort_of e)
        (positive_response_moves_lem s.end.control (control_within s.end a.good) (left (positive_response_fits s.end.control) _ (t 1)))
    by NegativeBidResponse e a k =
        let t = yes (kind_questions s.end NegativeBidResponse (number_in u) (ru_received u)) tt k in
        responds _ a (ap sort_of e)
        (negative_response_moves s.end.control (control_within s.end a.good) (left (negative_response_fits s.end.control) _ (t 1)))
    by Confirmation e a k =
        let t = yes (kind_questions s.end Confirmation (number_in u) (ru_received u)) tt k in
        responds _ a (ap sort_of e)
        (confirmation_moves s.end.control (control_within s.end a.good) (left (confirmation_fits s.end.control) _ (t 1)))
    by NegativeConfirmation e a k =
        let t = yes (kind_questions s.end NegativeConfirmation (number_in u) (ru_received u)) tt k in
        responds _ a (ap sort_of e)
        (negative_confirmation_moves s.end.control (control_within s.end a.good) (left (confirmation_fits s.end.control) _ (t 1)))
    by PacingResponse e a k = raises a (ap sort_of e) (yes (kind_questions s.end PacingResponse (number_in u) (ru_received u)) tt k 1)
