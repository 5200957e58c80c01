-- Every call keeps question 5: the record that it leaves is within the section 'The end's record'.
-- Assumes nothing.
use Rattle.calls.proofs.CallWords.{ℕ, ◌<◌, ◌+◌, ◌*◌, ◌≤◌, eqb-true, leb-true, ne_eqb, eqb, leb, take, length, Bool, true, false, not, List, ◌≡◌, refl}
use Rattle.calls.proofs.CallWords.{sym, ap, arith, both, join, left, right, walk, place_or, Position, Result, Ok, Err, BadLength, Follows, RU_START, number_in}
use Rattle.calls.proofs.CallWords.{closing, deferred, withdrawn, control_good, Control, within, allocated, confirmation_made, mark_answered, first_no, yes}
use Rattle.calls.proofs.CallWords.{request_received, ◌||◌, or_right, holds_send, closed, confirmation_denied, error_made, error_marked}
use Rattle.calls.proofs.CallWords.{window_answered, request_made, bid_made, with_control, with_receiving, bytes_read, ru_received, data_joined}
use Rattle.calls.proofs.CallWords.{bid_answered, credit_raised, record_good, gone, bytes_kept, bytes_spilled, End, facts, Called, Station, Verb, called}
use Rattle.calls.proofs.CallWords.{taken, taken_expedited, with_expedited, AllBytes, BytesOf}
use Rattle.expedited.specs.declared.Expedited.{Expedited}
use Prim.Native.Nat.{◌-◌}
use mathlib.Core.Path.{subst}
use mathlib.Core.Bool.{and-false}
use Rattle.control.specs.Within.{may_hold}
use borrow.Author.Tests.{eq-eqb, eqb-false, leb-false, le-leb}
use Rattle.pacing.specs.Pacing.{size_good}
use Rattle.transitions.specs.Transitions.{spilled}
use Rattle.control.specs.declared.Role.{Role}
use Rattle.unit.specs.Maximum.{max_good}
use Rattle.session.specs.OpeningQuestions.{opening_questions, opening_refusal}
use Rattle.control.specs.StateTests.{role_of}
use Rattle.session.specs.Opening.{fresh_end, opened}
use Rattle.end.specs.SendData.{given}
use Rattle.session.specs.declared.Session.{Session}
use Rattle.bools.proofs.Cases.{split}
use Rattle.calls.proofs.ByteLists.{drop_bytes, take_bytes}
use Rattle.calls.proofs.CallCases.{allocate_cases, close_cases, confirmed_cases, pacing_response_cases, read_cases, read_count, send_cases, take_cases}
use Rattle.calls.proofs.CallCases.{control_within, send_error_cases, request_cases, expedited_cases, defer_cases, withdraw_cases, sent_end}
use Rattle.calls.proofs.ControlMoved.{allocate_moves, confirmed_moves, denied_moves, mark_moves}
use Rattle.calls.specs.Laws.{StaysGood}
use Rattle.calls.proofs.Refusals.{accepted_good, accepted_take_good, accepted_expedited_good}
use Rattle.end.proofs.RecordGood.{good}
use Rattle.pacing.proofs.Windows.{answered_good, fresh_open, fresh_window_lem}
use Rattle.logical_record.specs.Positions.{is_position}
use Rattle.logical_record.proofs.Walks.{walk_position}
use Rattle.transitions.proofs.KeptWithin.{closed_leaves, error_made_keeps, deferred_keeps, withdrawn_keeps, data_keeps, fresh_within, given_leaves, spilled_leaves}
use Rattle.control.proofs.Within.{control_facts, held_fits}
use Rattle.sending.proofs.SendingGood.{SendingWithin, request_made_lem}
use Rattle.receiving.proofs.ReceivingGood.{ReceivingWithin, request_received_lem, window_answered_lem}
use Rattle.unit.proofs.MaximumFacts.{max_facts}

-- ---- the finite part by the bytes held, and the record put together again

abbrev Fits : Control → ℕ → Type 0
Fits c held = within c (leb 1 held) (eqb held 0) ≡ true

fits_of : (e : End) → record_good e ≡ true → Fits e.control e.sending.held
fits_of e g = join (control_good e.control) _ (control_within e g) (facts e g).fits

good_from : (e : End) → Fits e.control e.sending.held → SendingWithin e.sending → ReceivingWithin e.receiving → record_good e ≡ true
good_from e f o i =
    let h = both (control_good e.control) (held_fits e.control (leb 1 e.sending.held) (eqb e.sending.held 0)) f in
    good e (record { control = control_facts e.control h.0; fits = h.1; sending = o; receiving = i })

-- question 5 asks nothing of the expedited lines
pub expedited_apart : (x : Expedited) (e : End) → record_good (with_expedited x e) ≡ record_good e
unfolding record_good
expedited_apart x e = refl

-- ---- record places

place_at_lem :
    (p : Position) (w : Result Position BadLength) (bs : List ℕ)
    → walk p bs ≡ w → is_position p ≡ true → AllBytes bs → is_position (place_or p w) ≡ true
place_at_lem p (Ok q) bs e v b = walk_position p q bs v b e
place_at_lem p (Err bad) bs e v b = v

-- the place walked to over bytes is one
place_good_lem : (p : Position) (bs : List ℕ) → is_position p ≡ true → AllBytes bs → is_position (place_or p (walk p bs)) ≡ true
place_good_lem p bs v b = place_at_lem p (walk p bs) bs refl v b

-- some bytes are held
some_held : (c : Control) (n : ℕ) → 1 ≤ n → within c true false ≡ true → Fits c n
some_held c n h w = rw (le-leb 1 n h, ne_eqb n 0 (λ z. omega arith)) w

-- ---- calls that the end answers by itself

module _ (s : Station) (g : record_good s.end ≡ true) where
  abbrev After : Called → Type 0
  After m = record_good m.end.end ≡ true

  -- another finite part, and all else as it was
  pub control_kept : (c : Control) → ((some none : Bool) → within s.end.control some none ≡ true → within c some none ≡ true)
      → record_good (with_control c s.end) ≡ true
  control_kept c k = good_from (with_control c s.end) (k _ _ (fits_of s.end g)) (facts s.end g).sending (facts s.end g).receiving

  allocates : After (called s Verb.allocate)
  unfolding bid_made request_made
  allocates =
      let e = s.end in
      let o = (facts e g).sending in
      let moves = allocate_moves e.control (control_within e g) in
      allocate_cases After s (λ q x. g) (λ x a w. control_kept (allocated e.control) (moves a).keeps)
      (λ x a w k.
      good_from (bid_made e).end ((moves a).keeps _ _ (fits_of e g)) (request_made_lem e.sending e.sending.held e.sending.given o.held o.given o)
      (facts e g).receiving)

  -- nothing is held while an error is due
  pub none_held : s.end.control.error ≡ true → s.end.sending.held ≡ 0
  none_held y =
      let c = s.end.control in
      let held = s.end.sending.held in
      let n : may_hold c ≡ false = rw y (and-false (holds_send c.state)) in
      eqb-true held 0 (or_right (may_hold c) (eqb held 0) (right (not c.outchain || leb 1 held) _ (facts s.end g).fits) n)

  closes : (f : Follows) (b : Bool) → After (called s (Verb.close f b))
  unfolding request_made
  closes f b =
      let e = s.end in
      let o = (facts e g).sending in
      let c = closing e f in
      let sent = request_made_lem e.sending 0 e.sending.given (omega arith) o.given o in
      close_cases After s f b (λ q x. g) (λ a x. g)
      (λ a y k.
      good_from (sent_end e (error_made e.control))
      (error_made_keeps e.control _ _ y (subst (λ (n : ℕ). Fits e.control n) (none_held y) (fits_of e g))) sent (facts e g).receiving)
      (λ a y k.
      good_from (sent_end e (closed c b e.control))
      (closed_leaves c b e.control (join (holds_send e.control.state) (not e.control.error) a.holding (ap not y.clear)) (control_within e g))
      sent (facts e g).receiving)

  gives : (bytes : List ℕ) → AllBytes bytes → After (called s (Verb.send_data bytes))
  unfolding bytes_kept bytes_spilled request_made
  gives bytes b =
      let e = s.end in
      let o = (facts e g).sending in
      let p = place_good_lem e.sending.given bytes o.given b in
      send_cases After s bytes (λ q x. g)
      (λ a k.
      let l = a.least in
      let h : e.sending.held + length bytes ≤ e.sending.max = leb-true (e.sending.held + length bytes) e.sending.max k in
      good_from (bytes_kept e bytes).end
      (some_held e.control (e.sending.held + length bytes) (omega arith) (given_leaves e.control a.sending (control_within e g)))
      (record { window = o.window; max = o.max; held = h; given = p }) (facts e g).receiving)
      (λ a k c.
      let l = a.least in
      let m = a.most in
      let held = o.held in
      let h : e.sending.max < e.sending.held + length bytes = leb-false (e.sending.held + length bytes) e.sending.max k in
      good_from (bytes_spilled e bytes s.send).end
      (some_held (spilled e.control) (length bytes - gone e) (omega arith) (spilled_leaves e.control a.sending (control_within e g)))
      (request_made_lem e.sending (length bytes - gone e) (given e bytes) (omega arith) p o) (facts e g).receiving)

  reads : (buffer : List ℕ) → AllBytes s.inbox → After (called s (Verb.receive buffer))
  unfolding bytes_read
  reads buffer b =
      let e = s.end in
      let i = (facts e g).receiving in
      let k = read_count s buffer in
      let room = i.room in
      read_cases After s buffer (λ q w x. g)
      (λ a h.
      good_from (bytes_read e k s.inbox).end (fits_of e g) (facts e g).sending
      (record {
        window = i.window;
        max = i.max;
        room = omega arith;
        taken = i.taken;
        read = place_good_lem e.receiving.read (take k s.inbox) i.read (take_bytes k s.inbox b);
      }))
      (λ a h m. control_kept (mark_answered e.control) (mark_moves e.control (control_within e g) m).keeps)

  calls : (v : Verb) → BytesOf v → AllBytes s.inbox → After (called s v)
  unfolding called
  calls Verb.allocate b i = allocates
  calls Verb.confirmed b i =
      let c = s.end.control in
      confirmed_cases After s (λ q x. g) (λ x a. control_kept (confirmation_made c) (confirmed_moves c (control_within s.end g) a).keeps)
  calls Verb.send_error b i =
      let c = s.end.control in
      send_error_cases After s (λ q x. g) (λ x a. control_kept (confirmation_denied c) (denied_moves c (control_within s.end g) a).keeps)
  calls Verb.request_to_send b i = request_cases After s (λ q x. g) (λ a. subst (λ (b : Bool). b ≡ true) (sym (expedited_apart _ s.end)) g)
  calls Verb.send_pacing_response b i =
      let e = s.end in
      pacing_response_cases After s (λ q x. g)
      (λ x a.
      good_from (with_receiving (window_answered e.receiving) e) (fits_of e g) (facts e g).sending (window_answered_lem e.receiving a (facts e g).receiving))
  calls (Verb.send_data bytes) b i = gives bytes b
  calls (Verb.close f c) b i = closes f c
  calls (Verb.defer d) b i =
      let c = s.end.control in
      defer_cases After s d (λ q x. g) (λ a. control_kept (deferred d c) (λ some none. deferred_keeps d c some none a.sending))
  calls Verb.withdraw b i =
      let c = s.end.control in
      withdraw_cases After s (λ q x. g) (λ x a. control_kept (withdrawn c) (λ some none. withdrawn_keeps c some none a))
  calls (Verb.receive buffer) b i = reads buffer i

-- every call leaves a good record
pub good_acts : (s : Station) (v : Verb) → BytesOf v → AllBytes s.inbox → record_good s.end ≡ true → record_good (called s v).end.end ≡ true
good_acts s v b i g = calls s g v b i

-- ---- takes

-- every take leaves a good record
pub good_takes :
    (s : Station) (u : List ℕ) → AllBytes u → record_good s.end ≡ true → record_good (taken s u).end.end ≡ true
unfolding data_joined error_marked bid_answered credit_raised request_received
good_takes s u b g =
    let e = s.end in
    let r = e.receiving in
    let ru = ru_received u in
    let o = (facts e g).sending in
    let i = (facts e g).receiving in
    let fits = fits_of e g in
    take_cases (After s g) s u (λ q w x. g)
    (λ d a w k.
    let most = k.short in
    good_from (data_joined e d (number_in u) ru).end
    (data_keeps d.ends e.control (leb 1 e.sending.held) (eqb e.sending.held 0) (ap not k.away) fits) o
    (request_received_lem r (r.held + length ru) _ k.request.credit (omega arith) (place_good_lem r.taken ru i.taken (drop_bytes RU_START u b)) i))
    (λ p a w k m.
    good_from (bid_answered e (number_in u)).end (m.keeps _ _ fits) o (request_received_lem r r.held r.taken k.credit (omega arith) i.taken i))
    (λ p a w k m.
    good_from (error_marked e).end (m.keeps _ _ fits) o (request_received_lem r r.held r.taken k.credit (omega arith) i.taken i))
    (λ c a w m. control_kept s g c m.keeps)
    (λ a w k.
    good_from (credit_raised e).end fits
    (record { window = answered_good e.sending.window o.window; max = o.max; held = o.held; given = o.given }) i)

-- ---- takes on the expedited line

pub expedited_good : (s : Station) (u : List ℕ) → record_good (taken_expedited s u).end.end ≡ record_good s.end
expedited_good s u =
    expedited_cases (λ (t : Called). record_good t.end.end ≡ record_good s.end) s u (λ q w n. refl) (λ a k. expedited_apart _ s.end)
    (λ a k. expedited_apart _ s.end)

-- ---- openings

fresh_good : (r : Role) (s : Session) (n m k : ℕ) → first_no (opening_questions s n m k) ≡ 0
    → record_good (fresh_end r s.outwindow s.outmax s.inwindow s.inmax k) ≡ true
fresh_good r s n m k e =
    let t = yes (opening_questions s n m k) tt e in
    let inbox = right (leb (s.outmax + 5) m) _ (right (leb s.outmax n) _ (t 3)) in
    good_from (fresh_end r s.outwindow s.outmax s.inwindow s.inmax k) (fresh_within r)
    (record {
      window = fresh_window_lem s.outwindow (left (size_good s.outwindow) (size_good s.inwindow) (t 1));
      max = max_facts s.outmax (left (max_good s.outmax) (max_good s.inmax) (t 2));
      held = omega arith;
      given = refl;
    })
    (record {
      window = fresh_window_lem s.inwindow (right (size_good s.outwindow) (size_good s.inwindow) (t 1));
      max = max_facts s.inmax (right (max_good s.outmax) (max_good s.inmax) (t 2));
      room =
          subst (λ (c : ℕ). 0 + c * s.inmax ≤ k) (sym (fresh_open s.inwindow))
          (let h = leb-true (s.inwindow * s.inmax) k (left (leb (s.inwindow * s.inmax) k) (leb k 65535) inbox) in omega arith);
      taken = refl;
      read = refl;
    })

-- an accepted opening leaves a fresh end
pub opened_is : (s : Session) (n m k : ℕ) → (opened s n m k).answer.refusal ≡ 0
    → (opening_refusal s n m k ≡ 0) × ((opened s n m k).end ≡ fresh_end (role_of s.role) s.outwindow s.outmax s.inwindow s.inmax k)
unfolding opened
opened_is s n m k e =
    let q : ℕ = opening_refusal s n m k in
    split (eqb q 0) (λ y. (eqb-true q 0 y, rw y)) (λ y. absurd (eqb-false q 0 y (rw y at e)))

pub good_opened : (s : Session) (n m k : ℕ) → (opened s n m k).answer.refusal ≡ 0 → record_good (opened s n m k).end ≡ true
unfolding opening_refusal
good_opened s n m k e =
    let o = opened_is s n m k e in
    rw o.1 (fresh_good (role_of s.role) s n m k o.0)

pub stays_good : StaysGood
stays_good =
    record {
      was = λ s v e. accepted_good s v (eq-eqb _ 0 e);
      was_at_take = λ s u e. accepted_take_good s u (eq-eqb _ 0 e);
      was_at_expedited_take = λ s u e. accepted_expedited_good s u (eq-eqb _ 0 e);
      is = λ s v b i e. good_acts s v b i (accepted_good s v (eq-eqb _ 0 e));
      is_after_take = λ s u b e. good_takes s u b (accepted_take_good s u (eq-eqb _ 0 e));
      is_after_expedited_take = expedited_good;
      is_opened = λ s n m k e. good_opened s n m k e;
    }
