-- The oldest unit of a line is never refused as a breach of protocol: every question from 20 on is answered yes.
-- Assumes nothing.
use Rattle.joined.proofs.JoinedWords.{ℕ, eqb, leb, length, Bool, true, false, not, ◌&&◌, List, ◌∷◌, ◌≡◌, refl, ap, ◌∙◌, left, both, is_first, header_good}
use Rattle.joined.proofs.JoinedWords.{Header, ru_good, RU_START, number_in, header_in, has_credit, paced, agree, is_nothing, Role, next_number, header_received}
use Rattle.joined.proofs.JoinedWords.{ru_received, receive_unit_refusal, record_good, facts, Station, sort_of, is_pacing, bit_of, is_breach}
use Rattle.header.specs.declared.Header.TheVariants.{Data, Bid, ErrorDescription, PositiveBidResponse, NegativeBidResponse, Confirmation}
use Rattle.header.specs.declared.Header.TheVariants.{NegativeConfirmation, PacingResponse}
use Rattle.answers.specs.FirstNo.{first_no}
use Rattle.end.specs.Record.{inbox_lent, unit_lent}
use Rattle.receiving.specs.Receiving.{pacing_fits}
use Rattle.end.specs.ReceiveUnit.{kind_questions}
use Rattle.bools.proofs.Tests.{join}
use Rattle.pacing.proofs.Windows.{credit_there}
use Rattle.joined.proofs.FloorsAndBids.{Order, order_fits_data, order_fits_bid, order_fits_positive_response, order_fits_negative_response}
use Rattle.joined.proofs.FloorsAndBids.{order_fits_confirmation, order_fits_denial, order_fits_error}
use Rattle.joined.proofs.JoinedWords.{is_whole}
use Rattle.control.proofs.Agree.{agrees}
use Rattle.joined.proofs.PacingFlags.{paces_owed, paces_unanswered}
use Rattle.joined.proofs.PacingFlagsKept.{PacesOf}
use Rattle.joined.proofs.RequestStream.{Outside, inside_of, fits, Stream, Heads, stream_take}

module _ (r : Role) (s f : Station) (o : Outside) (u : List ℕ) (line back : List (List ℕ))
    (order : Order r s.end f.end line (u ∷ back))
    (stream : Stream o (inside_of s) (u ∷ back))
    (flags : PacesOf s f line (u ∷ back)) where
  heads : Heads o (inside_of s) u back
  heads = stream_take stream

  -- 27: there is credit, and the bit is right
  pacing_yes : (b : Bool) → bit_of (sort_of (header_received u)) ≡ b → record_good s.end ≡ true → agree b (paced s.end.receiving.window) ≡ true
      → pacing_fits s.end.receiving b ≡ true
  pacing_yes b e g a =
      let w = s.end.receiving.window in
      join (has_credit w) (agree b (paced w)) (credit_there w (facts s.end g).receiving.window (λ p. paces_owed flags (e ∙ agrees b (paced w) a ∙ p))) a

  kind_yes : (h : Header) → header_received u ≡ h → record_good s.end ≡ true → is_nothing s.end.control.mark ≡ true
      → fits s.end.receiving.max (inside_of s).books h (number_in u) (ru_received u) ≡ true
      → first_no (kind_questions s.end h (number_in u) (ru_received u)) ≡ 0
  kind_yes (Data d) e g m t =
      let r = s.end.receiving in
      let n = number_in u in
      let t0 = both (ru_good r.max (Data d) (ru_received u)) _ t in
      let t1 = both (agree d.pacing (eqb r.window.position 0)) _ t0.1 in
      let t2 = both (eqb n (next_number r.number)) _ t1.1 in
      let t3 = both (agree (is_first d.begins) (not s.end.control.inchain)) _ t2.1 in
      let fit = order_fits_data order d m e in
      rw (t0.0, pacing_yes d.pacing (ap (λ (h : Header). bit_of (sort_of h)) e) g t1.0, t2.0, t3.0, fit.0, fit.1, t3.1)
  kind_yes (Bid p) e g m t =
      let r = s.end.receiving in
      let n = number_in u in
      let t0 = both (ru_good r.max (Bid p) (ru_received u)) _ t in
      let t1 = both (agree p (eqb r.window.position 0)) _ t0.1 in
      let t2 = both (eqb n (next_number r.number)) (agree true (not s.end.control.inchain)) t1.1 in
      rw (t0.0, pacing_yes p (ap (λ (h : Header). bit_of (sort_of h)) e) g t1.0, t2.0, t2.1, order_fits_bid order p e)
  kind_yes (ErrorDescription p) e g m t =
      let r = s.end.receiving in
      let n = number_in u in
      let t0 = both (ru_good r.max (ErrorDescription p) (ru_received u)) _ t in
      let t1 = both (agree p (eqb r.window.position 0)) _ t0.1 in
      let t2 = both (eqb n (next_number r.number)) _ t1.1 in
      let t3 = both (agree true (not s.end.control.inchain)) (is_whole r.taken) t2.1 in
      let fit = order_fits_error order p m e in
      rw (t0.0, pacing_yes p (ap (λ (h : Header). bit_of (sort_of h)) e) g t1.0, t2.0, t3.0, fit.0, fit.1, t3.1)
  kind_yes PositiveBidResponse e g m t =
      rw (left (ru_good s.end.receiving.max PositiveBidResponse (ru_received u)) true t, order_fits_positive_response order m e)
  kind_yes NegativeBidResponse e g m t =
      rw (left (ru_good s.end.receiving.max NegativeBidResponse (ru_received u)) true t, order_fits_negative_response order e)
  kind_yes Confirmation e g m t = rw (left (ru_good s.end.receiving.max Confirmation (ru_received u)) true t, order_fits_confirmation order m e)
  kind_yes NegativeConfirmation e g m t =
      rw (left (ru_good s.end.receiving.max NegativeConfirmation (ru_received u)) true t, order_fits_denial order m e)
  kind_yes PacingResponse e g m t =
      let t0 = both (ru_good s.end.receiving.max PacingResponse (ru_received u)) (eqb (number_in u) 0) t in
      rw (t0.0, paces_unanswered flags (ap (λ (h : Header). is_pacing (sort_of h)) e), t0.1)

  head_row : (a b c d e : Bool) (rest : List (Bool × ℕ))
      → (b ≡ true → c ≡ true → (d ≡ true) × (e ≡ true) × (first_no rest ≡ 0))
      → is_breach (first_no ((a, 4) ∷ (b, 5) ∷ (c, 13) ∷ (d, 20) ∷ (e, 21) ∷ rest)) ≡ false
  head_row false b c d e rest h = refl
  head_row true false c d e rest h = refl
  head_row true true false d e rest h = refl
  head_row true true true d e rest h =
      let q = h refl refl in
      rw (q.0, q.1, q.2)

  pub no_breach : (q : ℕ) → q ≡ receive_unit_refusal s.end u (length s.inbox) (length s.unit) → is_breach q ≡ false
  unfolding receive_unit_refusal
  no_breach q e =
      let en = s.end in
      ap is_breach e
      ∙ head_row (inbox_lent en (length s.inbox) && unit_lent en (length s.unit)) (record_good en) (is_nothing en.control.mark)
      (leb RU_START (length u)) (header_good (header_in u)) (kind_questions en (header_received u) (number_in u) (ru_received u))
      (λ g m. (heads.long, heads.header, kind_yes (header_received u) refl g m heads.fitting))
