-- The parts of a step, put together: the end's call, the unit that joins one line and the unit that goes from the other.
-- Assumes nothing.
use Prim.Native.Nat.{ℕ}
use mathlib.Core.Path.{◌≡◌, refl, sym, ap, ◌∙◌, subst}
use mathlib.Core.Bool.{Bool, true, false, cond}
use mathlib.Core.List.{List, [], ◌∷◌, ◌++◌, append-nil}
use lib.Dec.{leb, eqb}
use lib.ListN.{length}
use Rattle.answers.specs.declared.ReadAnswer.{ReadAnswer}
use Rattle.end.specs.declared.Done.{Done}
use Rattle.joined.specs.Lanes.{Lines, put}
use Rattle.joined.specs.Joined.{Took, take_oldest}
use Rattle.joined.specs.Ends.{Lane, normal, expedited, same_lane, on_lanes, took_on_lanes, acts, takes}
use Rattle.joined.specs.Histories.{Log}
use Rattle.script.specs.declared.Flow.{Flow}
use Rattle.script.specs.declared.Flow.TheVariants as flow
use Rattle.script.specs.declared.Verb.{Verb}
use Rattle.script.specs.declared.Verb.TheVariants.{Allocate, Confirmed, SendError, RequestToSend, SendPacingResponse, SendData, Close, Defer, Withdraw, Receive}
use Rattle.script.specs.declared.Request.{Request}
use Rattle.script.specs.declared.Request.TheVariants.{Call, Take, Offer}
use Rattle.unit_lines.specs.declared.Line.{Line}
use Rattle.bench.specs.declared.Told.{Told}
use Rattle.std.specs.Prelude.{Some, Ok, Err}
use Rattle.bench.specs.declared.Pair.{Pair}
use Rattle.bench.specs.declared.NotMade.{NotMade}
use Rattle.bench.specs.declared.NotMade.TheVariants.{NothingWaiting, Full}
use Rattle.unit_lines.specs.UnitLine.{Holds}
use Rattle.bench.specs.CallMade.{verb_of, is_read, verb_lane, flow_lane, made_on, acted_by, taken_by, taken_on}
use Rattle.bench.specs.Step.{Ways, placed, Bench, bench_of, Held, lane_of, unless_full, outcome_on, outcome_of, reply_to, accepted, Leaves, Steps}
use Rattle.calls.proofs.UnitSizes.{Fits, acts_fit, takes_fit, expedited_fit}
use Rattle.calls.specs.Calls.{Called, called, Reply, Station, units_of}

-- ---- lanes

abbrev pub other : Lane → Lane
other normal = expedited
other expedited = normal

-- what holds of the lines on the lane l and of those on the other holds on every lane
by_lane : (P : Lane → Ways → Type 0) (l : Lane) (here there : Ways) → P l here → P (other l) there → (k : Lane) → P k (placed l here there k)
by_lane P normal here there p q normal = p
by_lane P normal here there p q expedited = q
by_lane P expedited here there p q normal = q
by_lane P expedited here there p q expedited = p

-- and back
of_here : (P : Lane → Ways → Type 0) (l : Lane) (here there : Ways) → ((k : Lane) → P k (placed l here there k)) → P l here
of_here P normal here there p = p normal
of_here P expedited here there p = p expedited

of_there : (P : Lane → Ways → Type 0) (l : Lane) (here there : Ways) → ((k : Lane) → P k (placed l here there k)) → P (other l) there
of_there P normal here there p = p expedited
of_there P expedited here there p = p normal

abbrev Waits : Lines Lane (List ℕ) → Lane → Ways → Type 0
Waits us k w = Holds w.from w.waiting (us k)

abbrev Leads : Lines Lane (List ℕ) → Lane → Ways → Type 0
Leads vs k w = Holds w.to w.far (vs k)

pub waits_on : (l : Lane) (here there : Ways) (us : Lines Lane (List ℕ)) → ((k : Lane) → Waits us k (placed l here there k)) → Holds here.from here.waiting (us l)
waits_on l here there us p = of_here (Waits us) l here there p

-- the lines of the lane l hold what they hold
module _ (l : Lane) (here there : Ways) (us vs : Lines Lane (List ℕ)) (held : Held (placed l here there) us vs) where
  pub waits_here : Holds here.from here.waiting (us l)
  waits_here = waits_on l here there us held.waiting_are

  pub leads_here : Holds here.to here.far (vs l)
  leads_here = of_here (Leads vs) l here there held.far_are

  -- where the line to this end keeps its units
  waiting_kept : (after : Ways) → Holds after.from after.waiting (us l) → (k : Lane) → Waits us k (placed l after there k)
  waiting_kept after h = by_lane (Waits us) l after there h (of_there (Waits us) l here there held.waiting_are)

  -- where units join the line to the other end, and none the line on the other lane
  far_joined : (after : Ways) (sent : Lines Lane (List ℕ)) (units : List (List ℕ)) → sent l ≡ units → sent (other l) ≡ []
      → Holds after.to after.far (vs l ++ units)
      → (k : Lane) → Leads (λ (m : Lane). vs m ++ sent m) k (placed l after there k)
  far_joined after sent units e n h =
      by_lane (Leads (λ (m : Lane). vs m ++ sent m)) l after there
      (subst (λ (x : List (List ℕ)). Holds after.to after.far (vs l ++ x)) (sym e) h)
      (subst (λ (x : List (List ℕ)). Holds there.to there.far (vs (other l) ++ x)) (sym n)
      (subst (λ (x : List (List ℕ)). Holds there.to there.far x) (sym (append-nil (vs (other l))))
      (of_there (Leads vs) l here there held.far_are)))

-- units made for one lane are on it, and on no other
module _ (m : Called) (units : List (List ℕ)) where
  sent_here : (l : Lane) → m.sent ≡ made_on normal l units → m.expedited ≡ made_on expedited l units → (on_lanes m).sent l ≡ units
  sent_here normal e x = e
  sent_here expedited e x = x

  sent_there : (l : Lane) → m.sent ≡ made_on normal l units → m.expedited ≡ made_on expedited l units → (on_lanes m).sent (other l) ≡ []
  sent_there normal e x = x
  sent_there expedited e x = e

-- ---- no call is made

-- the line's own count is the number of units
pub counted : (l : Line) (cells : List ℕ) (vs : List (List ℕ)) (t : Bool) → Holds l cells vs → leb 512 l.units ≡ t → leb 512 (length vs) ≡ t
counted l cells vs t h e = ap (leb 512) (sym h.units_are) ∙ e

module _ (q : Request) (given : List ℕ) (b : Bench) (es : Log) (us vs : Lines Lane (List ℕ)) where
  unmade : (w : NotMade) → outcome_of q us vs ≡ Some w → Steps q given b (Err w) b es us vs
  unmade w e = record { outcome_is = sym e; answered = tt; unread = λ z. refl; unchanged = refl }

  pub full_step : leb 512 (length (vs (lane_of q))) ≡ true → outcome_of q us vs ≡ unless_full (vs (lane_of q)) → Steps q given b (Err Full) b es us vs
  full_step f u = unmade Full (u ∙ rw f)

  pub nothing_step : outcome_of q us vs ≡ Some NothingWaiting → Steps q given b (Err NothingWaiting) b es us vs
  nothing_step e = unmade NothingWaiting e

-- ---- a call that the end answers by itself

module _ (v : Verb) (given : List ℕ) (s : Station) (before : List ℕ) (here there : Ways) (d : Done ReadAnswer) (send unit inbox buffer : List ℕ)
    (e : acted_by v d send unit inbox buffer ≡ called s (verb_of v given before)) where
  pub call_fits : Fits d.answer.answer.unit unit
  call_fits =
      subst (λ (m : Called). Fits m.answer.answer.answer.unit m.end.unit) (sym e) (acts_fit s (verb_of v given before))

  pub call_step : (w : Pair) (to : Line) (far : List ℕ) (es : Log) (us vs : Lines Lane (List ℕ))
      → (is_read v ≡ false → buffer ≡ before)
      → Held (placed (verb_lane v) here there) us vs
      → Holds to far (vs (verb_lane v) ++ units_of d.answer.answer.unit unit)
      → leb 512 (length (vs (verb_lane v))) ≡ false
      → Steps (Call v) given (record { station = s; buffer = before; lines = placed (verb_lane v) here there })
      (Ok (record { told = record { answer = d.answer; signalled = false; end = d.end }; lines = w }))
      (bench_of d.end send unit inbox buffer (placed (verb_lane v) (record { from = here.from; waiting = here.waiting; to = to; far = far }) there)) es us vs
  unfolding acts
  call_step w to far es us vs k held hf n =
      let l : Lane = verb_lane v in
      let m : Called = called s (verb_of v given before) in
      let after : Ways = record { from = here.from; waiting = here.waiting; to = to; far = far } in
      let units : List (List ℕ) = units_of d.answer.answer.unit unit in
      let ns : m.sent ≡ made_on normal l units = ap (λ (x : Called). x.sent) (sym e) in
      let xs : m.expedited ≡ made_on expedited l units = ap (λ (x : Called). x.expedited) (sym e) in
      record {
        outcome_is = rw n;
        answered =
            record {
              station_is = ap (λ (x : Called). x.end) e;
              waiting_are = waiting_kept l here there us vs held after (waits_here l here there us vs held);
              far_are = far_joined l here there us vs held after (on_lanes m).sent units (sent_here m units l ns xs) (sent_there m units l ns xs) hf;
              answer_is = ap (λ (x : Called). x.answer) e;
            };
        unread = k;
        unchanged = tt;
      }

-- ---- a unit that is offered

-- a take of the joined ends, by its lane
took_is : (f : Flow) (s : Station) (u : List ℕ) → takes (flow_lane f) s u ≡ took_on_lanes (taken_on f s u)
unfolding takes
took_is flow.Normal s u = refl
took_is flow.Expedited s u = refl

take_fits : (f : Flow) (s : Station) (u : List ℕ) → Fits (taken_on f s u).answer.answer.answer.unit (taken_on f s u).end.unit
take_fits flow.Normal s u = takes_fit s u
take_fits flow.Expedited s u = expedited_fit s u

module _ (f : Flow) (u : List ℕ) (s : Station) (buffer : List ℕ) (here there : Ways) (t : Told) (unit inbox : List ℕ)
    (e : taken_by f t s.send unit inbox ≡ taken_on f s u) where
  pub offer_fits : Fits t.answer.answer.unit unit
  offer_fits = subst (λ (m : Called). Fits m.answer.answer.answer.unit m.end.unit) (sym e) (take_fits f s u)

  took_by : took_on_lanes (taken_by f t s.send unit inbox) ≡ takes (flow_lane f) s u
  took_by = ap took_on_lanes e ∙ sym (took_is f s u)

  pub offer_step : (w : Pair) (to : Line) (far : List ℕ) (es : Log) (us vs : Lines Lane (List ℕ))
      → Held (placed (flow_lane f) here there) us vs
      → Holds to far (vs (flow_lane f) ++ units_of t.answer.answer.unit unit)
      → leb 512 (length (vs (flow_lane f))) ≡ false
      → Steps (Offer f) u (record { station = s; buffer = buffer; lines = placed (flow_lane f) here there })
      (Ok (record { told = t; lines = w }))
      (bench_of t.end s.send unit inbox buffer (placed (flow_lane f) (record { from = here.from; waiting = here.waiting; to = to; far = far }) there)) es us vs
  offer_step w to far es us vs held hf n =
      let l : Lane = flow_lane f in
      let m : Called = taken_by f t s.send unit inbox in
      let after : Ways = record { from = here.from; waiting = here.waiting; to = to; far = far } in
      let units : List (List ℕ) = units_of t.answer.answer.unit unit in
      record {
        outcome_is = rw n;
        answered =
            record {
              station_is = ap (λ (x : Took Lane Station Reply (List ℕ)). x.end) took_by;
              waiting_are = waiting_kept l here there us vs held after (waits_here l here there us vs held);
              far_are =
                  subst (λ (x : Took Lane Station Reply (List ℕ)). (k : Lane) → Leads (λ (j : Lane). vs j ++ x.sent j) k (placed l after there k)) took_by
                  (far_joined l here there us vs held after (took_on_lanes m).sent units (sent_here m units l refl refl) (sent_there m units l refl refl) hf);
              answer_is = ap (λ (x : Took Lane Station Reply (List ℕ)). x.answer) took_by;
            };
        unread = λ z. refl;
        unchanged = tt;
      }

-- ---- the oldest unit, taken as one that is offered

-- the unit goes where the take is accepted
removed_is : (f : Flow) (s : Station) (u : List ℕ) (a : ReadAnswer) (signalled : Bool)
    → reply_to (Offer f) a signalled [] ≡ (takes (flow_lane f) s u).answer
    → accepted a.answer.refusal ≡ (takes (flow_lane f) s u).removed
unfolding takes
removed_is flow.Normal s u a signalled e = ap (λ (r : Reply). eqb r.answer.answer.refusal 0) e
removed_is flow.Expedited s u a signalled e = ap (λ (r : Reply). eqb r.answer.answer.refusal 0) e

-- the units on a lane are those that were put there, and every other lane keeps its own
put_here : (l : Lane) (xs : List (List ℕ)) (us : Lines Lane (List ℕ)) → put same_lane l xs us l ≡ xs
put_here normal xs us = refl
put_here expedited xs us = refl

put_there : (l : Lane) (xs : List (List ℕ)) (us : Lines Lane (List ℕ)) → put same_lane l xs us (other l) ≡ us (other l)
put_there normal xs us = refl
put_there expedited xs us = refl

-- from the step that offers the oldest unit u; `from` and `waiting` are the line afterwards
module _ (f : Flow) (given u : List ℕ) (b : Bench) (t : Told) (s : Station) (buffer : List ℕ) (here there : Ways)
    (from : Line) (waiting : List ℕ) (es : Log) (us vs : Lines Lane (List ℕ)) (rest : List (List ℕ)) where
  abbrev b₁ : Bench
  b₁ = record { station = s; buffer = buffer; lines = placed (flow_lane f) here there }

  abbrev after : Ways
  after = record { from = from; waiting = waiting; to = here.to; far = here.far }

  abbrev b₂ : Bench
  b₂ = record { station = s; buffer = buffer; lines = placed (flow_lane f) after there }

  abbrev goes : Bool
  goes = accepted t.answer.answer.refusal

  -- the lines afterwards
  line_left : (xs : List (List ℕ)) → Holds from waiting xs
      → ((k : Lane) → Waits us k (placed (flow_lane f) here there k)) → (k : Lane) → Waits (put same_lane (flow_lane f) xs us) k (placed (flow_lane f) after there k)
  line_left xs h p =
      let l : Lane = flow_lane f in
      by_lane (Waits (put same_lane l xs us)) l after there
      (subst (λ (x : List (List ℕ)). Holds from waiting x) (sym (put_here l xs us)) h)
      (subst (λ (x : List (List ℕ)). Holds there.from there.waiting x) (sym (put_there l xs us)) (of_there (Waits us) l here there p))

  far_left : (sent : Lines Lane (List ℕ)) → ((k : Lane) → Leads (λ (m : Lane). vs m ++ sent m) k (placed (flow_lane f) here there k))
      → (k : Lane) → Leads (λ (m : Lane). vs m ++ sent m) k (placed (flow_lane f) after there k)
  far_left sent p =
      let l : Lane = flow_lane f in
      let P : Lane → Ways → Type 0 = Leads (λ (m : Lane). vs m ++ sent m) in
      by_lane P l after there (of_here P l here there p) (of_there P l here there p)

  pub take_step : (v : List ℕ) (w₁ w : Pair) → us (flow_lane f) ≡ u ∷ rest → v ≡ u
      → Steps (Offer f) v b (Ok (record { told = t; lines = w₁ })) b₁ es us vs
      → Holds from waiting (cond goes rest (u ∷ rest))
      → Steps (Take f) given b (Ok (record { told = t; lines = w })) b₂ es us vs
  take_step v w₁ w eu ev st₀ h =
      let st : Steps (Offer f) u b (Ok (record { told = t; lines = w₁ })) b₁ es us vs =
      subst (λ (x : List ℕ). Steps (Offer f) x b (Ok (record { told = t; lines = w₁ })) b₁ es us vs) ev st₀ in
      let left = st.answered in
      record {
        outcome_is = st.outcome_is ∙ sym (ap (λ (x : List (List ℕ)). outcome_on (Take f) x (vs (flow_lane f))) eu);
        answered =
            subst
            (λ (x : List (List ℕ)). Leaves b₂ (reply_to (Take f) t.answer t.signalled buffer) vs (take_oldest same_lane acts takes b.station es us (flow_lane f) x)) (sym eu)
            (record {
              station_is = left.station_is;
              waiting_are =
                  line_left (cond (takes (flow_lane f) b.station u).removed rest (u ∷ rest))
                  (subst (λ (g : Bool). Holds from waiting (cond g rest (u ∷ rest)))
                  (removed_is f b.station u t.answer t.signalled left.answer_is) h)
                  left.waiting_are;
              far_are = far_left (takes (flow_lane f) b.station u).sent left.far_are;
              answer_is = left.answer_is;
            });
        unread = st.unread;
        unchanged = tt;
      }

-- where the offer is not made, nor is the take
pub not_taken : (f : Flow) (given v u : List ℕ) (b left : Bench) (w : NotMade) (es : Log) (us vs : Lines Lane (List ℕ)) (rest : List (List ℕ))
    → us (flow_lane f) ≡ u ∷ rest → Steps (Offer f) v b (Err w) left es us vs → Steps (Take f) given b (Err w) left es us vs
not_taken f given v u b left w es us vs rest eu st =
    record {
      outcome_is = st.outcome_is ∙ sym (ap (λ (x : List (List ℕ)). outcome_on (Take f) x (vs (flow_lane f))) eu);
      answered = tt;
      unread = st.unread;
      unchanged = st.unchanged;
    }

-- one call alone makes an expedited unit
pub other_lane : (v : Verb) → (v ≡ RequestToSend → ⊥) → normal ≡ verb_lane v
other_lane Allocate n = refl
other_lane Confirmed n = refl
other_lane SendError n = refl
other_lane RequestToSend n = absurd (n refl)
other_lane SendPacingResponse n = refl
other_lane SendData n = refl
other_lane (Close f b) n = refl
other_lane (Defer what) n = refl
other_lane Withdraw n = refl
other_lane Receive n = refl
