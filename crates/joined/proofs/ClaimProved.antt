-- The claim over every list of calls, composed from its parts.
-- Assumes nothing.
use Rattle.joined.proofs.JoinedWords.{ℕ, length, List, [], ◌∷◌, ◌++◌, ◌≡◌, refl, sym, ap, ◌∙◌, subst, arith, then_walk, credit, Role, FirstSpeaker}
use Prim.Native.Nat.{◌+◌, ◌*◌}
use Rattle.joined.proofs.JoinedWords.{Bidder, Session, fresh_end, Station, Reply, Verb, opened_is, Pair, Lane, normal, acts, takes, same_lane}
use Rattle.joined.proofs.JoinedWords.{Buffers, OpeningAccepted, opened_with, opened_both, bytes_in_send_buffer, Log, bytes_accepted, bytes_on_line}
use Rattle.joined.proofs.JoinedWords.{bytes_in_inbox, requests_made, pacing_responses_taken, breaches, bad_reads, CompleteIsRight, MoreIsRight, NoneCrosses}
use Rattle.joined.proofs.JoinedWords.{At, Lines, append-nil, cond, Expedited, with_expedited, expedited, on_expedited, expedited_cases, Took, took, join, put}
use Rattle.joined.proofs.JoinedWords.{is_breach, accepted, false}
use Rattle.joined.specs.Lanes.{none}
use Rattle.answers.specs.declared.ExpeditedAnswer.{ExpeditedAnswer}
use Rattle.calls.specs.Calls.{expedited_reply}
use Rattle.joined.proofs.CallsOnLanes.{LanedTake}
use Rattle.joined.proofs.Courses.{halves_flip}
use Rattle.joined.proofs.HalvesKept.{HalvesOf, halves_acts, halves_takes, halves_takes_expedited, halves_opened, no_expedited_breach}
use Rattle.logical_record.specs.Records.{whole_records, tables_from}
use Rattle.logical_record.proofs.WholeRecords.{whole_records_append}
use Rattle.logical_record.proofs.WholeTables.{tables_append}
use Rattle.control.specs.StateTests.{role_of}
use Rattle.joined.specs.Ends.{JoinedOpenings}
use Rattle.joined.specs.Histories.{bytes_read}
use Rattle.joined.specs.Claim.{JoinedEnd, after, BytesConserved, Joint, Claim, RecordsArrive, TablesArrive, ReadsRight, TheRecords}
use Rattle.joined.proofs.Confluence.{confluent}
use Rattle.joined.proofs.EveryList.{Fact, Keeps, AfterAct, AfterTake, Ways, run_ways}
use Rattle.calls.proofs.WindowSizes.{size_of, size_acts, size_takes}
use Rattle.joined.proofs.TwoLines.{other}
use Rattle.joined.proofs.FloorsAndBids.{Order, order_flip, order_apart, order_fresh, not_both}
use Rattle.joined.proofs.FloorsAndBidsKept.{order_acts, order_takes}
use Rattle.joined.proofs.RequestStream.{outside_of, inside_of, Stream, stream_fresh}
use Rattle.joined.proofs.RequestStreamKept.{stream_acts, stream_takes, stream_in_acts, stream_in_takes}
use Rattle.joined.proofs.PacingFlags.{paces_flip, paces_fresh}
use Rattle.joined.proofs.PacingFlagsKept.{PacesOf, paces_acts, paces_takes}
use Rattle.joined.proofs.BytesInOrder.{Carried}
use Rattle.joined.proofs.BytesInOrderKept.{bytes_acts, bytes_takes, bytes_in_acts, bytes_in_takes}
use Rattle.joined.proofs.OneEnd.{values_of, Local, local_took_expedited}
use Rattle.joined.proofs.OneEndKept.{local_acts, local_takes}
use Rattle.joined.proofs.NoBreach.{no_breach}

-- one way, from e to f: numbers, chains and places, and the bytes
record OneWay (e f : Station) (xs ys : Log) (line : List (List ℕ)) : Type 0 where
  stream : Stream (outside_of e) (inside_of f) line
  carried : Carried (bytes_accepted xs) (bytes_in_send_buffer e) line (bytes_read ys) (bytes_in_inbox f)

-- an end by itself, with the window v
record Here (v : ℕ) (e : Station) (xs : Log) : Type 0 where
  local : Local (values_of e) xs
  size : size_of e ≡ v

-- What every call keeps. e has the role r; v is the window from e to f, and w that from f to e; `line` waits for f, `back` for e.
record Inv (r : Role) (v w : ℕ) (e : Station) (xs : Log) (line back : List (List ℕ)) (f : Station) (ys : Log) : Type 0 where
  order : Order r e.end f.end line back
  paces : PacesOf e f line back
  out : OneWay e f xs ys line
  into : OneWay f e ys xs back
  here : Here v e xs
  there : Here w f ys

-- the same of the lines: what it says is of the normal lane; and the expedited half beside it
abbrev Held : Role → ℕ → ℕ → Fact Lane Station Verb Reply (List ℕ)
Held r v w e xs line back f ys = Inv r v w e xs (line normal) (back normal) f ys × HalvesOf e f (line expedited) (back expedited)

-- seen from the other end too
both :
    {r : Role} {v w : ℕ} {e f : Station} {xs ys : Log} {line back : List (List ℕ)}
    → Inv r v w e xs line back f ys
    → Inv r v w e xs line back f ys × Inv (other r) w v f ys back line e xs
both i = (
  i,
  record { order = order_flip i.order; paces = paces_flip i.paces; out = i.into; into = i.out; here = i.there; there = i.here },
)

size_acted : (e : Station) (c : Verb) → size_of (acts e c).end ≡ size_of e
unfolding acts
size_acted e c = size_acts e c

size_took : (e : Station) (u : List ℕ) → size_of (takes normal e u).end ≡ size_of e
unfolding takes
size_took e u = size_takes e u

module _ (r : Role) (v w : ℕ) where
  -- both halves, seen from both ends
  held_both :
      (v' w' : ℕ) (e : Station) (xs : Log) (line back : Lines Lane (List ℕ)) (f : Station) (ys : Log)
      → HalvesOf e f (line expedited) (back expedited)
      → Inv r v' w' e xs (line normal) (back normal) f ys
      → Held r v' w' e xs line back f ys × Held (other r) w' v' f ys back line e xs
  held_both v' w' e xs line back f ys h i = let j = both i in ((j.0, h), (j.1, halves_flip h))

  act_kept :
      (e : Station) (xs : Log) (line back : Lines Lane (List ℕ)) (f : Station) (ys : Log) (c : Verb)
      → Held r v w e xs line back f ys
      → AfterAct same_lane acts takes (Held r v w) (Held (other r) w v) xs line back f ys c (acts e c)
  act_kept e xs line back f ys c held =
      let us = line normal in
      let vs = back normal in
      let i = held.0 in
      held_both _ _ (acts e c).end _ (join line (acts e c).sent) back f ys (halves_acts e f (line expedited) (back expedited) held.1 c)
      (record {
        order = order_acts r e f.end us vs i.order c;
        paces = paces_acts e f us vs i.paces c;
        out =
            record {
              stream = stream_acts e (inside_of f) us i.out.stream i.here.local.whole c;
              carried = bytes_acts e xs us (bytes_read ys) (bytes_in_inbox f) i.out.carried c;
            };
        into =
            record {
              stream = stream_in_acts e (outside_of f) vs i.into.stream c;
              carried = bytes_in_acts e xs (bytes_accepted ys) (bytes_in_send_buffer f) vs i.into.carried c;
            };
        here = record { local = local_acts e xs i.here.local c; size = size_acted e c ∙ i.here.size };
        there = i.there;
      })

  -- u waits on the normal lane, before vs; us wait for the other end
  take_kept :
      (e : Station) (xs : Log) (line back : Lines Lane (List ℕ)) (f : Station) (ys : Log) (u : List ℕ) (vs : List (List ℕ))
      → Inv r v w e xs (line normal) (u ∷ vs) f ys
      → HalvesOf e f (line expedited) (back expedited)
      → AfterTake same_lane acts takes (Held r v w) (Held (other r) w v) xs line back f ys normal u vs (takes normal e u)
  take_kept e xs line back f ys u vs i h =
      let us = line normal in
      let t = takes normal e u in
      held_both _ _ t.end _ (join line t.sent) (put same_lane normal (cond t.removed vs (u ∷ vs)) back) f ys
      (halves_takes e f (line expedited) (back expedited) h u)
      (record {
        order = order_takes r e f.end u us vs i.order;
        paces = paces_takes e f us vs u i.paces;
        out =
            record {
              stream = stream_takes e (inside_of f) us i.out.stream u;
              carried = bytes_takes e xs us (bytes_read ys) (bytes_in_inbox f) i.out.carried u;
            };
        into =
            record {
              stream = stream_in_takes e (outside_of f) vs u i.into.stream;
              carried = bytes_in_takes e xs (bytes_accepted ys) (bytes_in_send_buffer f) vs u i.into.carried;
            };
        here =
            record {
              local = local_takes e xs u i.here.local (no_breach r e f (outside_of f) u us vs i.order i.into.stream i.paces);
              size = size_took e u ∙ i.here.size;
            };
        there = i.there;
      })

  -- a take on the expedited lane leaves the normal half: it is told of in the log, and there it is no breach
  apart :
      (e : Station) (xs : Log) (line back : List (List ℕ)) (f : Station) (ys : Log) (x : Expedited) (cells u : List ℕ) (a : ExpeditedAnswer)
      (us : List (List ℕ))
      → is_breach a.answer.refusal ≡ false
      → Inv r v w e xs line back f ys
      → Inv r v w (record { end = with_expedited x e.end; send = e.send; unit = cells; inbox = e.inbox })
      (took expedited u (expedited_reply a) (on_expedited us) ∷ xs) (line ++ []) back f ys
  unfolding bytes_accepted bytes_read
  apart e xs line back f ys x cells u a us q i =
      record {
        order = rw (append-nil line) (order_apart i.order);
        paces = rw (append-nil line) i.paces;
        out = record { stream = rw (append-nil line) i.out.stream; carried = rw (append-nil line) i.out.carried };
        into = record { stream = i.into.stream; carried = i.into.carried };
        here = record { local = local_took_expedited u a (on_expedited us) i.here.local q refl; size = i.here.size };
        there = i.there;
      }

  -- u waits on the expedited lane, before vs
  module _ (e : Station) (xs : Log) (line back : Lines Lane (List ℕ)) (f : Station) (ys : Log) (u : List ℕ) (vs : List (List ℕ))
      (i : Inv r v w e xs (line normal) (back normal) f ys) (h : HalvesOf e f (line expedited) (u ∷ vs)) where
    abbrev Left : Took Lane Station Reply (List ℕ) → Type 0
    Left t = Inv r v w t.end (took expedited u t.answer t.sent ∷ xs) (line normal ++ t.sent normal) (back normal) f ys

    taken_apart : Left (takes expedited e u)
    unfolding takes
    taken_apart =
        expedited_cases (LanedTake Left) e u
        (λ q z n.
        apart e xs (line normal) (back normal) f ys e.end.expedited e.unit u _ []
        (subst (λ (k : ℕ). is_breach k ≡ false) (sym z) (no_expedited_breach e f (line expedited) u vs h)) i)
        (λ a k. apart e xs (line normal) (back normal) f ys _ _ u _ _ refl i)
        (λ a k. apart e xs (line normal) (back normal) f ys _ e.unit u (record { answer = accepted 0; signalled = false }) [] refl i)

    expedited_kept : AfterTake same_lane acts takes (Held r v w) (Held (other r) w v) xs line back f ys expedited u vs (takes expedited e u)
    expedited_kept =
        let t = takes expedited e u in
        held_both _ _ t.end _ (join line t.sent) (put same_lane expedited (cond t.removed vs (u ∷ vs)) back) f ys
        (halves_takes_expedited e f (line expedited) u vs h) taken_apart

  -- a take, by its lane
  lane_kept :
      (e : Station) (xs : Log) (line back : Lines Lane (List ℕ)) (f : Station) (ys : Log) (l : Lane) (u : List ℕ) (us : List (List ℕ))
      → back l ≡ u ∷ us
      → Held r v w e xs line back f ys
      → AfterTake same_lane acts takes (Held r v w) (Held (other r) w v) xs line back f ys l u us (takes l e u)
  lane_kept e xs line back f ys normal u us p i =
      take_kept e xs line back f ys u us (subst (λ (vs : List (List ℕ)). Inv r v w e xs (line normal) vs f ys) p i.0) i.1
  lane_kept e xs line back f ys expedited u us p i =
      expedited_kept e xs line back f ys u us i.0 (subst (λ (vs : List (List ℕ)). HalvesOf e f (line expedited) vs) p i.1)

  keeps : Keeps same_lane acts takes (Held r v w) (Held (other r) w v)
  keeps =
      record {
        act_keeps = λ e xs line back f ys c d h. act_kept e xs line back f ys c d;
        take_keeps = λ e xs line back f ys l u us p d h. lane_kept e xs line back f ys l u us p d;
      }

-- ---- openings

-- a fresh end with its buffers
abbrev station : Role → Session → Buffers → Station
station r s b =
    record {
      end = fresh_end r s.outwindow s.outmax s.inwindow s.inmax (length b.inbox);
      send = b.send;
      unit = b.unit;
      inbox = b.inbox;
    }

opened_as : (r : Role) (s : Session) (b : Buffers) → role_of s.role ≡ r → OpeningAccepted s b → (opened_with s b).end ≡ station r s b
opened_as r s b e a = rw ((opened_is s (length b.send) (length b.unit) (length b.inbox) a).1, e)

local_fresh : (r : Role) (s : Session) (b : Buffers) → Local (values_of (station r s b)) []
unfolding then_walk bytes_accepted bytes_read requests_made pacing_responses_taken CompleteIsRight MoreIsRight NoneCrosses bad_reads breaches credit
local_fresh r s b =
    record {
      given = refl;
      whole = λ n. refl;
      read = refl;
      inbox = refl;
      counted = omega arith;
      complete = tt;
      more = tt;
      apart = tt;
      never_8 = refl;
      no_breach = refl;
    }

carried_fresh : (r q : Role) (s t : Session) (b c : Buffers)
    → Carried (bytes_accepted []) (bytes_in_send_buffer (station r s b)) [] (bytes_read []) (bytes_in_inbox (station q t c))
unfolding bytes_accepted bytes_read bytes_on_line
carried_fresh r q s t b c = record { bytes = refl }

fresh_kept : (s t : Session) (b c : Buffers)
    → s.outwindow ≡ t.inwindow → t.outwindow ≡ s.inwindow → s.outmax ≡ t.inmax → t.outmax ≡ s.inmax
    → Inv FirstSpeaker s.outwindow t.outwindow (station FirstSpeaker s b) [] [] [] (station Bidder t c) []
fresh_kept s t b c e f g h =
    record {
      order =
          order_fresh s.outwindow s.outmax s.inwindow s.inmax (length b.inbox) t.outwindow t.outmax t.inwindow t.inmax
          (length c.inbox);
      paces = paces_fresh;
      out =
          record {
            stream = stream_fresh (outside_of (station FirstSpeaker s b)) (inside_of (station Bidder t c)) e g refl refl;
            carried = carried_fresh FirstSpeaker Bidder s t b c;
          };
      into =
          record {
            stream = stream_fresh (outside_of (station Bidder t c)) (inside_of (station FirstSpeaker s b)) f h refl refl;
            carried = carried_fresh Bidder FirstSpeaker t s c b;
          };
      here = record { local = local_fresh FirstSpeaker s b; size = refl };
      there = record { local = local_fresh Bidder t c; size = refl };
    }

-- ---- every list

opened_kept : (s t : Session) (b c : Buffers) → JoinedOpenings s t b c
    → Ways same_lane acts takes (Held FirstSpeaker s.outwindow t.outwindow) (Held Bidder t.outwindow s.outwindow) (opened_both s t b c)
opened_kept s t b c j =
    let x = opened_as FirstSpeaker s b (ap role_of j.speaker) j.one in
    let y = opened_as Bidder t c (ap role_of j.bidder) j.two in
    let i =
    subst (λ (e : Station). Inv FirstSpeaker s.outwindow t.outwindow e [] [] [] (opened_with t c).end []) (sym x)
    (subst (λ (e : Station). Inv FirstSpeaker s.outwindow t.outwindow (station FirstSpeaker s b) [] [] [] e []) (sym y)
    (fresh_kept s t b c j.window_out j.window_back j.max_out j.max_back)) in
    held_both FirstSpeaker s.outwindow t.outwindow s.outwindow t.outwindow (opened_with s b).end [] none none (opened_with t c).end []
    (halves_opened s t b c j.one j.two) i

every_list : (s t : Session) (b c : Buffers) (l : List (At Lane Verb)) → JoinedOpenings s t b c
    → (let p = after s t b c l in
    Held FirstSpeaker s.outwindow t.outwindow p.one.end p.one.log p.two.waiting p.one.waiting p.two.end p.two.log)
every_list s t b c l j =
    (run_ways same_lane acts takes (Held FirstSpeaker s.outwindow t.outwindow) (Held Bidder t.outwindow s.outwindow)
    (keeps FirstSpeaker s.outwindow t.outwindow) (keeps Bidder t.outwindow s.outwindow) (opened_both s t b c) l
    (opened_kept s t b c j)).0

-- ---- the claim

counted_as : (requests credits size w n : ℕ) → size ≡ w → requests + credits ≡ size * (1 + n) → requests + credits ≡ w * (1 + n)
counted_as requests credits size w n e h = h ∙ ap (λ (k : ℕ). k * (1 + n)) e

joint_of : (s t : Session) (p : Pair)
    → Held FirstSpeaker s.outwindow t.outwindow p.one.end p.one.log p.two.waiting p.one.waiting p.two.end p.two.log
    → Joint s t p
joint_of s t p held =
    let i = held.0 in
    record {
      not_both = λ x y. not_both i.order x y;
      no_breach_one = i.here.local.no_breach;
      no_breach_two = i.there.local.no_breach;
      bytes_out = i.out.carried.bytes;
      bytes_back = i.into.carried.bytes;
      credit_one = counted_as _ _ _ _ _ i.here.size i.here.local.counted;
      credit_two = counted_as _ _ _ _ _ i.there.size i.there.local.counted;
    }

pub proved : Claim
proved s t b c l j = (
  joint_of s t (after s t b c l) (every_list s t b c l j),
  λ m f g h k. confluent same_lane acts takes (opened_both s t b c) l m f g h k,
)

-- ---- the records

arrive : (x y : JoinedEnd) → BytesConserved x y → RecordsArrive x y
arrive x y e =
    let rest = bytes_in_inbox y.end ++ (bytes_on_line (y.waiting normal) ++ bytes_in_send_buffer x.end) in
    let q = whole_records_append (bytes_read y.log) rest in
    record { still_to_come = _; first_are_read = ap whole_records e ∙ q }

-- the records that are still to come go on with the table that is begun
tables_arrive : (x y : JoinedEnd) → RecordsArrive x y → TablesArrive x y
tables_arrive x y r =
    let q = tables_append (whole_records (bytes_read y.log)) r.still_to_come in
    record { still_to_come = _; first_are_read = ap (tables_from []) r.first_are_read ∙ q }

reads_of : (x : JoinedEnd) → Local (values_of x.end) x.log → ReadsRight x
reads_of x l =
    record {
      given = l.given;
      read = l.read;
      inbox = l.inbox;
      complete = l.complete;
      more = l.more;
      apart = l.apart;
      never_8 = l.never_8;
      whole = l.whole;
    }

pub the_records : TheRecords
the_records s t b c l j =
    let p = after s t b c l in
    let i = (every_list s t b c l j).0 in
    let out = arrive p.one p.two i.out.carried.bytes in
    let back = arrive p.two p.one i.into.carried.bytes in
    record {
      out = out;
      back = back;
      tables_out = tables_arrive p.one p.two out;
      tables_back = tables_arrive p.two p.one back;
      one = reads_of p.one i.here.local;
      two = reads_of p.two i.there.local;
    }
