-- After every list of calls that give bytes, both records are within the section 'The end's record': question 5 is answered yes at each end.
-- Assumes nothing.
use Rattle.joined.proofs.JoinedWords.{ℕ, ◌+◌, length, Bool, true, false, List, [], ◌∷◌, ◌≡◌, refl, arith, cases, Session, record_good, Station, Verb}
use Rattle.joined.proofs.JoinedWords.{count, opened_is, Pair, Lane, normal, acts, takes, same_lane, Buffers, OpeningAccepted, opened_with, opened_both}
use Rattle.joined.proofs.JoinedWords.{expedited, ◌∙◌, Log, At, Call, act, first, second, take_oldest, apply, step, run, Lines}
use Rattle.joined.specs.Joined as J
use Rattle.joined.specs.Histories.{refused_with}
use Rattle.calls.proofs.ByteLists.{AllUnits, append_units}
use Rattle.calls.proofs.RecordStaysGood.{good_acts, good_opened, good_takes, expedited_good}
use Rattle.calls.proofs.Refusals.{never_5, take_never_5, expedited_never_5}
use Rattle.joined.specs.Claim.{LentBytes, BytesIn, BytesAt, BytesOfAll, AlwaysGood}
use Rattle.calls.proofs.CellsStayBytes.{Cells, cells_acts, cells_takes, cells_takes_expedited}

-- ---- lists of calls

record Sound (s : Station) : Type 0 where
  good : record_good s.end ≡ true
  cells : Cells s

-- an end, the line to it, what happened at it, and the units that a call there makes
record Rests (e : Station) (waiting sent : List (List ℕ)) (es : Log) : Type 0 where
  end : Sound e
  line : AllUnits waiting
  made : AllUnits sent
  never : refused_with 5 es ≡ 0

one_more : (b : Bool) (n : ℕ) → b ≡ false → n ≡ 0 → count b + n ≡ 0
one_more b n e z = rw (e, z)

-- us are the line of the normal lane
one_take : (e : Station) (es : Log) (w : Lines Lane (List ℕ)) (us : List (List ℕ)) → Sound e → AllUnits (w normal) → AllUnits us → refused_with 5 es ≡ 0
    → (let r = take_oldest same_lane acts takes e es w normal us in
    Rests r.side.end (r.side.waiting normal) (r.sent normal) r.side.log)
unfolding refused_with acts takes
one_take e es w [] s f g z = record { end = s; line = f; made = tt; never = z }
one_take e es w (u ∷ us) s f g z =
    let q = cells_takes e s.cells u g.0 in
    record {
      end = record { good = good_takes e u g.0 s.good; cells = q.0 };
      line = cases AllUnits (takes normal e u).removed (λ y. g.1) (λ y. g);
      made = q.1;
      never = one_more _ _ (take_never_5 e s.good u) z;
    }

-- us are the line of the expedited lane
one_expedited : (e : Station) (es : Log) (w : Lines Lane (List ℕ)) (us : List (List ℕ)) → Sound e → AllUnits (w normal) → refused_with 5 es ≡ 0
    → (let r = take_oldest same_lane acts takes e es w expedited us in
    Rests r.side.end (r.side.waiting normal) (r.sent normal) r.side.log)
unfolding refused_with acts takes
one_expedited e es w [] s f z = record { end = s; line = f; made = tt; never = z }
one_expedited e es w (u ∷ us) s f z =
    let q = cells_takes_expedited e s.cells u in
    record {
      end = record { good = expedited_good e u ∙ s.good; cells = q.0 };
      line = f;
      made = q.1;
      never = one_more _ _ (expedited_never_5 e s.good u) z;
    }

one_call : (e : Station) (es : Log) (w : Lines Lane (List ℕ)) (c : Call Lane Verb) → BytesIn c → Sound e → AllUnits (w normal) → refused_with 5 es ≡ 0
    → (let r = apply same_lane acts takes e es w c in Rests r.side.end (r.side.waiting normal) (r.sent normal) r.side.log)
unfolding refused_with acts takes
one_call e es w (act v) b s f z =
    let q = cells_acts e s.cells v b in
    record {
      end = record { good = good_acts e v b s.cells.inbox s.good; cells = q.0 };
      line = f;
      made = q.1;
      never = one_more _ _ (never_5 e s.good v) z;
    }
one_call e es w (J.take normal) b s f z = one_take e es w (w normal) s f f z
one_call e es w (J.take expedited) b s f z = one_expedited e es w (w expedited) s f z

record Good (p : Pair) : Type 0 where
  one : Sound p.one.end
  two : Sound p.two.end
  to_one : AllUnits (p.one.waiting normal)
  to_two : AllUnits (p.two.waiting normal)
  never_one : refused_with 5 p.one.log ≡ 0
  never_two : refused_with 5 p.two.log ≡ 0

step_good : (p : Pair) (c : At Lane Verb) → BytesAt c → Good p → Good (step same_lane acts takes p c)
step_good p (first c) b g =
    let r = one_call p.one.end p.one.log p.one.waiting c b g.one g.to_one g.never_one in
    record {
      one = r.end;
      two = g.two;
      to_one = r.line;
      to_two = append_units (p.two.waiting normal) _ g.to_two r.made;
      never_one = r.never;
      never_two = g.never_two;
    }
step_good p (second c) b g =
    let r = one_call p.two.end p.two.log p.two.waiting c b g.two g.to_two g.never_two in
    record {
      one = g.one;
      two = r.end;
      to_one = append_units (p.one.waiting normal) _ g.to_one r.made;
      to_two = r.line;
      never_one = g.never_one;
      never_two = r.never;
    }

run_good : (p : Pair) (l : List (At Lane Verb)) → BytesOfAll l → Good p → Good (run same_lane acts takes p l)
run_good p [] b g = g
run_good p (c ∷ l) b g = run_good (step same_lane acts takes p c) l b.1 (step_good p c b.0 g)

-- ---- from openings

opened_sound : (s : Session) (b : Buffers) → OpeningAccepted s b → LentBytes b → Sound (opened_with s b).end
opened_sound s b a l =
    let n = length b.send in
    let m = length b.unit in
    let k = length b.inbox in
    record { good = good_opened s n m k a; cells = record { send = l.send; inbox = l.inbox; owed = rw (opened_is s n m k a).1 (omega arith) } }

-- after every list of calls from two accepted openings, question 5 is answered yes at both ends, and it was at every call
pub always_good : AlwaysGood
unfolding refused_with
always_good s t b c l x y f h v =
    let g =
    run_good (opened_both s t b c) l v
    (record {
      one = opened_sound s b x f;
      two = opened_sound t c y h;
      to_one = tt;
      to_two = tt;
      never_one = refl;
      never_two = refl;
    }) in
    record { one = g.one.good; two = g.two.good; never_5_one = g.never_one; never_5_two = g.never_two }
