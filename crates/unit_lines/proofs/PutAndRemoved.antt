-- What putting and removing a unit leave on a line.
-- Assumes nothing.
use mathlib.Core.Path.{◌≡◌, refl, sym, ap, ◌∙◌}
use mathlib.Core.Bool.{Bool, true, false, ◌&&◌, and-false}
use mathlib.Core.List.{List, [], ◌∷◌, ◌++◌, append_assoc}
use Prim.Native.Nat.{ℕ, ◌+◌, ◌-◌, ◌≤◌, ◌<◌}
use native.Mathlib.Nat.{div-add-mod'}
use native.Mathlib.Omega.{arith}
use borrow.Author.Tests.{lt-ltb, le-leb, lt-leb, ltb-true, leb-true, leb-false}
use lib.Dec.{leb, ltb}
use lib.ListN.{length, take, drop, length-append, length-drop, take-append-drop}
use lib.Seq.{take-append_seam, drop_at, length-take-le}
use Rattle.cells.specs.Cells.{front, written}
use Rattle.cells.proofs.Fronts.{written_length, written_bytes}
use Rattle.std.specs.Prelude.{Option, Some, None, MatchOption}
use Rattle.bools.proofs.Cases.{never, split}
use Rattle.bools.proofs.Finite.{halves}
use Rattle.unit_lines.specs.declared.Line.{Line}
use Rattle.unit_lines.specs.UnitLine.{framed, frames, NoneLonger, Holds, has_room, past_first, stands, oldest_end, UnitTo}
use Rattle.unit_lines.proofs.Frames.{frames_more, none_more, frames_length}

pub apart : {a : Bool} → a ≡ true → a ≡ false → ⊥
apart y n = never (sym n ∙ y)

-- ---- a unit joins

leb_move : (a k b : ℕ) → k ≤ b → leb a (b - k) ≡ leb (a + k) b
leb_move a k b h =
    split (leb (a + k) b)
    (λ y. le-leb a (b - k) (omega (arith, leb-true (a + k) b y)) ∙ sym y)
    (λ y. lt-leb a (b - k) (omega (arith, leb-false (a + k) b y)) ∙ sym y)

module _ (l : Line) (cells n : ℕ) where
  -- the test, as it is made: with no sum that could be too great
  pub room_is : 1031 ≤ cells → ltb l.units 512 && (leb n 1029 && leb l.used (cells - 1031)) ≡ has_room l cells n
  room_is h = rw (leb_move l.used 1031 cells h)

  pub no_room : cells < 1031 → has_room l cells n ≡ false
  no_room h = simp (lt-leb (l.used + 1031) cells (omega arith), and-false)

  -- what room says
  pub room_for : has_room l cells n ≡ true → (l.units < 512) × (n ≤ 1029) × (l.used + 1031 ≤ cells)
  room_for y = (
    ltb-true l.units 512 (search halves),
    leb-true n 1029 (search halves),
    leb-true (l.used + 1031) cells (search halves),
  )

module _ (l : Line) (cells : List ℕ) (us : List (List ℕ)) where
  pub has_room_lem : (n : ℕ) → Holds l cells us → length us < 512 → n ≤ 1029 → has_room l (length cells) n ≡ true
  has_room_lem n h m s =
      let f = frames_length us h.none_longer in
      rw (
        lt-ltb l.units 512 (omega (arith, h.units_are)),
        le-leb n 1029 s,
        le-leb (l.used + 1031) (length cells) (omega (arith, h.used_are, h.room)),
      )

  pub joined : (u : List ℕ) → Holds l cells us → length us < 512 → length u ≤ 1029
      → Holds (record { units = l.units + 1; used = l.used + 2 + length u }) (written l.used (framed u) cells) (us ++ (u ∷ []))
  joined u h m s =
      let f = frames_length us h.none_longer in
      let w : l.used ≤ length cells = omega (arith, h.used_are, h.room) in
      let e : length (frames (us ++ (u ∷ []))) ≡ l.used + length (framed u) = rw (frames_more, length-append, h.used_are) in
      record {
        units_are = omega (arith, h.units_are, length-append us (u ∷ []));
        used_are = omega arith;
        cells_are = rw (e, written_bytes l.used (framed u) cells w, h.used_are, h.cells_are, frames_more us u);
        most = omega (arith, length-append us (u ∷ []));
        none_longer = none_more us u h.none_longer s;
        room = omega (arith, h.room, written_length l.used (framed u) cells (omega (arith, h.used_are, h.room)));
      }

-- ---- the oldest

-- where one stands: it ends past the first, within the line
pub ends_there : (l : Line) (cells : List ℕ) (past : ℕ) → oldest_end l cells ≡ Some past
    → (past ≡ past_first cells) × (stands l (length cells) (past_first cells) ≡ true)
unfolding oldest_end
ends_there l cells past e =
    split (stands l (length cells) (past_first cells))
    (λ y. (let e : Some (past_first cells) ≡ Some past = rw y at e in cc, y))
    (λ y. absurd (let e : ◌≡◌ {A = Option ℕ} None (Some past) = rw y at e in cc))

-- and what that says
pub end_within : (l : Line) (cells : List ℕ) (past : ℕ) → oldest_end l cells ≡ Some past
    → (1 ≤ l.units) × (l.used ≤ length cells) × (past ≤ l.used) × (2 ≤ past)
end_within l cells past e =
    let t = ends_there l cells past e in
    let y = t.1 in
    let p = t.0 in (
      leb-true 1 l.units (search halves),
      leb-true l.used (length cells) (search halves),
      rw p (leb-true (past_first cells) l.used (search halves)),
      omega arith,
    )

-- where the length before it is read, and whether it is within the line
pub stands_at : (l : Line) (cells : List ℕ) (past : ℕ) → past ≡ past_first cells → stands l (length cells) past ≡ true
    → Some past ≡ oldest_end l cells
unfolding oldest_end
stands_at l cells past p t =
    let y : stands l (length cells) (past_first cells) ≡ true = sym (ap (stands l (length cells)) p) ∙ t in
    rw (p, y)

pub none_at : (l : Line) (cells : List ℕ) (past : ℕ) → past ≡ past_first cells → stands l (length cells) past ≡ false
    → None ≡ oldest_end l cells
unfolding oldest_end
none_at l cells past p t =
    let n : stands l (length cells) (past_first cells) ≡ false = sym (ap (stands l (length cells)) p) ∙ t in
    rw n

-- in cells too few for a length none stands
pub none_short : (l : Line) (cells : List ℕ) → length cells < 2 → None ≡ oldest_end l cells
none_short l cells h =
    split (stands l (length cells) (past_first cells))
    (λ y. absurd (omega (arith, leb-true l.used (length cells) (search halves), leb-true (past_first cells) l.used (search halves))))
    (λ n. none_at l cells (past_first cells) refl n)

module _ (l : Line) (cells u : List ℕ) (us : List (List ℕ)) (h : Holds l cells (u ∷ us)) where
  -- the cells begin with the oldest, and the others behind it
  oldest_first : cells ≡ framed u ++ (frames us ++ drop (length (frames (u ∷ us))) cells)
  unfolding frames
  oldest_first =
      let rest = drop (length (frames (u ∷ us))) cells in
      sym (take-append-drop (length (frames (u ∷ us))) cells)
      ∙ ap (λ (f : List ℕ). f ++ rest) h.cells_are
      ∙ append_assoc (framed u) (frames us) rest

  past_is : past_first cells ≡ 2 + length u
  past_is = ap past_first oldest_first ∙ ap (λ (k : ℕ). 2 + k) (div-add-mod' (length u) 256)

  stands_there : stands l (length cells) (past_first cells) ≡ true
  unfolding frames
  stands_there =
      let f = frames_length (u ∷ us) h.none_longer in
      rw (
        past_is,
        le-leb 1 l.units (omega (arith, h.units_are)),
        le-leb l.used (length cells) (omega (arith, h.used_are, h.room, h.most)),
        le-leb (2 + length u) l.used (omega (arith, h.used_are, length-append u (frames us))),
      )

  pub stands_oldest : oldest_end l cells ≡ Some (2 + length u)
  unfolding oldest_end
  stands_oldest = rw (stands_there, past_is)

  pub unit_stands : UnitTo (2 + length u) u cells
  unit_stands =
      record {
        past_is = refl;
        unit_is =
            ap (λ (c : List ℕ). take (length u) (drop 2 c)) oldest_first
            ∙ take-append_seam u (frames us ++ drop (length (frames (u ∷ us))) cells);
      }

  pub unit_ends : MatchOption (oldest_end l cells) ⊥ (λ past. UnitTo past u cells)
  unit_ends = rw stands_oldest unit_stands

  pub ends_behind : (past : ℕ) → oldest_end l cells ≡ Some past → past ≡ 2 + length u
  ends_behind past e = (ends_there l cells past e).0 ∙ past_is

  -- ---- it goes: the cells of the line, moved to the front by its own

  rest_is_lem : drop (2 + length u) (take l.used cells) ≡ frames us
  unfolding frames
  rest_is_lem = rw (h.used_are, h.cells_are) (drop_at (framed u) (frames us) (2 + length u) (omega arith))

  used_within : l.used ≤ length cells
  used_within = (end_within l cells (2 + length u) stands_oldest).1

  used_is : l.used ≡ 2 + length u + length (frames us)
  unfolding frames
  used_is = h.used_are ∙ omega (arith, length-append u (frames us))

  pub removed : (past : ℕ) (after : List ℕ) → oldest_end l cells ≡ Some past
      → after ≡ front (drop past (take l.used cells)) (take l.used cells)
      → Holds (record { units = l.units - 1; used = l.used - past }) (after ++ drop l.used cells) us
  unfolding front NoneLonger
  removed past after o e =
      let p = ends_behind past o in
      let m : after ++ drop l.used cells ≡ frames us ++ (drop (length (frames us)) (take l.used cells) ++ drop l.used cells) =
      rw (e, p, rest_is_lem) (append_assoc (frames us) (drop (length (frames us)) (take l.used cells)) (drop l.used cells)) in
      let k = length-take-le l.used cells used_within in
      record {
        units_are = omega (arith, h.units_are);
        used_are = omega (arith, used_is);
        cells_are = rw m (take-append_seam (frames us) (drop (length (frames us)) (take l.used cells) ++ drop l.used cells));
        most = omega (arith, h.most);
        none_longer = h.none_longer.1;
        room = rw (m, length-append, length-append, length-drop, length-drop) (omega (arith, h.room, used_is, used_within));
      }

-- ---- whether a unit waits

pub none_waits : (l : Line) (cells : List ℕ) (us : List (List ℕ)) → Holds l cells us → oldest_end l cells ≡ None → us ≡ []
none_waits l cells [] h z = refl
none_waits l cells (u ∷ us) h z = absurd (let e : ◌≡◌ {A = Option ℕ} None (Some (2 + length u)) = sym z ∙ stands_oldest l cells u us h in cc)

pub record First (past : ℕ) (l : Line) (cells : List ℕ) (us : List (List ℕ)) : Type 0 where
  pub unit : List ℕ
  pub rest : List (List ℕ)
  pub are : us ≡ unit ∷ rest
  pub holds : Holds l cells (unit ∷ rest)
  pub there : take (past - 2) (drop 2 cells) ≡ unit

pub one_waits : (past : ℕ) (l : Line) (cells : List ℕ) (us : List (List ℕ)) → Holds l cells us → oldest_end l cells ≡ Some past
    → First past l cells us
one_waits past l cells [] h e = absurd (omega (arith, h.units_are, (end_within l cells past e).0))
one_waits past l cells (u ∷ us) h e =
    let k : past - 2 ≡ length u = omega (arith, ends_behind l cells u us h past e) in
    record { unit = u; rest = us; are = refl; holds = h; there = rw k (unit_stands l cells u us h).unit_is }
