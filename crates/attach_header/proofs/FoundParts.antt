-- A field behind its length byte: where the code finds it, and what it is.
-- Assumes nothing.
use mathlib.Core.Path.{◌≡◌, sym, subst}
use mathlib.Core.Bool.{true, false}
use mathlib.Core.List.{List, ◌∷◌}
use Prim.Native.Nat.{ℕ, ◌+◌, ◌-◌, ◌≤◌, ◌<◌}
use native.Mathlib.Numerals.{add-one}
use native.Mathlib.Omega.{arith}
use lib.Dec.{leb}
use lib.ListN.{length, get_or, take, drop, drop_of_length-le, length-drop}
use lib.Seq.{drop-cons, drop-drop, take-nil, take_all, length-take-le}
use borrow.Author.Tests.{le-leb, lt-leb, leb-true, leb-false}
use Rattle.bools.proofs.Cases.{cases}
use Rattle.attach_header.specs.Read.{opened}
use Rattle.attach_header.specs.Places.{part_at}
use Rattle.attach_header.specs.declared.parts.Part.{Part}

-- what a part is that stands where the code says
pub record Found (at : ℕ) (s : List ℕ) (p : Part) : Type 0 where
  pub order : p.start ≤ p.end
  pub within : p.end ≤ length s
  pub passes : at < length s → at < p.start
  pub whole : p.whole ≡ (opened (drop at s)).whole
  pub field : take (p.end - p.start) (drop p.start s) ≡ (opened (drop at s)).field
  pub rest : drop p.end s ≡ (opened (drop at s)).rest

module _ (at : ℕ) (s : List ℕ) where
  -- the bytes have ended
  ended : length s ≤ at → at ≤ length s → Found at s (record { whole = true; start = at; end = at })
  unfolding opened
  ended l h =
      let e = drop_of_length-le s {i = at} l in
      record {
        order = omega arith;
        within = h;
        passes = λ g. absurd (omega arith);
        whole = rw e;
        field = rw e (take-nil (at - at));
        rest = rw e;
      }

  abbrev n : ℕ
  n = get_or s at 0

  cons : at < length s → drop at s ≡ n ∷ drop (at + 1) s
  cons h = rw add-one (drop-cons s at 0 h)

  room : length (drop (at + 1) s) ≡ length s - (at + 1)
  room = length-drop (at + 1) s

  -- the bytes that are counted are there
  whole_one : at < length s → n ≤ length s - (at + 1) → Found at s (record { whole = true; start = at + 1; end = at + 1 + n })
  unfolding opened
  whole_one h l =
      let e : at + 1 + n - (at + 1) ≡ n = omega arith in
      record {
        order = omega arith;
        within = omega arith;
        passes = λ g. omega arith;
        whole = rw (cons h, room, le-leb n (length s - (at + 1)) l);
        field = rw (cons h, e);
        rest = rw (cons h, drop-drop n (at + 1) s);
      }

  -- or not
  short_one : at < length s → length s - (at + 1) < n → Found at s (record { whole = false; start = at + 1; end = length s })
  unfolding opened
  short_one h l =
      record {
        order = omega arith;
        within = omega arith;
        passes = λ g. omega arith;
        whole = rw (cons h, room, lt-leb n (length s - (at + 1)) l);
        field = rw (cons h, take_all (length s - (at + 1)) (drop (at + 1) s) (omega (arith, room)), take_all n (drop (at + 1) s) (omega (arith, room)));
        rest = rw (cons h, drop_of_length-le s {i = length s} (omega arith), drop_of_length-le (drop (at + 1) s) {i = n} (omega (arith, room)));
      }

  pub found : at ≤ length s → Found at s (part_at at s)
  unfolding part_at
  found h =
      cases (Found at s) (leb (length s) at) (λ t. ended (leb-true (length s) at t) h)
      (λ t. cases (Found at s) (leb n (length s - (at + 1))) (λ g. whole_one (leb-false (length s) at t) (leb-true n (length s - (at + 1)) g))
      (λ g. short_one (leb-false (length s) at t) (leb-false n (length s - (at + 1)) g)))

-- of what the code found
pub found_by : {at : ℕ} {s : List ℕ} {p : Part} → at ≤ length s → p ≡ part_at at s → Found at s p
found_by {at} {s} h e = subst (Found at s) (sym e) (found at s h)

module _ {at : ℕ} {s : List ℕ} {p : Part} (f : Found at s p) where
  pub field_length : length (opened (drop at s)).field ≡ p.end - p.start
  field_length =
      let o = f.order in
      let w = f.within in
      let d = length-drop p.start s in
      rw (sym f.field) (length-take-le (p.end - p.start) (drop p.start s) (omega (arith, o, w, d)))

  pub rest_length : length (opened (drop at s)).rest ≡ length s - p.end
  rest_length = rw (sym f.rest) (length-drop p.end s)
