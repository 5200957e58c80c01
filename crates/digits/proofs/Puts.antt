-- Laws of text that is put into cells, and of text put right behind it.
-- Assumes nothing.
use mathlib.Core.Path.{◌≡◌, refl, sym, ap, ◌∙◌}
use mathlib.Core.List.{List, [], ◌++◌, append_assoc}
use Prim.Native.Nat.{ℕ, ◌+◌, ◌-◌, ◌≤◌, ◌<◌}
use native.Mathlib.Omega.{arith}
use lib.ListN.{length, take, drop, length-append}
use lib.Seq.{length-take-le, drop_at}
use borrow.Author.Tests.{le-leb, lt-leb}
use borrow.Rule.Slice.PartMut.{mid_of, put_mid}
use Rattle.cells.specs.Cells.{front, written}
use Rattle.cells.proofs.Copies.{copy_part}
use Rattle.cells.proofs.Fronts.{front_then, written_bytes, written_length, written_none}
use Rattle.digits.specs.PutAt.{put_at}

module _ (text : List ℕ) (at : ℕ) (cells : List ℕ) where
  pub not_put : length cells < at + length text → put_at text at cells ≡ (at, cells)
  unfolding put_at
  not_put h = rw (lt-leb (at + length text) (length cells) h)

  pub is_put : at + length text ≤ length cells → put_at text at cells ≡ (at + length text, written at text cells)
  unfolding put_at
  is_put h = rw (le-leb (at + length text) (length cells) h)

  -- a copy into the part that starts at `at`
  pub put_copied : at + length text ≤ length cells
      → (part : List ℕ) → part ≡ take (length text) text ++ drop (length text) (mid_of at (length cells - at) cells)
      → ◌≡◌ {A = ℕ × List ℕ} (at + length text, put_mid at (length cells - at) cells part) (put_at text at cells)
  put_copied h part e = rw (copy_part at text cells part e, is_put h)

  -- the cells behind the bytes
  written_past : at ≤ length cells → drop (at + length text) (written at text cells) ≡ drop (length text) (drop at cells)
  unfolding written front
  written_past h =
      let n : length (take at cells ++ text) ≡ at + length text = simp (length-append, length-take-le at cells h) in
      ap (drop (at + length text)) (sym (append_assoc (take at cells) text (drop (length text) (drop at cells))))
      ∙ drop_at (take at cells ++ text) (drop (length text) (drop at cells)) (at + length text) n

-- bytes, and more bytes right behind them
pub written_then : (a b : List ℕ) (at : ℕ) (cells : List ℕ) → at ≤ length cells
    → written (at + length a) b (written at a cells) ≡ written at (a ++ b) cells
unfolding written
written_then a b at cells h =
    let w : List ℕ = written at a cells in
    ap (λ (l : List ℕ). l ++ front b (drop (at + length a) w)) (written_bytes at a cells h)
    ∙ ap (λ (l : List ℕ). (take at cells ++ a) ++ front b l) (written_past a at cells h)
    ∙ append_assoc (take at cells) a (front b (drop (length a) (drop at cells)))
    ∙ ap (λ (l : List ℕ). take at cells ++ l) (front_then a b (drop at cells))

-- what a text that fits is, where it fits
module _ (text : List ℕ) (at : ℕ) (cells : List ℕ) (r : ℕ) (after : List ℕ) (e : ◌≡◌ {A = ℕ × List ℕ} (r, after) (put_at text at cells))
    (h : at + length text ≤ length cells) where
  pub put_place : r ≡ at + length text
  put_place = ap (λ (p : ℕ × List ℕ). p.0) (e ∙ is_put text at cells h)

  pub put_cells : after ≡ written at text cells
  put_cells = ap (λ (p : ℕ × List ℕ). p.1) (e ∙ is_put text at cells h)

-- ---- a text put piece by piece: it fits, and what is left of it, put at `next`, completes it

pub record Left (text : List ℕ) (at : ℕ) (cells : List ℕ) (rest : List ℕ) (next : ℕ) (now : List ℕ) : Type 0 where
  pub fits : at + length text ≤ length cells
  pub place : next + length rest ≡ at + length text
  pub completes : written next rest now ≡ written at text cells
  pub same : length now ≡ length cells

module _ {text : List ℕ} {at : ℕ} {cells : List ℕ} where
  pub left_all : at + length text ≤ length cells → Left text at cells text at cells
  left_all h = record { fits = h; place = refl; completes = refl; same = refl }

  pub left_none : {next : ℕ} {now : List ℕ} → Left text at cells [] next now → ◌≡◌ {A = ℕ × List ℕ} (next, now) (put_at text at cells)
  left_none {next} {now} l =
      let n : next ≡ at + length text = omega (arith, l.place) in
      let w : now ≡ written at text cells = sym (written_none next now) ∙ l.completes in
      rw (is_put text at cells l.fits, n, w)

  pub left_less : (a : List ℕ) {rest : List ℕ} {next : ℕ} {now : List ℕ} {r : ℕ} {after : List ℕ}
      → Left text at cells (a ++ rest) next now → ◌≡◌ {A = ℕ × List ℕ} (r, after) (put_at a next now) → Left text at cells rest r after
  left_less a {rest} {next} {now} {r} {after} l e =
      let n : length (a ++ rest) ≡ length a + length rest = length-append a rest in
      let h : next + length a ≤ length now = omega (arith, l.place, l.same, l.fits) in
      let er : r ≡ next + length a = put_place a next now r after e h in
      let ea : after ≡ written next a now = put_cells a next now r after e h in
      record {
        fits = l.fits;
        place = omega (arith, l.place);
        completes = rw (er, ea, written_then a rest next now (omega arith)) l.completes;
        same = rw ea (written_length next a now h ∙ l.same);
      }
