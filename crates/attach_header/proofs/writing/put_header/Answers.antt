-- `attach_header::writing::put_header` meets its contract.
-- Assumes nothing.
use mathlib.Core.Path.{◌≡◌}
use mathlib.Core.Bool.{true}
use mathlib.Core.List.{List, ◌++◌}
use Prim.Native.Nat.{ℕ, ◌≤◌}
use native.Mathlib.Omega.{arith}
use lib.ListN.{length}
use borrow.Author.Tests.{leb-true}
use Rattle.digits.specs.PutAt.{put_at}
use Rattle.digits.proofs.Puts.{Left, left_less}
use Rattle.attach_header.specs.Fields.{text_of, fields_of}
use Rattle.attach_header.specs.Written.{header_of, needed, writable}
use Rattle.attach_header.specs.declared.Attach.{Attach}
use Rattle.attach_header.proofs.Pieces.{last, in_pieces, last_fits}
use Rattle.attach_header.proofs.Writable.{fits, head_with, trailing_of, header_pieces, whole_length}
use Rattle.attach_header.proofs.writing.put_header.Goals as goal

-- what is left once the first ten bytes are put, and once the name is
module _ (a : Attach) (out : List ℕ) (p : (writable a ≡ true) × (needed a ≤ 255) × (255 ≤ length out)) {n : ℕ} (en : n ≡ needed a)
    {r : ℕ} {then : List ℕ} (e : ◌≡◌ {A = ℕ × List ℕ} (r, then) (put_at (head_with n a) 0 out)) where
  abbrev all : List ℕ
  all = header_of (fields_of a)

  begun : Left all 0 out (text_of a.program ++ trailing_of a) r then
  begun =
      let f = fits a p.0 in
      let l = whole_length a f in
      left_less (head_with n a) (in_pieces all (head_with n a ++ (text_of a.program ++ trailing_of a)) 0 out (header_pieces n a f en) (omega (arith, l))) e

  named : {r' : ℕ} {then' : List ℕ} → ◌≡◌ {A = ℕ × List ℕ} (r', then') (put_at (text_of a.program) r then) → Left all 0 out (trailing_of a) r' then'
  named d = left_less (text_of a.program) begun d

pub overflow_cast-total : goal.overflow_cast-total
overflow_cast-total c = omega (arith, c.needed_length-total.ensures, c.requires.1)

pub overflow_mul-head : goal.overflow_mul-head
overflow_mul-head c =
    let s = c in
    let h = leb-true s.args.attach.pip 1 (fits s.args.attach s.requires.0).pip in
    omega (arith, h)

pub overflow_mul-head-2 : goal.overflow_mul-head-2
overflow_mul-head-2 c =
    let s = c in
    let h = leb-true s.args.attach.sync 2 (fits s.args.attach s.requires.0).sync in
    omega (arith, h)

pub put_trailing-requires : goal.put_trailing-requires
put_trailing-requires c =
    let s = c in
    let a = s.args in
    let l = named a.attach a.out.now s.requires c.needed_length-total.ensures c.put-name.ensures c.put_string-behind.ensures in
    record { attach_value = (s.requires.0, s.requires.1); attach_in_bounds = last_fits (trailing_of a.attach) l }

pub returns : goal.returns
returns c =
    let s = c in
    let a = s.args in
    let l = named a.attach a.out.now s.requires c.needed_length-total.ensures c.put-name.ensures c.put_string-behind.ensures in
    last (trailing_of a.attach) l c.put_trailing.ensures
