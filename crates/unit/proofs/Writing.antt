-- What the writers leave in a buffer, put together.
-- Assumes nothing.
use Rattle.std.proofs.Common.{◌≡◌, ℕ, ◌+◌, ◌-◌, ◌<◌, ◌≤◌, true, false, leb, List, [], ◌++◌, length, take, drop, length-append, le-leb}
use lib.Seq.{take-length, take-append_seam, drop-append_seam}
use borrow.Author.Tests.{lt-leb}
use borrow.Rule.Slice.PartMut.{mid_of, put_mid}
use Rattle.cells.specs.Cells.{front}
use Rattle.cells.proofs.Fronts.{front_then}
use Rattle.cells.proofs.PartLent.{part_is, part_back}
use Rattle.unit.specs.Unit.{RU_START, unit_bytes, length_made, bytes_made}
use Rattle.header.specs.declared.HeaderBytes.{HeaderBytes}

-- two copies, one right behind the other: the second is made into the part that starts at n
pub two_copies : (a b cells one two : List ℕ) (n : ℕ) → n ≡ length a → one ≡ take (length a) a ++ drop (length a) cells
    → two ≡ take (length b) b ++ drop (length b) (mid_of n (length one - n) one)
    → put_mid n (length one - n) one two ≡ front (a ++ b) cells
unfolding front
two_copies a b cells one two n en e1 e2 =
    rw (part_back n one two, e2, part_is n one, en, e1, take-length a, take-length b, take-append_seam, drop-append_seam) (front_then a b cells)

-- the five bytes before the RU, and then the RU in the part that starts at byte 5
pub heading_ru : (n : ℕ) (h : HeaderBytes) (ru cells one two : List ℕ) → one ≡ front (unit_bytes n h []) cells
    → two ≡ front ru (mid_of RU_START (length one - RU_START) one)
    → put_mid RU_START (length one - RU_START) one two ≡ front (unit_bytes n h ru) cells
unfolding unit_bytes front
heading_ru n h ru cells one two e1 e2 =
    rw (part_back RU_START one two, e2, part_is RU_START one, e1) (front_then (unit_bytes n h []) ru cells)

-- a unit that does not fit is not made
pub not_made : (n : ℕ) (h : HeaderBytes) (a b cells : List ℕ) → length cells < RU_START + (length a + length b)
    → (0 ≡ length_made (a ++ b) cells) × (cells ≡ bytes_made n h (a ++ b) cells)
unfolding bytes_made
not_made n h a b cells short =
    let l : leb (RU_START + length (a ++ b)) (length cells) ≡ false = rw (length-append a b) (lt-leb _ _ short) in
    (rw l, rw l)

-- one that fits
pub made : (n : ℕ) (h : HeaderBytes) (a b cells one two : List ℕ) → RU_START + (length a + length b) ≤ length cells
    → one ≡ front (unit_bytes n h []) cells
    → two ≡ front (a ++ b) (mid_of RU_START (length one - RU_START) one)
    → (RU_START + (length a + length b) ≡ length_made (a ++ b) cells) × (put_mid RU_START (length one - RU_START) one two ≡ bytes_made n h (a ++ b) cells)
unfolding bytes_made
made n h a b cells one two r e1 e2 =
    let l : leb (RU_START + length (a ++ b)) (length cells) ≡ true = rw (length-append a b) (le-leb _ _ r) in
    (rw (l, length-append a b), rw l (heading_ru n h (a ++ b) cells one two e1 e2))
