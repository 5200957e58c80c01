-- Where the bytes of one call go: bytes given to the send buffer and to a unit, bytes read from the inbox to the caller's buffer.
-- Assumes nothing.
use Rattle.calls.proofs.CallWords.{ℕ, ◌+◌, ◌≤◌, eqb-true, eqb, take, drop, length, Bool, true, false, not, ◌||◌, List, ◌++◌, ◌≡◌, sym, ap, ◌∙◌, arith}
use Rattle.calls.proofs.CallWords.{front, Last, Follows, may_send, Control, keeps, inbox_moved, record_good, held_bytes, gone, facts, Station}
use Prim.Native.Nat.{◌-◌}
use mathlib.Core.List.{append_assoc}
use native.Mathlib.Nat.{le_trans}
use lib.ListN.{length-append, take-append-drop}
use lib.Seq.{length-take-le}
use borrow.Author.Tests.{leb-false}
use Rattle.bools.proofs.Cases.{split}
use mathlib.Core.Bool.{true≢false as never}
use Rattle.cells.proofs.Fronts.{copied_front, held_parts, moved_front}
use Rattle.header.specs.declared.Follows.TheVariants.{Stay, ChangeDirection, EndBracket}
use Rattle.unit.specs.Ru.{marks}
use Rattle.transitions.specs.Transitions.{closed}
use Rattle.receiving.specs.BytesRead.{rest_bytes}
use Rattle.end.specs.Receive.{inbox_bytes, record_rest, copy_count}
use Rattle.end.proofs.RecordGood.{held_in_inbox}
use Rattle.calls.proofs.CallCases.{SendAsked, ReadAsked, spilled_ru, read_count}

-- ---- send data: a unit goes

-- the bytes held and those given are its RU, and the rest
pub spilled_parts : (s : Station) (bytes : List ℕ) → held_bytes s.end s.send ++ bytes ≡ spilled_ru s bytes ++ drop (gone s.end) bytes
spilled_parts s bytes =
    let held = held_bytes s.end s.send in
    ap (λ (bs : List ℕ). held ++ bs) (sym (take-append-drop (gone s.end) bytes)) ∙ sym (append_assoc held (take (gone s.end) bytes) _)

-- its RU is as long as it may be
pub spilled_length : (s : Station) (bytes : List ℕ) → SendAsked s bytes → keeps s.end.sending (length bytes) ≡ false
    → length (spilled_ru s bytes) ≡ s.end.sending.max
spilled_length s bytes a k =
    let e = s.end in
    let o = e.sending in
    let held = (facts e a.good).sending.held in
    let room = a.buffer in
    let more = leb-false (o.held + length bytes) o.max k in
    omega (
      arith,
      length-append (held_bytes e s.send) (take (gone e) bytes),
      length-take-le o.held s.send (omega arith),
      length-take-le (gone e) bytes (omega arith),
    )

-- ---- flush, confirm, turn, end

-- bytes that are whole where the last unit marks, no error being due, are whole wherever the end may not send after it
pub closed_whole : (f : Follows) (b : Bool) (c : Control) (whole : Bool) → c.error ≡ false
    → not (marks (Last f b)) || whole ≡ true → may_send (closed f b c) ≡ false → whole ≡ true
unfolding closed
closed_whole Stay true c whole y w n = w
closed_whole Stay false c whole y w n = absurd (never (sym (ap not y) ∙ n))
closed_whole ChangeDirection true c whole y w n = w
closed_whole ChangeDirection false c whole y w n = w
closed_whole EndBracket true c whole y w n = w
closed_whole EndBracket false c whole y w n = w

-- ---- a take, or a read: the bytes held stand in the inbox that is lent

pub inbox_room : (s : Station) → length s.inbox ≡ s.end.receiving.inbox → record_good s.end ≡ true → s.end.receiving.held ≤ length s.inbox
inbox_room s e g = rw e (held_in_inbox s.end g)

-- ---- a read

module _ (s : Station) (buffer : List ℕ) where
  -- it copies no more than is held, and no more than the rest of the current record
  pub count_held : read_count s buffer ≤ s.end.receiving.held
  unfolding copy_count
  count_held = omega arith

  pub count_rest : read_count s buffer ≤ rest_bytes (record_rest s.end s.inbox)
  unfolding copy_count
  count_rest = omega arith

  -- what it copies and what it leaves are what was held
  pub read_parts : inbox_bytes s.end s.inbox ≡ take (read_count s buffer) s.inbox ++ drop (read_count s buffer) (inbox_bytes s.end s.inbox)
  read_parts = held_parts (read_count s buffer) s.end.receiving.held s.inbox count_held

  pub read_copied : ReadAsked s buffer
      → take (read_count s buffer) (front (take (read_count s buffer) s.inbox) buffer) ≡ take (read_count s buffer) s.inbox
  read_copied a = copied_front (read_count s buffer) s.inbox buffer (le_trans count_held (inbox_room s a.inbox a.good))

-- the inbox once k bytes are read
pub moved_left : (s : Station) (k : ℕ) → s.end.receiving.held ≤ length s.inbox
    → take (s.end.receiving.held - k) (inbox_moved s.end k s.inbox) ≡ drop k (inbox_bytes s.end s.inbox)
unfolding inbox_moved
moved_left s k h =
    split (eqb k 0)
    (λ e.
    let z : k ≡ 0 = eqb-true k 0 e in
    let y : s.end.receiving.held - k ≡ s.end.receiving.held = omega arith in
    rw (e, y, z))
    (λ e. rw e (moved_front k s.end.receiving.held s.inbox h))
