-- A read, from its decision: what its writer may rely on.
-- Assumes nothing.
use Prim.Native.Nat.{ℕ, ◌≤◌}
use mathlib.Core.Path.{◌≡◌, refl}
use mathlib.Core.Bool.{Bool, true, false, cond}
use mathlib.Core.List.{List}
use native.Mathlib.Omega.{arith}
use lib.Dec.{eqb}
use lib.ListN.{length}
use borrow.Author.Tests.{eqb-true}
use Rattle.answers.specs.Answers.{read_refused}
use Rattle.answers.proofs.Rows.{yes}
use Rattle.end.specs.Receive.{some_held, receive_questions, receive_refusal, copy_count, bytes_read, mark_read, receive_decision}
use Rattle.end.proofs.RecordGood.{held_in_inbox}
use Rattle.end.specs.declared.End.{End}
use Rattle.end.specs.declared.Done.{Done}
use Rattle.answers.specs.declared.ReadAnswer.{ReadAnswer}

-- the questions were all answered yes
pub read_room : (e : End) (inbox : List ℕ) (buffer : ℕ) → receive_refusal e inbox buffer ≡ 0 → e.receiving.held ≤ length inbox
unfolding receive_refusal
read_room e inbox buffer h =
    let t = yes (receive_questions e inbox buffer) tt h in
    let n = eqb-true (length inbox) e.receiving.inbox (t 0) in
    let i = held_in_inbox e (t 1) in
    omega arith

-- bytes go: they are held, they stand in the inbox, and the caller's buffer has room for them
pub record Copies (e : End) (inbox : List ℕ) (buffer k : ℕ) : Type 0 where
  pub of_held : k ≤ e.receiving.held
  pub held_in : e.receiving.held ≤ length inbox
  pub in_buffer : k ≤ buffer

copies : (t b : Bool) (e : End) (inbox : List ℕ) (buffer : ℕ) → eqb (receive_refusal e inbox buffer) 0 ≡ t
    → (let d : Done ReadAnswer = cond t (cond b (bytes_read e (copy_count e inbox buffer) inbox) (mark_read e)) (record { answer = read_refused (receive_refusal e inbox buffer); end = e }) in
    (d.answer.copied ≡ 0 → ⊥) → Copies e inbox buffer d.answer.copied)
unfolding bytes_read mark_read copy_count
copies false b e inbox buffer z h = absurd (h refl)
copies true false e inbox buffer z h = absurd (h refl)
copies true true e inbox buffer z h =
    record { of_held = omega arith; held_in = read_room e inbox buffer (eqb-true (receive_refusal e inbox buffer) 0 z); in_buffer = omega arith }

pub read_copies : (e : End) (inbox : List ℕ) (buffer : ℕ) → ((receive_decision e inbox buffer).answer.copied ≡ 0 → ⊥)
    → Copies e inbox buffer (receive_decision e inbox buffer).answer.copied
unfolding receive_decision
read_copies e inbox buffer h = copies (eqb (receive_refusal e inbox buffer) 0) (some_held e) e inbox buffer refl h
