-- The two arms of every call on an image: it holds a record, and the call is made on it; or it is refused. The proofs of the calls search for these laws.
-- Assumes nothing.
use mathlib.Core.Path.{◌≡◌, sym, ap, subst, ◌∙◌}
use mathlib.Core.List.{List}
use Prim.Native.Nat.{ℕ, ◌<◌}
use lib.ListN.{length}
use Rattle.end.specs.Outcome.{Made, Sent, Taken, TakenExpedited, Copied}
use Rattle.end.specs.Results.{made_by, sent_by, taken_by, expedited_by, copied_by}
use Rattle.end.specs.declared.End.{End}
use Rattle.end.specs.declared.Done.{Done}
use Rattle.answers.specs.declared.Answer.{Answer}
use Rattle.answers.specs.declared.ReadAnswer.{ReadAnswer}
use Rattle.answers.specs.declared.ExpeditedAnswer.{ExpeditedAnswer}
use Rattle.image.specs.Image.{IMAGE, image_read}
use Rattle.std.proofs.Common.{Result, Ok, Err}
use Rattle.answers.specs.Refusals.{refusal_number}
use Rattle.answers.specs.declared.refusals.Refusal.{Refusal}
use Rattle.image.proofs.WhatIsRead.{record_known}
use Rattle.lu62.specs.Handing.{answer_numbers, read_numbers, expedited_numbers, refusal_numbers, Handed, handed, handed_out, Left, left, on_image, on_image_alone}
use Rattle.lu62.specs.Exported.{done_out, made_out, sent_out, taken_out, expedited_out, copied_out}
use Rattle.lu62.proofs.LengthsFit.{WORD, small, small_alone}

-- ---- the image is refused

pub refused_arm : {Cells : Type 0} (image : List ℕ) (cells : Cells) (call : End → Left Cells) {read : Result End Refusal} {why : Refusal} {r : ℕ} {answer : List ℕ}
    → read ≡ image_read image → read ≡ Err why → r ≡ refusal_number why → answer ≡ refusal_numbers (refusal_number why)
    → left (handed r answer image) cells ≡ on_image image cells call
refused_arm image cells call {read} {why} {r} {answer} p s n a = rw (← p, s, n, a)

pub refused_alone : (image : List ℕ) (call : End → Handed) {read : Result End Refusal} {why : Refusal} {r : ℕ} {answer : List ℕ}
    → read ≡ image_read image → read ≡ Err why → r ≡ refusal_number why → answer ≡ refusal_numbers (refusal_number why)
    → handed r answer image ≡ on_image_alone image call
refused_alone image call p s n a = ap (λ (l : Left (Unit {0})). l.out) (refused_arm image tt (λ e. left (call e) tt) p s n a)

-- ---- the image holds a record

pub whole : (image : List ℕ) {read : Result End Refusal} {e : End} → read ≡ image_read image → read ≡ Ok e → length image ≡ IMAGE
whole image {read} {e} p s = (record_known image e (sym p ∙ s)).0

pub record_arm : {Cells : Type 0} (image : List ℕ) (cells : Cells) (call : End → Left Cells) {read : Result End Refusal} {e : End} {l : Left Cells}
    → read ≡ image_read image → read ≡ Ok e → l ≡ call e → l ≡ on_image image cells call
record_arm image cells call {read} {e} {l} p s h = rw (← p, s, h)

pub record_alone : (image : List ℕ) (call : End → Handed) {read : Result End Refusal} {e : End} {h : Handed}
    → read ≡ image_read image → read ≡ Ok e → h ≡ call e → h ≡ on_image_alone image call
record_alone image call p s k =
    ap (λ (l : Left (Unit {0})). l.out) (record_arm image tt (λ e. left (call e) tt) p s (ap (λ (h : Handed). left h tt) k))

-- what a call hands out, and the length of the unit made, from the call's promise
module _ {d m : Done Answer} (p : d ≡ m) where
  pub done_out_lem : {h : Handed} → h ≡ handed_out (answer_numbers d.answer) d.end → h ≡ done_out m
  done_out_lem {h} k = rw k (ap (λ (x : Done Answer). done_out x) p)

  pub done_unit : m.answer.unit < WORD → d.answer.unit < WORD
  done_unit h = subst (λ (x : Done Answer). x.answer.unit < WORD) (sym p) h

module _ {d : Done Answer} {after : List ℕ} {m : Made} (p : made_by d after ≡ m) where
  pub made_out_lem : {h : Handed} → h ≡ handed_out (answer_numbers d.answer) d.end → left h after ≡ made_out m
  made_out_lem {h} k = rw k (ap (λ (x : Made). made_out x) p)

  pub made_unit : m.done.answer.unit < WORD → d.answer.unit < WORD
  made_unit h = subst (λ (x : Made). x.done.answer.unit < WORD) (sym p) h

module _ {d : Done Answer} {send unit : List ℕ} {m : Sent} (p : sent_by d send unit ≡ m) where
  pub sent_out_lem : {h : Handed} → h ≡ handed_out (answer_numbers d.answer) d.end → left h (send, unit) ≡ sent_out m
  sent_out_lem {h} k = rw k (ap (λ (x : Sent). sent_out x) p)

  pub sent_unit : m.done.answer.unit < WORD → d.answer.unit < WORD
  sent_unit h = subst (λ (x : Sent). x.done.answer.unit < WORD) (sym p) h

module _ {d : Done ReadAnswer} {inbox buffer : List ℕ} {m : Copied} (p : copied_by d inbox buffer ≡ m) where
  pub copied_out_lem : {h : Handed} → h ≡ handed_out (read_numbers d.answer) d.end → left h (inbox, buffer) ≡ copied_out m
  copied_out_lem {h} k = rw k (ap (λ (x : Copied). copied_out x) p)

  pub copied_unit : m.done.answer.answer.unit < WORD → d.answer.answer.unit < WORD
  copied_unit h = subst (λ (x : Copied). x.done.answer.answer.unit < WORD) (sym p) h

  pub copied_count : m.done.answer.copied < WORD → d.answer.copied < WORD
  copied_count h = subst (λ (x : Copied). x.done.answer.copied < WORD) (sym p) h

module _ {d : Done Answer} {inbox unit : List ℕ} {m : Taken} (p : taken_by d inbox unit ≡ m) where
  pub taken_out_lem : {h : Handed} → h ≡ handed_out (answer_numbers d.answer) d.end → left h (inbox, unit) ≡ taken_out m
  taken_out_lem {h} k = rw k (ap (λ (x : Taken). taken_out x) p)

  pub taken_unit : m.done.answer.unit < WORD → d.answer.unit < WORD
  taken_unit h = subst (λ (x : Taken). x.done.answer.unit < WORD) (sym p) h

module _ {d : Done ExpeditedAnswer} {unit : List ℕ} {m : TakenExpedited} (p : expedited_by d unit ≡ m) where
  pub expedited_out_lem : {h : Handed} → h ≡ handed_out (expedited_numbers d.answer) d.end → left h unit ≡ expedited_out m
  expedited_out_lem {h} k = rw k (ap (λ (x : TakenExpedited). expedited_out x) p)

  pub expedited_unit : m.done.answer.answer.unit < WORD → d.answer.answer.unit < WORD
  expedited_unit h = subst (λ (x : TakenExpedited). x.done.answer.answer.unit < WORD) (sym p) h

pub ruleset handed_out_rules = (record_arm, made_out_lem, sent_out_lem, taken_out_lem, expedited_out_lem, copied_out_lem)

pub ruleset units = (whole, made_unit, sent_unit, taken_unit, expedited_unit, copied_unit, copied_count)

pub ruleset arms = (refused_arm, handed_out_rules, units, small)

-- of a call that is lent no buffer
pub ruleset arms_alone = (refused_alone, record_alone, done_out_lem, whole, done_unit, small_alone)
