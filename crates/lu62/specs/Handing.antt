-- What an exported call hands out: the value returned, the answer's nine numbers, the image and the cells lent, as they are when it returns.
-- Assumes nothing.
use Rattle.std.specs.Prelude.{ℕ, List, [], ◌∷◌, get_or, Result, Ok, Err}
use Rattle.control.specs.StateTests.{mark_number}
use Rattle.answers.specs.declared.Answer.{Answer}
use Rattle.answers.specs.declared.ReadAnswer.{ReadAnswer}
use Rattle.answers.specs.declared.ExpeditedAnswer.{ExpeditedAnswer}
use Rattle.end.specs.declared.End.{End}
use Rattle.image.specs.ImageParts.{flag_byte}
use Rattle.image.specs.Image.{image_of, image_read}
use Rattle.answers.specs.Refusals.{refusal_number}
use Rattle.answers.specs.declared.refusals.Refusal.{Refusal}

-- ---- the nine numbers: refusal, sense, rule, length of the unit made, bytes copied, complete, more, mark, signalled

abbrev pub answer_numbers : Answer → List ℕ
answer_numbers a = a.refusal ∷ a.sense ∷ a.rule ∷ a.unit ∷ 0 ∷ 0 ∷ 0 ∷ 0 ∷ 0 ∷ []

abbrev pub read_numbers : ReadAnswer → List ℕ
read_numbers a =
    a.answer.refusal ∷ a.answer.sense ∷ a.answer.rule ∷ a.answer.unit
    ∷ a.copied ∷ flag_byte a.complete ∷ flag_byte a.more ∷ mark_number a.mark ∷ 0 ∷ []

abbrev pub expedited_numbers : ExpeditedAnswer → List ℕ
expedited_numbers a =
    a.answer.refusal ∷ a.answer.sense ∷ a.answer.rule ∷ a.answer.unit ∷ 0 ∷ 0 ∷ 0 ∷ 0 ∷ flag_byte a.signalled ∷ []

-- a refusal that has no sense
abbrev pub refusal_numbers : ℕ → List ℕ
refusal_numbers q = q ∷ 0 ∷ 0 ∷ 0 ∷ 0 ∷ 0 ∷ 0 ∷ 0 ∷ 0 ∷ []

-- ---- what is handed out

pub record Handed : Type 0 where
  pub returned : ℕ
  pub answer : List ℕ
  pub image : List ℕ

abbrev pub handed : ℕ → List ℕ → List ℕ → Handed
handed returned answer image = record { returned = returned; answer = answer; image = image }

-- after a call: the refusal number is returned, and the image is the new record's
abbrev pub handed_out : List ℕ → End → Handed
handed_out numbers e = handed (get_or numbers 0 0) numbers (image_of e)

-- an image that is refused stays as it was
abbrev pub handed_back : ℕ → List ℕ → Handed
handed_back q image = handed q (refusal_numbers q) image

-- with the cells of the buffers lent
pub record Left (Cells : Type 0) : Type 0 where
  pub out : Handed
  pub cells : Cells

abbrev pub left : {Cells : Type 0} → Handed → Cells → Left Cells
left out cells = record { out = out; cells = cells }

-- ---- a call on an image: made on the record that the image holds; where it holds none, nothing is changed

abbrev pub by_reading : {Cells : Type 0} → List ℕ → Cells → (End → Left Cells) → Result End Refusal → Left Cells
by_reading image cells call (Ok e) = call e
by_reading image cells call (Err why) = left (handed_back (refusal_number why) image) cells

abbrev pub on_image : {Cells : Type 0} → List ℕ → Cells → (End → Left Cells) → Left Cells
on_image image cells call = by_reading image cells call (image_read image)

-- the same of a call that is lent no buffer
abbrev pub on_image_alone : List ℕ → (End → Handed) → Handed
on_image_alone image call = (on_image {Cells = Unit {0}} image tt (λ e. left (call e) tt)).out
