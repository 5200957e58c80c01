-- What is known of an image by what it is read as.
-- Assumes nothing.
use mathlib.Core.Path.{◌≡◌, refl}
use mathlib.Core.Bool.{Bool, true, false, cond}
use mathlib.Core.List.{List}
use Prim.Native.Nat.{ℕ}
use lib.Dec.{eqb}
use lib.ListN.{length}
use borrow.Author.Tests.{eqb-true}
use Rattle.answers.specs.declared.refusals.Refusal.{Refusal}
use Rattle.answers.specs.declared.refusals.Refusal.TheVariants.{BadBuffer, BadRecord}
use Rattle.end.specs.declared.End.{End}
use Rattle.image.specs.Image.{IMAGE, record_in, image_good, image_read}
use Rattle.std.proofs.Common.{Result, Ok, Err}

-- the three cases
reading : (image : List ℕ) (P : Result End Refusal → Type 0)
    → (length image ≡ IMAGE → image_good image ≡ true → P (Ok (record_in image))) → P (Err BadRecord) → P (Err BadBuffer)
    → P (image_read image)
unfolding image_read
reading image P good value long = by (eqb (length image) IMAGE) (image_good image) refl refl
  where
    by : (l g : Bool) → eqb (length image) IMAGE ≡ l → image_good image ≡ g
        → P (cond l (cond g (Ok (record_in image)) (Err BadRecord)) (Err BadBuffer))
    by true true hl hg = good (eqb-true (length image) IMAGE hl) hg
    by true false hl hg = value
    by false g hl hg = long

never : {A : Type 0} (why : Refusal) (e : End) → ◌≡◌ {A = Result End Refusal} (Err why) (Ok e) → A
never why e h = absurd cc

module _ (image : List ℕ) (e : End) where
  pub record_known : image_read image ≡ Ok e → (length image ≡ IMAGE) × (image_good image ≡ true) × (record_in image ≡ e)
  record_known =
      reading image (λ (r : Result End Refusal). r ≡ Ok e → (length image ≡ IMAGE) × (image_good image ≡ true) × (record_in image ≡ e))
      (λ l g h. (l, g, cc)) (never BadRecord e) (never BadBuffer e)
