-- The order in which an image is asked: one "no" refuses it, and where every answer is "yes" it holds a record.
-- Assumes nothing.
use mathlib.Core.Path.{◌≡◌, refl, sym, ◌∙◌}
use mathlib.Core.Bool.{Bool, true, false, cond, ◌&&◌}
use mathlib.Core.List.{List, [], ◌∷◌}
use Prim.Native.Nat.{ℕ, suc}
use lib.ListN.{length, get_or}
use borrow.Author.Tests.{ne_eqb}
use Rattle.answers.specs.declared.refusals.Refusal.{Refusal}
use Rattle.answers.specs.declared.refusals.Refusal.TheVariants.{BadBuffer, BadRecord}
use Rattle.std.specs.Option.{ok_or}
use Rattle.std.proofs.Common.{Option, Some, None, Result, Ok, Err}
use Rattle.logical_record.specs.declared.Position.{Position}
use Rattle.end.specs.declared.End.{End}
use Rattle.image.specs.ImageParts.{place_at, place_good, place_read}
use Rattle.image.specs.Image.{IMAGE, format_good, codes_good, flags_good, places_good, record_in, image_good, good_record, image_read}
use Rattle.image.proofs.OneByOne.{one_no}

-- what a place that was read, or was not, says of its bytes
module _ (image : List ℕ) (at : ℕ) where
  pub no_place : {r : Option Position} → r ≡ place_read image at → r ≡ None → place_good image at ≡ false
  no_place {r} p h = by (place_good image at) refl (sym p ∙ h)
    where
      by : (g : Bool) → place_good image at ≡ g → ◌≡◌ {A = Option Position} (cond g (Some (place_at image at)) None) None → place_good image at ≡ false
      by false e k = e
      by true e k = absurd cc

  pub some_place : {r : Option Position} {p : Position} → r ≡ place_read image at → r ≡ Some p → (place_good image at ≡ true) × (p ≡ place_at image at)
  some_place {r} {p} q h = by (place_good image at) refl (sym q ∙ h)
    where
      by : (g : Bool) → place_good image at ≡ g → ◌≡◌ {A = Option Position} (cond g (Some (place_at image at)) None) (Some p) → (place_good image at ≡ true) × (p ≡ place_at image at)
      by true e k = (e, cc)
      by false e k = absurd cc

first_no : (f a b d : Bool) → f && a && b ≡ false → f && (a && (b && d)) ≡ false
first_no true true b d h = rw h
first_no true false b d h = refl
first_no false a b d h = refl

first_yes : (f a b d : Bool) → f && a && b ≡ true → d ≡ true → f && (a && (b && d)) ≡ true
first_yes true true true d h k = k
first_yes true true false d h k = absurd cc
first_yes true false b d h k = absurd cc
first_yes false a b d h k = absurd cc

module _ (image : List ℕ) where
  no : image_good image ≡ false → ◌≡◌ {A = Option End} None (good_record image)
  no g = rw g

  pub bad_values : {f a b : Bool} → f ≡ format_good image → a ≡ codes_good image → b ≡ flags_good image → f && a && b ≡ false
      → ◌≡◌ {A = Option End} None (good_record image)
  unfolding image_good
  bad_values {f} {a} {b} p q r h = no (first_no (format_good image) (codes_good image) (flags_good image) (places_good image) (rw (← p, ← q, ← r) h))

  bad_place : (k : ℕ) → get_or (place_good image 18 ∷ place_good image 32 ∷ place_good image 35 ∷ []) k true ≡ false
      → ◌≡◌ {A = Option End} None (good_record image)
  unfolding image_good
  bad_place k h =
      no
      (one_no (format_good image ∷ codes_good image ∷ flags_good image ∷ place_good image 18 ∷ place_good image 32 ∷ place_good image 35 ∷ [])
      (suc (suc (suc k))) h)

  pub bad_given : {r : Option Position} → r ≡ place_read image 18 → r ≡ None → ◌≡◌ {A = Option End} None (good_record image)
  bad_given p h = bad_place 0 (no_place image 18 p h)

  pub bad_taken : {r : Option Position} → r ≡ place_read image 32 → r ≡ None → ◌≡◌ {A = Option End} None (good_record image)
  bad_taken p h = bad_place 1 (no_place image 32 p h)

  pub bad_read : {r : Option Position} → r ≡ place_read image 35 → r ≡ None → ◌≡◌ {A = Option End} None (good_record image)
  bad_read p h = bad_place 2 (no_place image 35 p h)

  pub all_good : {f a b : Bool} {e : End} → f ≡ format_good image → a ≡ codes_good image → b ≡ flags_good image → f && a && b ≡ true
      → place_good image 18 ≡ true → place_good image 32 ≡ true → place_good image 35 ≡ true
      → e ≡ record_in image → ◌≡◌ {A = Option End} (Some e) (good_record image)
  unfolding image_good
  all_good {f} {a} {b} {e} p q r v x y z k =
      let places : places_good image ≡ true = rw (x, y, z) in
      let g : image_good image ≡ true =
      first_yes (format_good image) (codes_good image) (flags_good image) (places_good image) (rw (← p, ← q, ← r) v) places in
      rw (g, k)

-- what the code has asked: the length, and then whether every value is good
module _ (image : List ℕ) where
  pub bad_length : (length image ≡ IMAGE → ⊥) → ◌≡◌ {A = Result End Refusal} (Err BadBuffer) (image_read image)
  unfolding image_read
  bad_length l = rw (ne_eqb (length image) IMAGE l)

  pub good_length : length image ≡ IMAGE → ok_or (good_record image) BadRecord ≡ image_read image
  unfolding image_read
  good_length l = rw l (by (image_good image))
    where
      by : (g : Bool) → ok_or {E = Refusal} (cond g (Some (record_in image)) None) BadRecord ≡ cond g (Ok (record_in image)) (Err BadRecord)
      by true = refl
      by false = refl
