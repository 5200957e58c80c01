-- A record written is read back as the same record; an image that holds a record is what writing it leaves.
-- Assumes nothing.
use mathlib.Core.Path.{◌≡◌, refl, sym, ap, ◌∙◌}
use mathlib.Core.Bool.{Bool, true}
use mathlib.Core.List.{List, [], ◌∷◌, ◌++◌}
use Prim.Native.Nat.{ℕ, ◌+◌, ◌<◌}
use lib.Dec.{leb}
use lib.ListN.{length}
use borrow.Author.Tests.{eqb-true}
use Rattle.end.specs.declared.End.{End}
use Rattle.image.specs.ImageParts.{byte_at, flag_byte, flag_at, flag_good, number_bytes, number_at, window_bytes, window_at, place_bytes, place_at, place_good, first_byte}
use Rattle.image.specs.Image.{IMAGE, FORMAT, image_of, record_in, control_bytes, control_in, format_good, codes_good, flags_good, places_good, image_good, image_read}
use Rattle.std.proofs.Common.{Ok}
use Rattle.image.proofs.BackAndForth.{role_back, state_back, follows_back, mark_back, flag_back, number_back, place_back, role_good, state_good, follows_good, mark_good, flag_good_lem, place_good_lem, role_there, state_there, follows_there, mark_there, flag_there, number_there, place_there}
use Rattle.image.proofs.OneByOne.{listed, listed_is, each}
use Rattle.image.proofs.WhatIsRead.{record_known}

module _ (e : End) (g : first_byte e.sending.given < 256) (t : first_byte e.receiving.taken < 256) (r : first_byte e.receiving.read < 256) where
  record_back : record_in (image_of e) ≡ e
  unfolding record_in image_of
  record_back =
      rw (
        role_back e.control.role,
        state_back e.control.state,
        follows_back e.control.follows,
        mark_back e.control.mark,
        flag_back e.control.due,
        flag_back e.control.error,
        flag_back e.control.bid,
        flag_back e.control.outchain,
        flag_back e.control.inchain,
        flag_back e.sending.window.pending,
        number_back e.sending.max,
        number_back e.sending.held,
        number_back e.sending.number,
        place_back e.sending.given g,
        flag_back e.receiving.window.pending,
        number_back e.receiving.max,
        number_back e.receiving.inbox,
        number_back e.receiving.held,
        number_back e.receiving.number,
        place_back e.receiving.taken t,
        place_back e.receiving.read r,
        number_back e.bidding,
        number_back e.owed,
        flag_back e.expedited.unanswered,
        number_back e.expedited.sent,
        number_back e.expedited.taken,
      )

  image_good_lem : image_good (image_of e) ≡ true
  unfolding image_good image_of
  image_good_lem =
      rw (
        role_good e.control.role,
        state_good e.control.state,
        follows_good e.control.follows,
        mark_good e.control.mark,
        flag_good_lem e.control.due,
        flag_good_lem e.control.error,
        flag_good_lem e.control.bid,
        flag_good_lem e.control.outchain,
        flag_good_lem e.control.inchain,
        flag_good_lem e.sending.window.pending,
        flag_good_lem e.receiving.window.pending,
        flag_good_lem e.expedited.unanswered,
        place_good_lem e.sending.given g,
        place_good_lem e.receiving.taken t,
        place_good_lem e.receiving.read r,
      )

  image_length : length (image_of e) ≡ IMAGE
  unfolding image_of
  image_length = refl

  pub written_is_read : image_read (image_of e) ≡ Ok e
  unfolding image_read
  written_is_read = rw (image_length, image_good_lem, record_back)

-- ---- read, and written again

beside : {a a' b b' : List ℕ} → a ≡ a' → b ≡ b' → a ++ b ≡ a' ++ b'
beside {a} {a'} {b} {b'} p q = rw (p, q)

module _ (image : List ℕ) (bytes : (i : ℕ) → byte_at image i < 256) where
  -- the row of `flags_good`
  abbrev flags : List Bool
  flags =
      flag_good image 5 ∷ flag_good image 6 ∷ flag_good image 7 ∷ flag_good image 8
      ∷ flag_good image 11 ∷ flag_good image 23 ∷ flag_good image 42 ∷ flag_good image 43 ∷ []

  numbers : (at : ℕ) → number_bytes (number_at image at) ≡ byte_at image at ∷ byte_at image (at + 1) ∷ []
  numbers at = number_there (byte_at image at) (byte_at image (at + 1)) (bytes at)

  flagged : (at : ℕ) → flag_good image at ≡ true → ◌≡◌ {A = List ℕ} (flag_byte (flag_at image at) ∷ []) (byte_at image at ∷ [])
  flagged at h = rw (flag_there (byte_at image at) h)

  windows : (at : ℕ) → flag_good image (at + 2) ≡ true
      → window_bytes (window_at image at) ≡ byte_at image at ∷ byte_at image (at + 1) ∷ byte_at image (at + 2) ∷ []
  windows at h = rw (flag_there (byte_at image (at + 2)) h)

  places : (at : ℕ) → place_good image at ≡ true
      → place_bytes (place_at image at) ≡ byte_at image at ∷ byte_at image (at + 1) ∷ byte_at image (at + 2) ∷ []
  places at h = place_there (byte_at image at) (byte_at image (at + 1)) (byte_at image (at + 2)) (bytes (at + 1)) h

  controls : format_good image ≡ true → codes_good image ≡ true → flags_good image ≡ true → FORMAT ∷ control_bytes (control_in image) ≡ listed image 0 9
  controls g h f =
      let b = byte_at image in
      let t = each (leb (b 1) 1 ∷ leb (b 2) 6 ∷ leb (b 3) 2 ∷ leb (b 4) 6 ∷ []) h in
      let l = each flags f in
      rw (
        eqb-true (b 0) FORMAT g,
        role_there (b 1) (t 0),
        state_there (b 2) (t 1),
        follows_there (b 3) (t 2),
        mark_there (b 4) (t 3),
        flag_there (b 5) (l 0),
        flag_there (b 6) (l 1),
        flag_there (b 7) (l 2),
        flag_there (b 8) (l 3),
      )

  whole : image_good image ≡ true → image_of (record_in image) ≡ listed image 0 IMAGE
  unfolding image_good image_of record_in
  whole h =
      let t = each (format_good image ∷ codes_good image ∷ flags_good image ∷ places_good image ∷ []) h in
      let l = each flags (t 2) in
      let p = each (place_good image 18 ∷ place_good image 32 ∷ place_good image 35 ∷ []) (t 3) in
      let sending = beside (beside (beside (beside (windows 9 (l 4)) (numbers 12)) (numbers 14)) (numbers 16)) (places 18 (p 0)) in
      let sizes = beside (beside (beside (beside (windows 21 (l 5)) (numbers 24)) (numbers 26)) (numbers 28)) (numbers 30) in
      let receiving = beside (beside sizes (places 32 (p 1))) (places 35 (p 2)) in
      let parts = beside (beside (beside (beside (controls (t 0) (t 1) (t 2)) sending) receiving) (numbers 38)) (numbers 40) in
      let lines = beside (beside (flagged 43 (l 7)) (numbers 44)) (numbers 46) in
      beside (beside parts (flagged 42 (l 6))) lines

  pub read_is_written : (e : End) → image_read image ≡ Ok e → image_of e ≡ image
  read_is_written e h =
      let k = record_known image e h in
      rw (← k.2) (whole k.1 ∙ ap (listed image 0) (sym k.0) ∙ listed_is image)
