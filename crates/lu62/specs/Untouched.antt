-- What is claimed of the calls on an image as a whole. Proved in proofs/, and promised by the function `theorems::refused_changes_nothing`.
-- Assumes nothing.
use Rattle.std.specs.Prelude.{◌≡◌, Bool, false, List, ℕ, ◌<◌, eqb}
use Rattle.control.specs.declared.Deferred.{Deferred}
use Rattle.image.specs.ImageParts.{byte_at}
use Rattle.lu62.specs.Handing.{Handed, Left}
use Rattle.lu62.specs.Exported.{allocate_on, send_data_on, flush_on, confirm_on, prepare_to_receive_on, deallocate_on, defer_on, withdraw_on}
use Rattle.lu62.specs.Exported.{confirmed_on, send_error_on, request_to_send_on, send_pacing_response_on, receive_unit_on, receive_expedited_on, receive_on}

-- an image's values are bytes, which is always so of the code's u8
abbrev pub Bytes : List ℕ → Type 0
Bytes image = (i : ℕ) → byte_at image i < 256

-- where a refusal number is returned, the image and the cells lent are what they were
abbrev pub Untouched : {Cells : Type 0} → List ℕ → Cells → Left Cells → Type 0
Untouched image cells l = eqb l.out.returned 0 ≡ false → (l.out.image ≡ image) × (l.cells ≡ cells)

-- the same of a call that is lent no buffer
abbrev pub ImageUntouched : List ℕ → Handed → Type 0
ImageUntouched image h = eqb h.returned 0 ≡ false → h.image ≡ image

-- a call that is refused changes nothing
pub record RefusedChangesNothing : Type 0 where
  pub allocate : (image unit : List ℕ) → Bytes image → Untouched image unit (allocate_on image unit)
  pub send_data : (bytes image send unit : List ℕ) → Bytes image → Untouched image (send, unit) (send_data_on bytes image send unit)
  pub flush : (send image unit : List ℕ) → Bytes image → Untouched image unit (flush_on send image unit)
  pub confirm : (send image unit : List ℕ) → Bytes image → Untouched image unit (confirm_on send image unit)
  pub prepare_to_receive : (b : Bool) (send image unit : List ℕ) → Bytes image → Untouched image unit (prepare_to_receive_on b send image unit)
  pub deallocate : (b : Bool) (send image unit : List ℕ) → Bytes image → Untouched image unit (deallocate_on b send image unit)
  pub defer : (what : Deferred) (image : List ℕ) → Bytes image → ImageUntouched image (defer_on what image)
  pub withdraw : (image : List ℕ) → Bytes image → ImageUntouched image (withdraw_on image)
  pub confirmed : (image unit : List ℕ) → Bytes image → Untouched image unit (confirmed_on image unit)
  pub send_error : (image unit : List ℕ) → Bytes image → Untouched image unit (send_error_on image unit)
  pub request_to_send : (image unit : List ℕ) → Bytes image → Untouched image unit (request_to_send_on image unit)
  pub send_pacing_response : (image unit : List ℕ) → Bytes image → Untouched image unit (send_pacing_response_on image unit)
  pub receive_unit : (taken image inbox unit : List ℕ) → Bytes image → Untouched image (inbox, unit) (receive_unit_on taken image inbox unit)
  pub receive_expedited : (taken image unit : List ℕ) → Bytes image → Untouched image unit (receive_expedited_on taken image unit)
  pub receive : (image inbox buffer : List ℕ) → Bytes image → Untouched image (inbox, buffer) (receive_on image inbox buffer)
