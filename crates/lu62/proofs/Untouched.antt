-- A call that is refused leaves the image and the cells lent as they were: the end's record is the same, and its image is the image that was read.
-- Assumes nothing.
use Prim.Native.Nat.{ℕ}
use mathlib.Core.Path.{◌≡◌, refl, ap, ◌∙◌}
use mathlib.Core.Bool.{Bool, true, false}
use mathlib.Core.List.{List, []}
use Rattle.header.specs.declared.Follows.{Follows}
use Rattle.header.specs.declared.Follows.TheVariants.{Stay, ChangeDirection, EndBracket}
use Rattle.end.specs.Outcome.{Made}
use Rattle.end.specs.Allocate.{allocate}
use Rattle.end.specs.SendData.{send_data}
use Rattle.end.specs.Close.{close}
use Rattle.end.specs.Defer.{defer, withdraw}
use Rattle.end.specs.Confirmed.{confirmed}
use Rattle.end.specs.SendError.{send_error}
use Rattle.end.specs.RequestToSend.{request_to_send}
use Rattle.end.specs.SendPacingResponse.{send_pacing_response}
use Rattle.end.specs.ReceiveUnit.{receive_unit}
use Rattle.end.specs.ReceiveExpedited.{receive_expedited}
use Rattle.end.specs.Receive.{receive}
use Rattle.end.specs.declared.End.{End}
use Rattle.end.specs.declared.Done.{Done}
use Rattle.answers.specs.declared.Answer.{Answer}
use Rattle.calls.specs.Calls.{Station, Verb, hands, makes, called, taken, taken_expedited}
use Rattle.calls.proofs.Refusals.{refused_nothing, refused_buffer, refused_take_nothing, refused_expedited_nothing}
use Rattle.image.specs.Image.{image_of, image_read}
use Rattle.std.proofs.Common.{Result, Ok, Err}
use Rattle.answers.specs.declared.refusals.Refusal.{Refusal}
use Rattle.image.proofs.ImageRoundTrip.{read_is_written}
use Rattle.lu62.specs.Handing.{Handed, Left, left, by_reading, on_image, on_image_alone}
use Rattle.lu62.specs.Exported.{done_out, made_out, sent_out, taken_out, expedited_out, copied_out, close_on}
use Rattle.lu62.specs.Untouched.{Bytes, Untouched, ImageUntouched, RefusedChangesNothing}
use Rattle.lu62.proofs.LengthsFit.{at}

on_image_lem : {Cells : Type 0} (image : List ℕ) (cells : Cells) (call : End → Left Cells) → Bytes image
    → ((e : End) → Untouched (image_of e) cells (call e)) → Untouched image cells (on_image image cells call)
on_image_lem {Cells} image cells call b f = by (image_read image) refl
  where
    by : (r : Result End Refusal) → image_read image ≡ r → Untouched image cells (by_reading image cells call r)
    by (Ok e) h n = let t = f e n in (t.0 ∙ read_is_written image b e h, t.1)
    by (Err why) h n = (refl, refl)

on_image_alone_lem : (image : List ℕ) (call : End → Handed) → Bytes image → ((e : End) → ImageUntouched (image_of e) (call e))
    → ImageUntouched image (on_image_alone image call)
on_image_alone_lem image call b f n = (on_image_lem {Cells = Unit {0}} image tt (λ e. left (call e) tt) b (λ e m. (f e m, refl)) n).0

-- ---- each call, at a record: the law of all calls, read off its cells

module _ (e : End) where
  -- a call that is lent the unit buffer, and the send buffer only to be read
  made_refused : (send unit : List ℕ) (v : Verb) (m : Made) → called (at e send unit []) v ≡ makes (at e send unit []) m → Untouched (image_of e) unit (made_out m)
  made_refused send unit v m p n =
      let h = rw p at (refused_nothing (at e send unit []) v (rw p n)).0 in
      (ap (λ (s : Station). image_of s.end) h, ap (λ (s : Station). s.unit) h)

  -- a call that is lent nothing
  done_refused : (v : Verb) (d : Done Answer) → called (at e [] [] []) v ≡ hands (at e [] [] []) d → ImageUntouched (image_of e) (done_out d)
  done_refused v d p n =
      let h = rw p at (refused_nothing (at e [] [] []) v (rw p n)).0 in
      ap (λ (s : Station). image_of s.end) h

  send_refused : (bytes send unit : List ℕ) → Untouched (image_of e) (send, unit) (sent_out (send_data e bytes send unit))
  unfolding called
  send_refused bytes send unit n =
      let h = (refused_nothing (at e send unit []) (Verb.send_data bytes) n).0 in
      (ap (λ (s : Station). image_of s.end) h, ap (λ (s : Station). (s.send, s.unit)) h)

  take_refused : (u inbox unit : List ℕ) → Untouched (image_of e) (inbox, unit) (taken_out (receive_unit e u inbox unit))
  unfolding taken
  take_refused u inbox unit n =
      let h = (refused_take_nothing (at e [] unit inbox) u n).0 in
      (ap (λ (s : Station). image_of s.end) h, ap (λ (s : Station). (s.inbox, s.unit)) h)

  request_refused : (unit : List ℕ) → Untouched (image_of e) unit (made_out (request_to_send e unit))
  unfolding called
  request_refused unit n =
      let h = (refused_nothing (at e [] unit []) Verb.request_to_send n).0 in
      (ap (λ (s : Station). image_of s.end) h, ap (λ (s : Station). s.unit) h)

  expedited_refused : (u unit : List ℕ) → Untouched (image_of e) unit (expedited_out (receive_expedited e u unit))
  unfolding taken_expedited
  expedited_refused u unit n =
      let h = (refused_expedited_nothing (at e [] unit []) u n).0 in
      (ap (λ (s : Station). image_of s.end) h, ap (λ (s : Station). s.unit) h)

  read_refused : (inbox buffer : List ℕ) → Untouched (image_of e) (inbox, buffer) (copied_out (receive e inbox buffer))
  unfolding called
  read_refused inbox buffer n =
      let s = at e [] [] inbox in
      let h = (refused_nothing s (Verb.receive buffer) n).0 in
      let b = refused_buffer s buffer n in
      (ap (λ (t : Station). image_of t.end) h, λ i. ((h i).inbox, b i))

close_refused : (f : Follows) (c : Bool) (send image unit : List ℕ) → Bytes image → Untouched image unit (close_on f c send image unit)
unfolding called
close_refused f c send image unit b = on_image_lem image unit _ b (λ e. made_refused e send unit (Verb.close f c) (close f c e send unit) refl)

pub refused_changes_nothing : RefusedChangesNothing
unfolding called
refused_changes_nothing =
    record {
      allocate = λ image unit b. on_image_lem image unit _ b (λ e. made_refused e [] unit Verb.allocate (allocate e unit) refl);
      send_data = λ bytes image send unit b. on_image_lem image (send, unit) _ b (λ e. send_refused e bytes send unit);
      flush = close_refused Stay false;
      confirm = close_refused Stay true;
      prepare_to_receive = close_refused ChangeDirection;
      deallocate = close_refused EndBracket;
      defer = λ what image b. on_image_alone_lem image _ b (λ e. done_refused e (Verb.defer what) (defer what e) refl);
      withdraw = λ image b. on_image_alone_lem image _ b (λ e. done_refused e Verb.withdraw (withdraw e) refl);
      confirmed = λ image unit b. on_image_lem image unit _ b (λ e. made_refused e [] unit Verb.confirmed (confirmed e unit) refl);
      send_error = λ image unit b. on_image_lem image unit _ b (λ e. made_refused e [] unit Verb.send_error (send_error e unit) refl);
      request_to_send = λ image unit b. on_image_lem image unit _ b (λ e. request_refused e unit);
      send_pacing_response = λ image unit b. on_image_lem image unit _ b (λ e. made_refused e [] unit Verb.send_pacing_response (send_pacing_response e unit) refl);
      receive_unit = λ taken image inbox unit b. on_image_lem image (inbox, unit) _ b (λ e. take_refused e taken inbox unit);
      receive_expedited = λ taken image unit b. on_image_lem image unit _ b (λ e. expedited_refused e taken unit);
      receive = λ image inbox buffer b. on_image_lem image (inbox, buffer) _ b (λ e. read_refused e inbox buffer);
    }
