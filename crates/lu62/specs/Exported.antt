-- Opening, by numbers and by bytes, and the fifteen calls on an image: each is the end's own definition at the record that the image holds.
-- Assumes nothing.
use Rattle.std.specs.Prelude.{ℕ, Bool, true, false, cond, List, eqb, length}
use Rattle.header.specs.declared.Follows.{Follows}
use Rattle.header.specs.declared.Follows.TheVariants.{Stay, ChangeDirection, EndBracket}
use Rattle.control.specs.declared.Deferred.{Deferred}
use Rattle.answers.specs.Answers.{BAD_BUFFER}
use Rattle.end.specs.Outcome.{Made, Sent, Taken, TakenExpedited, Copied}
use Rattle.bind.specs.SessionBytes.{size_byte}
use Rattle.session.specs.Opening.{opened}
use Rattle.session.specs.BindOpening.{opened_by_bytes}
use Rattle.end.specs.Allocate.{allocate}
use Rattle.end.specs.SendData.{send_data}
use Rattle.end.specs.Close.{close}
use Rattle.end.specs.Defer.{defer, withdraw}
use Rattle.end.specs.Confirmed.{confirmed}
use Rattle.end.specs.SendError.{send_error}
use Rattle.end.specs.RequestToSend.{request_to_send}
use Rattle.end.specs.SendPacingResponse.{send_pacing_response}
use Rattle.end.specs.ReceiveUnit.{receive_unit}
use Rattle.end.specs.ReceiveExpedited.{receive_expedited}
use Rattle.end.specs.Receive.{receive}
use Rattle.session.specs.declared.Session.{Session}
use Rattle.session.specs.declared.bind_opening.SessionBytes.{SessionBytes}
use Rattle.end.specs.declared.Done.{Done}
use Rattle.answers.specs.declared.Answer.{Answer}
use Rattle.image.specs.Image.{IMAGE}
use Rattle.lu62.specs.Handing.{answer_numbers, read_numbers, expedited_numbers, Handed, handed_out, handed_back, Left, left, on_image, on_image_alone}

-- ---- what each kind of call leaves, with its cells

abbrev pub done_out : Done Answer → Handed
done_out d = handed_out (answer_numbers d.answer) d.end

abbrev pub made_out : Made → Left (List ℕ)
made_out m = left (done_out m.done) m.unit

-- the send buffer and the unit buffer
abbrev pub sent_out : Sent → Left (List ℕ × List ℕ)
sent_out m = left (done_out m.done) (m.send, m.unit)

-- the inbox and the unit buffer
abbrev pub taken_out : Taken → Left (List ℕ × List ℕ)
taken_out m = left (done_out m.done) (m.inbox, m.unit)

-- the unit buffer, behind a take on the expedited line
abbrev pub expedited_out : TakenExpedited → Left (List ℕ)
expedited_out m = left (handed_out (expedited_numbers m.done.answer) m.done.end) m.unit

-- the inbox and the caller's buffer
abbrev pub copied_out : Copied → Left (List ℕ × List ℕ)
copied_out m = left (handed_out (read_numbers m.done.answer) m.done.end) (m.inbox, m.buffer)

-- ---- the calls

abbrev pub session : ℕ → ℕ → ℕ → ℕ → ℕ → Session
session role outwindow inwindow outmax inmax =
    record { role = role; outwindow = outwindow; inwindow = inwindow; outmax = outmax; inmax = inmax }

-- of the image opening asks the length alone, and leaves one of a wrong length as it was; refused for anything else, it leaves the image
-- of a record of zeros
unfoldable pub opening_out : Done Answer → List ℕ → Handed
opening_out d image = cond (eqb (length image) IMAGE) (done_out d) (handed_back BAD_BUFFER image)

abbrev pub opened_on : Session → ℕ → ℕ → ℕ → List ℕ → Handed
opened_on s send unit inbox image = opening_out (opened s send unit inbox) image

-- document 02: opening from the session's own bytes
abbrev pub session_bytes : ℕ → ℕ → ℕ → ℕ → ℕ → SessionBytes
session_bytes role outwindow inwindow outsize insize =
    record { role = role; outwindow = outwindow; inwindow = inwindow; outsize = outsize; insize = insize }

abbrev pub opened_by_bytes_on : SessionBytes → ℕ → ℕ → ℕ → List ℕ → Handed
opened_by_bytes_on b send unit inbox image = opening_out (opened_by_bytes b send unit inbox) image

-- and the way back: the value returned, and the byte
abbrev pub size_byte_out : ℕ → ℕ × ℕ
size_byte_out size = ((size_byte size).answer.refusal, (size_byte size).byte)

abbrev pub allocate_on : List ℕ → List ℕ → Left (List ℕ)
allocate_on image unit = on_image image unit (λ e. made_out (allocate e unit))

abbrev pub send_data_on : List ℕ → List ℕ → List ℕ → List ℕ → Left (List ℕ × List ℕ)
send_data_on bytes image send unit = on_image image (send, unit) (λ e. sent_out (send_data e bytes send unit))

-- the closing call, of which the next four are names
abbrev pub close_on : Follows → Bool → List ℕ → List ℕ → List ℕ → Left (List ℕ)
close_on follows confirms send image unit = on_image image unit (λ e. made_out (close follows confirms e send unit))

abbrev pub flush_on : List ℕ → List ℕ → List ℕ → Left (List ℕ)
flush_on send image unit = close_on Stay false send image unit

abbrev pub confirm_on : List ℕ → List ℕ → List ℕ → Left (List ℕ)
confirm_on send image unit = close_on Stay true send image unit

abbrev pub prepare_to_receive_on : Bool → List ℕ → List ℕ → List ℕ → Left (List ℕ)
prepare_to_receive_on confirms send image unit = close_on ChangeDirection confirms send image unit

abbrev pub deallocate_on : Bool → List ℕ → List ℕ → List ℕ → Left (List ℕ)
deallocate_on confirms send image unit = close_on EndBracket confirms send image unit

-- document 02: prepare; what is prepared is a turn or an end
abbrev pub defer_on : Deferred → List ℕ → Handed
defer_on what image = on_image_alone image (λ e. done_out (defer what e))

abbrev pub withdraw_on : List ℕ → Handed
withdraw_on image = on_image_alone image (λ e. done_out (withdraw e))

abbrev pub confirmed_on : List ℕ → List ℕ → Left (List ℕ)
confirmed_on image unit = on_image image unit (λ e. made_out (confirmed e unit))

-- document 02: no confirmation, with a cause
abbrev pub send_error_on : List ℕ → List ℕ → Left (List ℕ)
send_error_on image unit = on_image image unit (λ e. made_out (send_error e unit))

-- document 02: request to send
abbrev pub request_to_send_on : List ℕ → List ℕ → Left (List ℕ)
request_to_send_on image unit = on_image image unit (λ e. made_out (request_to_send e unit))

abbrev pub send_pacing_response_on : List ℕ → List ℕ → Left (List ℕ)
send_pacing_response_on image unit = on_image image unit (λ e. made_out (send_pacing_response e unit))

abbrev pub receive_unit_on : List ℕ → List ℕ → List ℕ → List ℕ → Left (List ℕ × List ℕ)
receive_unit_on taken image inbox unit = on_image image (inbox, unit) (λ e. taken_out (receive_unit e taken inbox unit))

-- document 02: take on the expedited line
abbrev pub receive_expedited_on : List ℕ → List ℕ → List ℕ → Left (List ℕ)
receive_expedited_on taken image unit = on_image image unit (λ e. expedited_out (receive_expedited e taken unit))

abbrev pub receive_on : List ℕ → List ℕ → List ℕ → Left (List ℕ × List ℕ)
receive_on image inbox buffer = on_image image (inbox, buffer) (λ e. copied_out (receive e inbox buffer))
