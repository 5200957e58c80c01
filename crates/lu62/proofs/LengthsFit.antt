-- The lengths in an answer fit 32 bits: a unit made is short, by the law of each call, and a read copies at most what is held.
-- Assumes nothing.
use Prim.Native.Nat.{ℕ, ◌<◌}
use mathlib.Core.Bool.{Bool, true, false, cond}
use mathlib.Core.List.{List, []}
use native.Mathlib.Omega.{arith}
use lib.Dec.{eqb}
use Rattle.header.specs.declared.Follows.{Follows}
use Rattle.control.specs.declared.Deferred.{Deferred}
use Rattle.session.specs.OpeningQuestions.{opening_refusal}
use Rattle.session.specs.declared.Session.{Session}
use Rattle.session.specs.Opening.{opened}
use Rattle.end.specs.Allocate.{allocate}
use Rattle.end.specs.SendData.{send_data}
use Rattle.end.specs.Close.{close}
use Rattle.end.specs.Defer.{defer, withdraw}
use Rattle.end.specs.Confirmed.{confirmed}
use Rattle.end.specs.SendError.{send_error}
use Rattle.end.specs.RequestToSend.{request_to_send}
use Rattle.end.specs.SendPacingResponse.{send_pacing_response}
use Rattle.end.specs.ReceiveUnit.{receive_unit}
use Rattle.end.specs.ReceiveExpedited.{receive_expedited}
use Rattle.end.specs.Receive.{bytes_read, mark_read, receive}
use Rattle.end.specs.declared.End.{End}
use Rattle.end.specs.declared.Done.{Done}
use Rattle.answers.specs.declared.Answer.{Answer}
use Rattle.calls.specs.Calls.{Station, Verb, Called, called, taken, taken_expedited}
use Rattle.calls.proofs.CallCases.{read_cases}
use Rattle.calls.proofs.CallBytes.{count_held}
use Rattle.calls.proofs.UnitSizes.{Fits, acts_fit, takes_fit, expedited_fit}

-- one more than the greatest number of 32 bits
abbrev pub WORD : ℕ
WORD = 4294967296

-- an end with the cells that a call is lent, and none where it is lent none
abbrev pub at : End → List ℕ → List ℕ → List ℕ → Station
at e send unit inbox = record { end = e; send = send; unit = unit; inbox = inbox }

word : (n : ℕ) (cells : List ℕ) → Fits n cells → n < WORD
word n cells f = let h = f.short in omega (arith, h)

pub opened_small : (s : Session) (send unit inbox : ℕ) → (opened s send unit inbox).answer.unit < WORD
unfolding opened
opened_small s send unit inbox = by (eqb (opening_refusal s send unit inbox) 0) _ _ (omega arith) (omega arith)
  where
    by : (b : Bool) (x y : Done Answer) → x.answer.unit < WORD → y.answer.unit < WORD → (cond b x y).answer.unit < WORD
    by true x y p q = p
    by false x y p q = q

pub allocate_small : (e : End) (unit : List ℕ) → (allocate e unit).done.answer.unit < WORD
unfolding called
allocate_small e unit = word _ _ (acts_fit (at e [] unit []) Verb.allocate)

pub confirmed_small : (e : End) (unit : List ℕ) → (confirmed e unit).done.answer.unit < WORD
unfolding called
confirmed_small e unit = word _ _ (acts_fit (at e [] unit []) Verb.confirmed)

pub error_small : (e : End) (unit : List ℕ) → (send_error e unit).done.answer.unit < WORD
unfolding called
error_small e unit = word _ _ (acts_fit (at e [] unit []) Verb.send_error)

pub request_small : (e : End) (unit : List ℕ) → (request_to_send e unit).done.answer.unit < WORD
unfolding called
request_small e unit = word _ _ (acts_fit (at e [] unit []) Verb.request_to_send)

pub pacing_response_small : (e : End) (unit : List ℕ) → (send_pacing_response e unit).done.answer.unit < WORD
unfolding called
pacing_response_small e unit = word _ _ (acts_fit (at e [] unit []) Verb.send_pacing_response)

pub close_small : (f : Follows) (asked : Bool) (e : End) (send unit : List ℕ) → (close f asked e send unit).done.answer.unit < WORD
unfolding called
close_small f asked e send unit = word _ _ (acts_fit (at e send unit []) (Verb.close f asked))

pub defer_small : (what : Deferred) (e : End) → (defer what e).answer.unit < WORD
unfolding called
defer_small what e = word _ _ (acts_fit (at e [] [] []) (Verb.defer what))

pub withdraw_small : (e : End) → (withdraw e).answer.unit < WORD
unfolding called
withdraw_small e = word _ _ (acts_fit (at e [] [] []) Verb.withdraw)

pub send_small : (e : End) (bytes send unit : List ℕ) → (send_data e bytes send unit).done.answer.unit < WORD
unfolding called
send_small e bytes send unit = word _ _ (acts_fit (at e send unit []) (Verb.send_data bytes))

pub take_small : (e : End) (u inbox unit : List ℕ) → (receive_unit e u inbox unit).done.answer.unit < WORD
unfolding taken
take_small e u inbox unit = word _ _ (takes_fit (at e [] unit inbox) u)

pub expedited_small : (e : End) (u unit : List ℕ) → (receive_expedited e u unit).done.answer.answer.unit < WORD
unfolding taken_expedited
expedited_small e u unit = word _ _ (expedited_fit (at e [] unit []) u)

-- a read makes no unit, and copies at most the bytes held
module _ (e : End) (inbox buffer : List ℕ) where
  pub read_small : (receive e inbox buffer).done.answer.answer.unit < WORD
  unfolding called
  read_small = word _ _ (acts_fit (at e [] [] inbox) (Verb.receive buffer))

  pub count_small : e.receiving.held < 65536 → (receive e inbox buffer).done.answer.copied < WORD
  unfolding called bytes_read mark_read
  count_small h =
      read_cases (λ (m : Called). m.answer.answer.copied < WORD) (at e [] [] inbox) buffer
      (λ q w n. omega arith) (λ a k. omega (arith, count_held (at e [] [] inbox) buffer, h)) (λ a k m. omega arith)

pub ruleset small = (
  allocate_small,
  confirmed_small,
  error_small,
  request_small,
  pacing_response_small,
  close_small,
  send_small,
  take_small,
  expedited_small,
  read_small,
  count_small,
)

pub ruleset small_alone = (defer_small, withdraw_small)
