-- What an end's call leaves is what the call as one function leaves, by the buffers that it is lent.
-- Assumes nothing.
use Prim.Native.Nat.{ℕ}
use mathlib.Core.Path.{◌≡◌, refl, ap, ◌∙◌}
use mathlib.Core.Bool.{false}
use mathlib.Core.List.{List, []}
use Rattle.end.specs.Outcome.{Copied}
use Rattle.end.specs.Results.{copied_by}
use Rattle.control.specs.declared.Deferred.{Deferred}
use Rattle.end.specs.Defer.{defer, withdraw}
use Rattle.end.specs.Receive.{bytes_read, mark_read, receive}
use Rattle.end.specs.declared.Done.{Done}
use Rattle.answers.specs.declared.Answer.{Answer}
use Rattle.answers.specs.declared.ReadAnswer.{ReadAnswer}
use Rattle.calls.specs.Calls.{Called, Reply, Station, called, copies, hands, units_of}
use Rattle.calls.proofs.CallCases.{defer_cases, withdraw_cases, read_cases}
use Rattle.joined.specs.Ends.{normal}
use Rattle.script.specs.declared.Verb.{Verb}
use Rattle.script.specs.declared.Verb.TheVariants.{Defer, Withdraw, Receive}
use Rattle.bench.specs.CallMade.{is_read, verb_lane, station_of, acted_by, plain_done}

-- a call that is lent nothing leaves every cell, and no unit goes where it makes none
handed_left : (v : Verb) (s : Station) (r d : Done Answer) (buffer : List ℕ) → is_read v ≡ false → verb_lane v ≡ normal → r ≡ d → d.answer.unit ≡ 0
    → acted_by v (plain_done r) s.send s.unit s.inbox buffer ≡ hands s d
handed_left v s r d buffer n l e z = rw (e, n, l, z)

-- prepare makes no unit
none_deferred : (s : Station) (what : Deferred) → (defer what s.end).answer.unit ≡ 0
unfolding called
none_deferred s what = defer_cases (λ (m : Called). m.answer.answer.answer.unit ≡ 0) s what (λ q n. refl) (λ a. refl)

pub deferred_left : (s : Station) (what : Deferred) (r : Done Answer) (buffer : List ℕ) → r ≡ defer what s.end
    → acted_by (Defer what) (plain_done r) s.send s.unit s.inbox buffer ≡ hands s (defer what s.end)
deferred_left s what r buffer e = handed_left (Defer what) s r (defer what s.end) buffer refl refl e (none_deferred s what)

-- withdraw makes no unit
none_withdrawn : (s : Station) → (withdraw s.end).answer.unit ≡ 0
unfolding called
none_withdrawn s = withdraw_cases (λ (m : Called). m.answer.answer.answer.unit ≡ 0) s (λ q n. refl) (λ g a. refl)

pub withdrawn_left : (s : Station) (r : Done Answer) (buffer : List ℕ) → r ≡ withdraw s.end
    → acted_by Withdraw (plain_done r) s.send s.unit s.inbox buffer ≡ hands s (withdraw s.end)
withdrawn_left s r buffer e = handed_left Withdraw s r (withdraw s.end) buffer refl refl e (none_withdrawn s)

-- a read makes no unit
no_unit : (s : Station) (buffer : List ℕ) → (receive s.end s.inbox buffer).done.answer.answer.unit ≡ 0
unfolding called bytes_read mark_read
no_unit s buffer =
    read_cases (λ (m : Called). m.answer.answer.answer.unit ≡ 0) s buffer (λ q w n. refl) (λ a h. refl) (λ a h m. refl)

pub copied_left : (s : Station) (r : Done ReadAnswer) (inbox buffer before : List ℕ) → copied_by r inbox buffer ≡ receive s.end s.inbox before
    → acted_by Receive r s.send s.unit inbox buffer ≡ copies s (receive s.end s.inbox before)
copied_left s r inbox buffer before e =
    let z : r.answer.answer.unit ≡ 0 =
    ap (λ (m : Copied). m.done.answer.answer.unit) e ∙ no_unit s before in
    let answers : Reply = record { answer = r.answer; buffer = buffer; signalled = false } in
    ap (λ (n : ℕ). record { end = station_of r.end s.send s.unit inbox; answer = answers; sent = units_of n s.unit; expedited = [] }) z
    ∙ ap (copies s) e
