-- `bench::made_call::take` meets its contract. On each line the unit is taken as by two joined ends, by what the end's call ensures.
-- Assumes nothing.
use mathlib.Core.Path.{ap}
use Rattle.end.specs.Outcome.{Taken, TakenExpedited}
use Rattle.calls.specs.Calls.{taken, taken_expedited}
use Rattle.script.specs.declared.Flow.TheVariants as flow
use Rattle.bench.specs.CallMade.{unit_told, signal_told, taken_by}
use Rattle.bench.proofs.made_call.take.Goals as goal

pub returns-in-Normal : goal.returns-in-Normal
unfolding taken
returns-in-Normal c =
    rw (c.in-Normal.is, c.unit_told.ensures)
    (λ send. ap (λ (t : Taken). taken_by flow.Normal (unit_told t.done) send t.unit t.inbox) c.receive_unit.ensures)

pub returns-in-Expedited : goal.returns-in-Expedited
unfolding taken_expedited
returns-in-Expedited c =
    let a = c.args in
    rw (c.in-Expedited.is, c.signal_told.ensures)
    (λ send.
    ap (λ (t : TakenExpedited). taken_by flow.Expedited (signal_told t.done) send t.unit a.inbox.now) c.receive_expedited.ensures)
