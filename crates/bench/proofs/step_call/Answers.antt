-- `bench::step_call` meets its contract. A full line leaves all as it was; else the call is made, and its unit joins the line.
-- Assumes nothing.
use mathlib.Core.Path.{refl, sym, ◌∙◌}
use mathlib.Core.Bool.{true, false}
use borrow.Author.Tests.{leb-false}
use lib.ListN.{length}
use Rattle.script.specs.declared.Request.TheVariants.{Call}
use Rattle.bench.specs.CallMade.{verb_lane, station_of}
use Rattle.bench.specs.Step.{ways_of, placed, bench_of}
use Rattle.bench.proofs.Stepping.{counted, leads_here, full_step, call_fits, call_step}
use Rattle.bench.proofs.step_call.Goals as goal

pub returns-then-is_full : goal.returns-then-is_full
returns-then-is_full c =
    let a = c.args in
    λ waiting there es us vs held.
    let l = verb_lane a.verb in
    let here = ways_of a.lines waiting a.far.now in
    full_step (Call a.verb) a.given.now
    (bench_of a.end a.send.now a.unit.now a.inbox.now a.buffer.now (placed l here there)) es us vs
    (counted a.lines.to a.far.now (vs l) true (leads_here l here there us vs held) (sym c.is_full.ensures ∙ c.if-is_full.true))
    refl

pub returns : goal.returns
returns c =
    let a = c.args in
    let d = c.call-done in
    let joins = c.deliver-to in
    λ waiting there es us vs held.
    let l = verb_lane a.verb in
    let s = station_of a.end a.send.now a.unit.now a.inbox.now in
    let here = ways_of a.lines waiting a.far.now in
    let far_are = leads_here l here there us vs held in
    let n = counted a.lines.to a.far.now (vs l) false far_are (sym c.is_full.ensures ∙ c.if-is_full.false) in
    let fit = call_fits a.verb a.given.now s a.buffer.now here there d.result d.new.send d.new.unit
    d.new.inbox d.new.buffer d.ensures.acted in
    call_step a.verb a.given.now s a.buffer.now here there d.result d.new.send d.new.unit
    d.new.inbox d.new.buffer d.ensures.acted (record { from = a.lines.from; to = joins.result })
    joins.result joins.new.cells es us vs d.ensures.unread held
    (joins.ensures (vs l) far_are (leb-false 512 (length (vs l)) n) fit.short fit.there) n
