-- `bench::step_offer` meets its contract. A full line leaves all as it was; else the unit is taken, and what it makes joins the line.
-- Assumes nothing.
use mathlib.Core.Path.{refl, sym, ◌∙◌}
use mathlib.Core.Bool.{true, false}
use borrow.Author.Tests.{leb-false}
use lib.ListN.{length}
use Rattle.script.specs.declared.Request.TheVariants.{Offer}
use Rattle.bench.specs.CallMade.{flow_lane, station_of}
use Rattle.bench.specs.Step.{ways_of, placed, bench_of}
use Rattle.bench.proofs.Stepping.{counted, leads_here, full_step, offer_fits, offer_step}
use Rattle.bench.proofs.step_offer.Goals as goal

pub returns-then-is_full : goal.returns-then-is_full
returns-then-is_full c =
    let a = c.args in
    λ send buffer waiting there es us vs held.
    let l = flow_lane a.flow in
    let here = ways_of a.lines waiting a.far.now in
    full_step (Offer a.flow) a.taken.now (bench_of a.end send a.unit.now a.inbox.now buffer (placed l here there)) es us vs
    (counted a.lines.to a.far.now (vs l) true (leads_here l here there us vs held) (sym c.is_full.ensures ∙ c.if-is_full.true))
    refl

pub returns : goal.returns
returns c =
    let a = c.args in
    let d = c.take-told in
    let joins = c.deliver-to in
    λ send buffer waiting there es us vs held.
    let l = flow_lane a.flow in
    let s = station_of a.end send a.unit.now a.inbox.now in
    let here = ways_of a.lines waiting a.far.now in
    let far_are = leads_here l here there us vs held in
    let n = counted a.lines.to a.far.now (vs l) false far_are (sym c.is_full.ensures ∙ c.if-is_full.false) in
    let fit = offer_fits a.flow a.taken.now s buffer here there d.result d.new.unit d.new.inbox (d.ensures send) in
    offer_step a.flow a.taken.now s buffer here there d.result d.new.unit d.new.inbox (d.ensures send)
    (record { from = a.lines.from; to = joins.result }) joins.result joins.new.cells es us vs held
    (joins.ensures (vs l) far_are (leb-false 512 (length (vs l)) n) fit.short fit.there) n
