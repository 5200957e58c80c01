-- `bench::step_take` meets its contract. The oldest unit is offered, and goes from the line where the take is accepted.
-- Assumes nothing.
use Rattle.std.proofs.lemmas.Result.{err_from_is_err_and}
use Prim.Native.Nat.{ℕ, ◌-◌}
use mathlib.Core.Path.{sym, ap, ◌∙◌}
use mathlib.Core.List.{List}
use native.Mathlib.Omega.{arith}
use lib.ListN.{take, drop}
use Rattle.script.specs.declared.Request.TheVariants.{Take}
use Rattle.bench.specs.CallMade.{flow_lane, station_of}
use Rattle.bench.specs.Step.{ways_of, placed, bench_of, outcome_on}
use Rattle.unit_lines.proofs.PutAndRemoved.{end_within, none_waits, one_waits}
use Rattle.bench.proofs.Stepping.{waits_here, waits_on, nothing_step, not_taken, take_step}
use Rattle.bench.proofs.step_take.Goals as goal

pub slice_bounds-step_offer-count : goal.slice_bounds-step_offer-count
slice_bounds-step_offer-count c = (end_within c.args.lines.from c.args.waiting.now c.in-Some.past (sym c.in-Some.ensures.is)).3

pub slice_bounds-step_offer-start : goal.slice_bounds-step_offer-start
slice_bounds-step_offer-start c = (end_within c.args.lines.from c.args.waiting.now c.in-Some.past (sym c.in-Some.ensures.is)).3

pub slice_bounds-step_offer-end : goal.slice_bounds-step_offer-end
slice_bounds-step_offer-end c =
    let w = end_within c.args.lines.from c.args.waiting.now c.in-Some.past (sym c.in-Some.ensures.is) in
    omega (arith, w.1, w.2)

pub returns-in_default : goal.returns-in_default
returns-in_default c =
    let a = c.args in
    λ given send buffer there es us vs held.
    let l = flow_lane a.flow in
    let here = ways_of a.lines a.waiting.now a.far.now in
    let none = none_waits a.lines.from a.waiting.now (us l) (waits_here l here there us vs held) (sym c.oldest_end.ensures.is ∙ c.in_default.is) in
    nothing_step (Take a.flow) given (bench_of a.end send a.unit.now a.inbox.now buffer (placed l here there)) es us vs
    (ap (λ (x : List (List ℕ)). outcome_on (Take a.flow) x (vs l)) none)

pub returns-in_err-offered : goal.returns-in_err-offered
returns-in_err-offered c =
    let a = c.args in
    let p = err_from_is_err_and c.from_residual.result c.from_residual.ensures.1 in
    rw (p.1, p.2)
    (λ given send buffer there es us vs held.
    let l = flow_lane a.flow in
    let here = ways_of a.lines a.waiting.now a.far.now in
    let f = one_waits c.in-Some.past a.lines.from a.waiting.now (us l) (waits_here l here there us vs held) (sym c.in-Some.ensures.is) in
    not_taken a.flow given _ f.unit _ _ _ es us vs f.rest f.are (c.in_err-offered.ensures send buffer a.waiting.now there es us vs held))

pub returns-then-accepted : goal.returns-then-accepted
returns-then-accepted c =
    let a = c.args in
    let o = c.in_ok-offered.offered in
    let d = c.step_offer.new in
    let out = c.remove_oldest-from in
    λ given send buffer there es us vs held.
    let l = flow_lane a.flow in
    let here = ways_of a.lines a.waiting.now a.far.now in
    let f = one_waits c.in-Some.past a.lines.from a.waiting.now (us l) (waits_here l here there us vs held) (sym c.in-Some.ensures.is) in
    let b = bench_of a.end send a.unit.now a.inbox.now buffer (placed l here there) in
    let s = station_of o.told.end send d.unit d.inbox in
    take_step a.flow given f.unit b o.told s buffer (ways_of o.lines a.waiting.now d.far) there out.result out.new.cells es us vs f.rest
    (take (c.in-Some.past - 2) (drop 2 a.waiting.now)) o.lines (record { from = out.result; to = o.lines.to }) f.are f.there
    (c.in_ok-offered.ensures send buffer a.waiting.now there es us vs held)
    (rw (sym c.accepted.ensures ∙ c.if-accepted.true) (out.ensures.removed f.unit f.rest f.holds))

pub returns-else-accepted : goal.returns-else-accepted
returns-else-accepted c =
    let a = c.args in
    let o = c.in_ok-offered.offered in
    let d = c.step_offer.new in
    λ given send buffer there es us vs held.
    let l = flow_lane a.flow in
    let here = ways_of a.lines a.waiting.now a.far.now in
    let f = one_waits c.in-Some.past a.lines.from a.waiting.now (us l) (waits_here l here there us vs held) (sym c.in-Some.ensures.is) in
    let b = bench_of a.end send a.unit.now a.inbox.now buffer (placed l here there) in
    let s = station_of o.told.end send d.unit d.inbox in
    let after = ways_of o.lines a.waiting.now d.far in
    let st = c.in_ok-offered.ensures send buffer a.waiting.now there es us vs held in
    take_step a.flow given f.unit b o.told s buffer after there o.lines.from a.waiting.now es us vs f.rest
    (take (c.in-Some.past - 2) (drop 2 a.waiting.now)) o.lines o.lines f.are f.there st
    (rw (sym c.accepted.ensures ∙ c.if-accepted.false, ← f.are) (waits_on l after there us st.answered.waiting_are))
