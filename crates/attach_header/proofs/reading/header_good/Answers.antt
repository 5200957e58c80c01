-- `attach_header::reading::header_good` meets its contract.
-- Assumes nothing.
use mathlib.Core.Path.{sym, ◌∙◌}
use Rattle.attach_header.specs.Read.{header_good, lengths_good}
use Rattle.attach_header.proofs.Placed.{placed}
use Rattle.attach_header.proofs.reading.header_good.Goals as goal

pub returns-then-not-fixed_good : goal.returns-then-not-fixed_good
unfolding header_good
returns-then-not-fixed_good c =
    let f = c.fixed_good in
    rw (sym f.ensures ∙ c.if-not-fixed_good.true)

pub find_places-found-requires : goal.find_places-found-requires
find_places-found-requires c = let f = c.fixed_good in sym f.ensures ∙ c.if-not-fixed_good.false

pub returns : goal.returns
unfolding header_good lengths_good
returns c =
    let d = c in
    let h = d.args.h.now in
    let f = d.fixed_good in
    let g = sym f.ensures ∙ d.if-not-fixed_good.false in
    let p = placed {h = h} g d.find_places-found.ensures.value in
    rw (
      g,
      c.name_good.ensures,
      c.security_good.ensures,
      c.identifier_good.ensures,
      p.program_whole,
      p.security_whole,
      p.work_whole,
      p.program,
      p.security,
      p.work,
      p.rest,
    )
