-- `attach_header::reading::fields_in` meets its contract.
-- Assumes nothing.
use native.Mathlib.Omega.{arith}
use Rattle.attach_header.specs.Read.{fields_in, program_in}
use Rattle.attach_header.proofs.FixedPart.{fixed}
use Rattle.attach_header.proofs.HeaderTests.{good, name_good_lem}
use Rattle.attach_header.proofs.Placed.{placed}
use Rattle.attach_header.proofs.reading.fields_in.Goals as goal

pub find_places-found-requires : goal.find_places-found-requires
find_places-found-requires c = (good c.args.h.now c.requires).fixed

pub fields_from-requires : goal.fields_from-requires
fields_from-requires c =
    let d = c in
    let h = d.args.h.now in
    let g = good h d.requires in
    let p = placed {h = h} g.fixed d.find_places-found.ensures.value in
    let f = fixed h g.fixed in
    record {
      in_bounds = (omega (arith, f.least, f.fits), rw p.program (name_good_lem (program_in h).field g.name).0);
      security_value = (rw p.security g.security, rw p.work g.identifier);
    }

pub returns : goal.returns
unfolding fields_in
returns c =
    let d = c in
    let h = d.args.h.now in
    let p = placed {h = h} (good h d.requires).fixed d.find_places-found.ensures.value in
    rw (c.fields_from.ensures, p.program, p.security, p.work)
