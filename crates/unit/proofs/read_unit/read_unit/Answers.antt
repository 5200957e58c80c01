-- `unit::read_unit::read_unit` meets its contract. What a unit says follows from what its header says.
-- Assumes nothing.
use Rattle.header.specs.Rules.{lowest_broken, header_good}
use Rattle.header.specs.Header.{fields_of, read_header}
use Rattle.unit.specs.Unit.{header_in, heading_of, read_unit}
use Rattle.unit.proofs.ReadByHeader.{read_as}
use Rattle.unit.proofs.read_unit.read_unit.Goals as goal

pub returns : goal.returns
unfolding read_header read_unit heading_of
returns c =
    let u = c.args.unit.now in
    let h = header_in u in
    let r = c.read_heading in
    read_as u (header_good h) (fields_of h) (lowest_broken h) r.result r.ensures.short r.ensures.read
