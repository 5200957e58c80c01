-- `unit::expedited::read_expedited_unit` meets its contract. What a unit says follows from what its header says.
-- Assumes nothing.
use Rattle.header.specs.ExpeditedHeader.{expedited_good, broken_expedited, expedited_fields, read_expedited}
use Rattle.unit.specs.Unit.{header_in}
use Rattle.unit.specs.ExpeditedUnit.{expedited_heading, read_expedited_unit}
use Rattle.unit.proofs.ReadByHeader.{read_as}
use Rattle.unit.proofs.expedited.read_expedited_unit.Goals as goal

pub returns : goal.returns
unfolding read_expedited read_expedited_unit expedited_heading
returns c =
    let u = c.args.unit.now in
    let h = header_in u in
    let r = c.read_heading in
    read_as u (expedited_good h) (expedited_fields h) (broken_expedited h) r.result r.ensures.short r.ensures.read
