-- `attach_header::work::identifier_good` meets its contract.
-- Assumes nothing.
use Prim.Native.Nat.{zero-le}
use lib.ListN.{length}
use borrow.Author.Tests.{ne_eqb}
use Rattle.attach_header.specs.Read.{identifier_good}
use Rattle.attach_header.proofs.FoundParts.{found_by, field_length, rest_length}
use Rattle.attach_header.proofs.work.identifier_good.Goals as goal

pub returns-then-n-eq0 : goal.returns-then-n-eq0
unfolding identifier_good
returns-then-n-eq0 c = rw c.if-n-eq0.true

pub returns : goal.returns
unfolding identifier_good
returns c =
    let s = c.args.s.now in
    let f = found_by {at = 0} {s = s} zero-le c.part_at-p.ensures.value in
    rw (
      c.lu_name_good.ensures,
      c.unpadded.ensures,
      f.field,
      f.whole,
      ne_eqb (length s) 0 c.if-n-eq0.false,
      field_length f,
      rest_length f,
    )
