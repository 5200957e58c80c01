-- `attach_header::reading::read_attach` meets its contract.
-- Assumes nothing.
use mathlib.Core.Path.{sym, ◌∙◌}
use lib.ListN.{length}
use borrow.Author.Tests.{le-leb, lt-leb}
use Rattle.attach_header.specs.Read.{read_attach}
use Rattle.attach_header.proofs.reading.read_attach.Goals as goal

pub returns-then-header-gt-LONGEST : goal.returns-then-header-gt-LONGEST
unfolding read_attach
returns-then-header-gt-LONGEST c = rw (c.not_read.ensures, lt-leb (length c.args.header.now) 255 c.if-header-gt-LONGEST.true)

pub returns-then-not-header_good : goal.returns-then-not-header_good
unfolding read_attach
returns-then-not-header_good c =
    let g = c.header_good in
    rw (
      c.not_read-then-not-header_good.ensures,
      le-leb (length c.args.header.now) 255 c.if-header-gt-LONGEST.false,
      sym g.ensures ∙ c.if-not-header_good.true,
    )

pub fields_in-requires : goal.fields_in-requires
fields_in-requires c = let g = c.header_good in sym g.ensures ∙ c.if-not-header_good.false

pub returns : goal.returns
unfolding read_attach
returns c =
    let g = c.header_good in
    rw (
      c.accept.ensures,
      c.fields_in.ensures,
      le-leb (length c.args.header.now) 255 c.if-header-gt-LONGEST.false,
      sym g.ensures ∙ c.if-not-header_good.false,
    )
