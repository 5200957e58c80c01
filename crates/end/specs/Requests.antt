-- The header of the data unit that an end makes next.
-- Assumes nothing.
use Rattle.header.specs.declared.ChainEnd.{ChainEnd}
use Rattle.header.specs.declared.Header.{Header}
use Rattle.header.specs.declared.Header.TheVariants.{Data}
use Rattle.pacing.specs.Pacing.{paced}
use Rattle.transitions.specs.Transitions.{begin_of}
use Rattle.end.specs.declared.End.{End}

-- it begins as the finite part says and carries the pacing bit as the window says
unfoldable pub data_header : End → ChainEnd → Header
data_header e ends = Data (record { begins = begin_of e.control; ends = ends; pacing = paced e.sending.window })
