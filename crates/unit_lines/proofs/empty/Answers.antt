-- `unit_lines::empty` meets its contract. With no unit and no cell used, each fact of `Holds` is computed.
-- Assumes nothing.
use Prim.Native.Nat.{zero-le}
use mathlib.Core.Path.{refl}
use Rattle.unit_lines.specs.UnitLine.{frames, NoneLonger}
use Rattle.unit_lines.proofs.empty.Goals as goal

pub returns : goal.returns
unfolding frames NoneLonger
returns c = λ cells room. record { units_are = refl; used_are = refl; cells_are = refl; most = zero-le; none_longer = tt; room = room }
