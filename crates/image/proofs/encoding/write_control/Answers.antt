-- `image::encoding::write_control` meets its contract: nine stores are the nine bytes.
-- Assumes nothing.
use native.Mathlib.Omega.{arith}
use mathlib.Core.List.{◌∷◌}
use Rattle.image.specs.Image.{FORMAT, control_bytes}
use Rattle.image.proofs.Writes.{stored}
use Rattle.image.proofs.encoding.write_control.Goals as goal

pub returns : goal.returns
returns c = let a = c.args in
    rw (
      c.flag_code-4.ensures,
      c.flag_code-3.ensures,
      c.flag_code-2.ensures,
      c.flag_code.ensures,
      c.mark_code.ensures,
      c.follows_code.ensures,
      c.state_code.ensures,
      c.role_code.ensures,
    )
    (stored (FORMAT ∷ control_bytes a.e.control) a.image.now 0 (omega arith))
