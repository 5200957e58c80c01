-- `image::theorems::read_is_written` meets its contract. The slice holds bytes.
-- Assumes nothing.
use Rattle.image.proofs.ImageRoundTrip.{read_is_written}
use Rattle.image.proofs.theorems.read_is_written.Goals as goal

pub returns : goal.returns
returns c = read_is_written c.args.image.now (λ i. (c.type_inv.image i).fits)
