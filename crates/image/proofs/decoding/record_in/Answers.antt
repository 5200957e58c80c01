-- `image::decoding::record_in` meets its contract: each part is what its function says.
-- Assumes nothing.
use Rattle.image.specs.Image.{record_in}
use Rattle.image.proofs.decoding.record_in.Goals as goal

pub returns : goal.returns
unfolding record_in
returns c = rw (
  c.expedited_in.ensures,
  c.number_at-2.ensures,
  c.number_at.ensures,
  c.receiving_in.ensures,
  c.sending_in.ensures,
  c.mark_of.ensures,
  c.follows_of.ensures,
  c.state_of.ensures,
  c.from.ensures,
)
