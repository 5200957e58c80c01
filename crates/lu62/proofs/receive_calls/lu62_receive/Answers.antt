-- `lu62::receive_calls::lu62_receive` meets its contract: the call on the record that the image holds, or the image's refusal.
-- Assumes nothing.
use Rattle.lu62.proofs.CallsOnImage.{arms}
use Rattle.lu62.proofs.receive_calls.lu62_receive.Goals as goal

-- that what is held is a number of 16 bits is told where the image is read
pub hand_out-requires : goal.hand_out-requires
hand_out-requires c = search (arms, c.in-Ok.known_told-1-own.given.0.1.1.1.1.0)
