-- `lu62::expedited_calls::lu62_receive_expedited` meets its contract: the call on the record that the image holds, or the image's refusal.
-- Assumes nothing.
use Rattle.lu62.proofs.CallsOnImage.{arms}
use Rattle.lu62.proofs.expedited_calls.lu62_receive_expedited.Goals as goal

pub hand_out-requires : goal.hand_out-requires
hand_out-requires c = search arms
