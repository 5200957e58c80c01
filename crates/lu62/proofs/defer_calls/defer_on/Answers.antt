-- `lu62::defer_calls::defer_on` meets its contract: the call on the record that the image holds, or the image's refusal.
-- Assumes nothing.
use Rattle.lu62.proofs.CallsOnImage.{arms_alone}
use Rattle.lu62.proofs.defer_calls.defer_on.Goals as goal

pub hand_out-requires : goal.hand_out-requires
hand_out-requires c = search arms_alone
