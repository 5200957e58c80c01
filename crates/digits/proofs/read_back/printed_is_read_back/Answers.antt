-- `digits::read_back::printed_is_read_back` meets its contract: the two laws of specs/ReadBack.antt.
-- Assumes nothing.
use Rattle.digits.proofs.PrintedIsRead.{number_read_back, bytes_read_back}
use Rattle.digits.proofs.read_back.printed_is_read_back.Goals as goal

pub returns : goal.returns
returns c = record { number = number_read_back; bytes = bytes_read_back }
