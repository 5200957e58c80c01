-- `digits::printed::hex_bytes` meets its contract. The invariant: what is left of the text, put at the next place, completes it.
-- Assumes nothing.
use lib.ListN.{drop}
use Rattle.digits.specs.Printed.{hex_of}
use Rattle.digits.proofs.Puts.{Left}
use Rattle.digits.proofs.printed.hex_bytes.Given as goal

abbrev pub invariant-loop-b : goal.invariant-loop-b
invariant-loop-b l = Left (hex_of l.bytes) l.at l.initial.out (hex_of (drop l.b-index l.bytes)) l.next l.out
