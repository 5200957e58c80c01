-- What a call or a take leaves, seen on the lanes: a fact of it is a fact of what the one view of a call says.
-- Assumes nothing.
use Rattle.joined.proofs.JoinedWords.{ℕ, List, Station, Reply, Lane, Acted, Took}
use Rattle.calls.specs.Calls.{Called}
use Rattle.joined.specs.Ends.{on_lanes, took_on_lanes}

abbrev pub Laned : (Acted Lane Station Reply (List ℕ) → Type 0) → Called → Type 0
Laned P m = P (on_lanes m)

abbrev pub LanedTake : (Took Lane Station Reply (List ℕ) → Type 0) → Called → Type 0
LanedTake P m = P (took_on_lanes m)
