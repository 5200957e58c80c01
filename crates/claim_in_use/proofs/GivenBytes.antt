-- Lists of which each is a byte, and lists of calls that give bytes.
-- Assumes nothing.
use Prim.Native.Nat.{ℕ}
use mathlib.Core.Path.{◌≡◌}
use mathlib.Core.Bool.{true}
use mathlib.Core.List.{List, [], ◌∷◌, ◌++◌}
use borrow.Author.Tests.{ltb-true}
use lib.Dec.{ltb}
use Rattle.bools.proofs.Tests.{both}
use Rattle.joined.specs.Joined.{act, take, At, first, second}
use Rattle.joined.specs.Ends.{Lane}
use Rattle.joined.specs.Claim.{BytesOfAll}
use Rattle.calls.specs.Calls.{Verb}
use Rattle.calls.specs.Laws.{AllBytes, BytesOf}
use Rattle.calls.proofs.ByteLists.{none_bytes, cons_bytes, below256}
use Rattle.claim_in_use.specs.OtherWords.{each, bytes_of, AreBytes, offered}

pub parted : (xs ys : List ℕ) → AreBytes (xs ++ ys) → AreBytes xs × AreBytes ys
parted [] ys h = (tt, h)
parted (x ∷ xs) ys h = let k = parted xs ys h.1 in ((h.0, k.0), k.1)

pub all_bytes : (bs : List ℕ) → AreBytes bs → AllBytes bs
all_bytes [] h = none_bytes
all_bytes (b ∷ bs) h = cons_bytes b bs h.0 (all_bytes bs h.1)

gives_bytes : (v : Verb) → AreBytes (bytes_of v) → BytesOf v
gives_bytes Verb.allocate h = tt
gives_bytes Verb.confirmed h = tt
gives_bytes Verb.send_error h = tt
gives_bytes Verb.send_pacing_response h = tt
gives_bytes Verb.request_to_send h = tt
gives_bytes (Verb.send_data bytes) h = all_bytes bytes h
gives_bytes (Verb.close f b) h = tt
gives_bytes Verb.withdraw h = tt
gives_bytes (Verb.defer d) h = tt
gives_bytes (Verb.receive buffer) h = tt

pub given_bytes : (l : List (At Lane Verb)) → AreBytes (each offered l) → BytesOfAll l
given_bytes [] h = tt
given_bytes (first (act v) ∷ l) h = let k = parted (bytes_of v) (each offered l) h in (gives_bytes v k.0, given_bytes l k.1)
given_bytes (first (take k) ∷ l) h = (tt, given_bytes l h)
given_bytes (second (act v) ∷ l) h = let k = parted (bytes_of v) (each offered l) h in (gives_bytes v k.0, given_bytes l k.1)
given_bytes (second (take k) ∷ l) h = (tt, given_bytes l h)

-- a list that is written out, by computation
pub written_out : (bs : List ℕ) → below256 bs ≡ true → AreBytes bs
written_out [] e = tt
written_out (b ∷ bs) e = let h = both (ltb b 256) (below256 bs) e in (ltb-true b 256 h.0, written_out bs h.1)
