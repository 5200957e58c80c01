-- Lists of which each is a byte, below 256: their parts, and what is put together from them.
-- Assumes nothing.
use Rattle.calls.proofs.CallWords.{ℕ, ◌<◌, ◌+◌, take, drop, length, Bool, true, ◌&&◌, List, [], ◌∷◌, ◌++◌, ◌≡◌, arith, both, front, written, number_in}
use Rattle.calls.proofs.CallWords.{next_number, AllBytes}
use Prim.Native.Nat.{zero, suc}
use borrow.Author.Tests.{ltb-true}
use lib.Dec.{ltb}
use lib.Seq.{get_or-drop}

pub none_bytes : AllBytes []
none_bytes k = omega arith

-- a list that is written out, by computation
abbrev pub below256 : List ℕ → Bool
below256 [] = true
below256 (b ∷ bs) = ltb b 256 && below256 bs

pub are_bytes : (bs : List ℕ) → below256 bs ≡ true → AllBytes bs
are_bytes [] e k = omega arith
are_bytes (b ∷ bs) e zero = ltb-true b 256 (both (ltb b 256) (below256 bs) e).0
are_bytes (b ∷ bs) e (suc k) = are_bytes bs (both (ltb b 256) (below256 bs) e).1 k

pub cons_bytes : (b : ℕ) (bs : List ℕ) → b < 256 → AllBytes bs → AllBytes (b ∷ bs)
cons_bytes b bs h f zero = h
cons_bytes b bs h f (suc k) = f k

pub take_bytes : (n : ℕ) (bs : List ℕ) → AllBytes bs → AllBytes (take n bs)
take_bytes zero bs f k = omega arith
take_bytes (suc n) [] f k = omega arith
take_bytes (suc n) (b ∷ bs) f zero = f 0
take_bytes (suc n) (b ∷ bs) f (suc k) = take_bytes n bs (λ j. f (suc j)) k

pub drop_bytes : (n : ℕ) (bs : List ℕ) → AllBytes bs → AllBytes (drop n bs)
drop_bytes n bs f k = rw get_or-drop (f (n + k))

pub append_bytes : (as' bs : List ℕ) → AllBytes as' → AllBytes bs → AllBytes (as' ++ bs)
append_bytes [] bs f g k = g k
append_bytes (a ∷ as') bs f g zero = f 0
append_bytes (a ∷ as') bs f g (suc k) = append_bytes as' bs (λ j. f (suc j)) g k

-- in the cells of a buffer
pub front_bytes_all : (bs cells : List ℕ) → AllBytes bs → AllBytes cells → AllBytes (front bs cells)
unfolding front
front_bytes_all bs cells f g = append_bytes bs (drop (length bs) cells) f (drop_bytes (length bs) cells g)

pub written_bytes_all : (at : ℕ) (bs cells : List ℕ) → AllBytes bs → AllBytes cells → AllBytes (written at bs cells)
unfolding written
written_bytes_all at bs cells f g =
    append_bytes (take at cells) (front bs (drop at cells)) (take_bytes at cells g) (front_bytes_all bs (drop at cells) f (drop_bytes at cells g))

-- a number of two bytes
pub next_small : (n : ℕ) → next_number n < 65536
next_small n = omega arith

pub number_small : (u : List ℕ) → AllBytes u → number_in u < 65536
number_small u f = let a = f 0 in let b = f 1 in omega arith

-- ---- lines

-- the units of a line are lists of bytes
abbrev pub AllUnits : List (List ℕ) → Type 0
AllUnits [] = Unit {0}
AllUnits (u ∷ us) = AllBytes u × AllUnits us

pub append_units : (us vs : List (List ℕ)) → AllUnits us → AllUnits vs → AllUnits (us ++ vs)
append_units [] vs f g = g
append_units (u ∷ us) vs f g = (f.0, append_units us vs f.1 g)
