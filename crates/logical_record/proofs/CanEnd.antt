-- From every record place some bytes lead to where nothing is unfinished: what is left of the record, then a record without data that says
-- that no other part follows.
-- Assumes nothing.
use mathlib.Core.Path.{◌≡◌, refl, ap, ◌∙◌}
use mathlib.Core.Bool.{Bool, true, false}
use mathlib.Core.List.{List, [], ◌∷◌, ◌++◌}
use Prim.Native.Nat.{ℕ, zero, suc, ◌+◌, ◌*◌, ◌-◌, ◌%◌, ◌<◌}
use native.Mathlib.Nat.{div-add-mod'}
use native.Mathlib.Omega.{arith}
use lib.Dec.{leb}
use lib.ListN.{length, get_or}
use borrow.Author.Tests.{leb-false}
use Rattle.logical_record.specs.Length.{more_bit, bad_length, length_of}
use Rattle.logical_record.specs.Positions.{remaining}
use Rattle.logical_record.specs.Walk.{then_walk, walk}
use Rattle.logical_record.specs.RecordClaims.{CanEnd}
use Rattle.std.specs.Prelude.{Result, Ok, Err}
use Rattle.logical_record.specs.declared.BadLength.{BadLength}
use Rattle.logical_record.specs.declared.Length.{Length}
use Rattle.logical_record.specs.declared.Position.{Position}
use Rattle.logical_record.specs.declared.Position.TheVariants.{Between, AfterFirst, Remaining}
use Rattle.logical_record.proofs.BytesLeft.{length_bounds, remaining_some}
use Rattle.logical_record.proofs.Walks.{walk_append}
use Rattle.logical_record.proofs.RecordEnds.{walk_data, walk_after_first}

abbrev zeros : ℕ → List ℕ
zeros zero = []
zeros (suc n) = 0 ∷ zeros n

length_zeros : (n : ℕ) → length (zeros n) ≡ n
length_zeros zero = refl
length_zeros (suc n) = ap suc (length_zeros n)

abbrev AreBytes : List ℕ → Type 0
AreBytes bs = (k : ℕ) → get_or bs k 0 < 256

zeros_bytes : (n : ℕ) → AreBytes (zeros n)
zeros_bytes zero k = omega arith
zeros_bytes (suc n) zero = omega arith
zeros_bytes (suc n) (suc k) = zeros_bytes n k

bytes_append : (a b : List ℕ) → AreBytes a → AreBytes b → AreBytes (a ++ b)
bytes_append [] b f g k = g k
bytes_append (x ∷ a) b f g zero = f zero
bytes_append (x ∷ a) b f g (suc k) = bytes_append a b (λ i. f (suc i)) g k

-- 00 02
abbrev last_part : List ℕ
last_part = 0 ∷ 2 ∷ []

last_bytes : AreBytes last_part
last_bytes zero = omega arith
last_bytes (suc zero) = omega arith
last_bytes (suc (suc k)) = omega arith

-- these bytes, then the last part
ends_behind : (p : Position) (a : List ℕ) (more : Bool) → AreBytes a → walk p a ≡ Ok (Between more) → CanEnd p
unfolding then_walk
ends_behind p a more f e =
    record {
      bytes = a ++ last_part;
      are_bytes = bytes_append a last_part f last_bytes;
      place = Between false;
      reached = walk_append p a last_part ∙ ap (λ (w : Result Position BadLength). then_walk w last_part) e;
      whole = refl;
    }

-- LL of which the second byte is 02 is good whatever the first is
second_two : (l : Result Length BadLength) (high : ℕ) → length_of high 2 ≡ l → CanEnd (AfterFirst high)
second_two (Ok l) high e =
    let z = length_zeros (l.bytes - 2) in
    let b = length_bounds high 2 l.bytes l.more e in
    ends_behind (AfterFirst high) (2 ∷ zeros (l.bytes - 2)) l.more (bytes_append (2 ∷ []) (zeros (l.bytes - 2)) two (zeros_bytes (l.bytes - 2)))
    (walk_after_first high 2 l.bytes l.more (zeros (l.bytes - 2)) e (omega arith)
    ∙ ap (λ (m : ℕ). Ok (remaining m l.more)) (let f : l.bytes - 2 - length (zeros (l.bytes - 2)) ≡ 0 = omega arith in f))
  where
    two : AreBytes (2 ∷ [])
    two zero = omega arith
    two (suc k) = omega arith
second_two (Err x) high e = absurd (bad (leb 2 ((high * 256 + 2) % more_bit)) refl e)
  where
    bad : (t : Bool) → leb 2 ((high * 256 + 2) % more_bit) ≡ t → length_of high 2 ≡ Err bad_length → ⊥
    bad true f e = cc
    bad false f e =
        let r = leb-false 2 ((high * 256 + 2) % more_bit) f in
        let d = div-add-mod' (high * 256 + 2) more_bit in
        omega (arith, r, d)

pub every_place_can_end : (p : Position) → CanEnd p
unfolding then_walk
every_place_can_end (Between more) = ends_behind (Between more) [] more (λ k. omega arith) refl
every_place_can_end (AfterFirst high) = second_two (length_of high 2) high refl
every_place_can_end (Remaining more zero) = ends_behind (Remaining more zero) (zeros 1) more (zeros_bytes 1) refl
every_place_can_end (Remaining more (suc n)) =
    let z = length_zeros (suc n) in
    ends_behind (Remaining more (suc n)) (zeros (suc n)) more (zeros_bytes (suc n))
    (rw (← remaining_some (suc n) more (omega arith)) (walk_data (suc n) more (zeros (suc n)) (omega arith))
    ∙ ap (λ (m : ℕ). Ok (remaining m more)) (let f : suc n - length (zeros (suc n)) ≡ 0 = omega arith in f))
