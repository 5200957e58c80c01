-- The claims of specs/BindClaims.antt.
-- Assumes nothing.
use mathlib.Core.Path.{◌≡◌, refl, sym, ap, ◌∙◌, subst}
use mathlib.Core.Bool.{Bool, true, false, cond, not, ◌&&◌}
use Prim.Native.Nat.{ℕ, ◌+◌, ◌*◌, ◌/◌, ◌%◌, ◌<◌}
use native.Mathlib.Nat.{div-add-mod'}
use native.Mathlib.Omega.{arith}
use lib.Count.{count_leading_zeros}
use lib.Dec.{eqb, leb}
use borrow.Author.Tests.{eqb-true, leb-true, ne_eqb}
use Rattle.bools.proofs.Cases.{never, split}
use Rattle.bools.proofs.Tests.{left, right}
use Rattle.header.specs.HeaderClaims.{sum_below}
use Rattle.header.proofs.HeadersCounted.{same_sums}
use Rattle.unit.specs.Maximum.{max_good}
use Rattle.answers.specs.Answers.{BAD_MAXIMUM, NO_SIZE_BYTE}
use Rattle.bind.specs.SessionBytes.{times, means, maximum_good, size_of, byte_of, no_byte, one_byte, size_byte}
use Rattle.bind.specs.declared.SizeByte.{SizeByte}
use Rattle.bind.specs.BindClaims.{BothWays, ByteGivenBack, SizeGivenBack, NoneMeans, has_byte, FiftySeven}
use Rattle.bind.proofs.Search.{byte_means, none_means}
use Rattle.bind.proofs.SizeAsked.{out_of_range, byteless, given}
use Rattle.bind.proofs.SizeBytes.{moved, size_at, moved_at, found_is_moved, mantissa_below, exponent_below}

-- ---- there and back

back_at : (a b : ℕ) → a < 16 → b < 16 → maximum_good a b ≡ true → size_byte (times a b) ≡ one_byte (a * 16 + b)
back_at a b h k m =
    let g = right (leb 8 a) (max_good (times a b)) m in
    let l = leb-true 8 a (left (leb 8 a) (max_good (times a b)) m) in
    let e = found_is_moved (times a b) g ∙ moved_at a b h k m in
    given (times a b) g (ne_eqb (byte_of (times a b)) 0 (λ z. absurd (omega (arith, l, sym e ∙ z)))) ∙ ap one_byte e

pub both_ways : BothWays
both_ways a b h k = record { forward = size_at a b h k; back = back_at a b h k }

pub byte_given_back : ByteGivenBack
byte_given_back byte h s =
    let a = byte / 16 in
    let b = byte % 16 in
    let f = ap size_of (sym (div-add-mod' byte 16)) ∙ size_at a b (mantissa_below byte h) (exponent_below byte) in
    split (maximum_good a b)
    (λ m. rw (f, m) (back_at a b (mantissa_below byte h) (exponent_below byte) m ∙ ap one_byte (div-add-mod' byte 16)))
    (λ m. never (sym s ∙ rw (f, m)))

-- the maximum that a byte means is the size, if that is one
pub size_meant : (byte size : ℕ) {good : Bool} → means byte size ≡ true → max_good size ≡ good → size_of byte ≡ cond good size 0
unfolding size_of
size_meant byte size m g =
    rw (eqb-true (times (byte / 16) (byte % 16)) size (right (leb 8 (byte / 16)) _ m), left (leb 8 (byte / 16)) _ m, g)

-- ---- what is accepted, and what is not

-- a size is answered in one of three ways
by_answer : (P : SizeByte → Type 0) (size : ℕ) → (max_good size ≡ false → P (no_byte BAD_MAXIMUM))
    → (max_good size ≡ true → eqb (byte_of size) 0 ≡ true → P (no_byte NO_SIZE_BYTE))
    → (max_good size ≡ true → eqb (byte_of size) 0 ≡ false → P (one_byte (byte_of size))) → P (size_byte size)
by_answer P size three thirty-one one =
    split (max_good size)
    (λ g. split (eqb (byte_of size) 0) (λ z. rw (byteless size g z) (thirty-one g z)) (λ z. rw (given size g z) (one g z)))
    (λ g. rw (out_of_range size g) (three g))

pub byte_given : (size byte : ℕ) → size_byte size ≡ one_byte byte → (means byte size ≡ true) × (max_good size ≡ true)
byte_given size byte =
    by_answer (λ (s : SizeByte). s ≡ one_byte byte → (means byte size ≡ true) × (max_good size ≡ true)) size
    (λ g e. absurd (omega (arith, ap (λ (s : SizeByte). s.answer.refusal) e)))
    (λ g z e. absurd (omega (arith, ap (λ (s : SizeByte). s.answer.refusal) e)))
    (λ g z e. (subst (λ (y : ℕ). means y size ≡ true) (ap (λ (s : SizeByte). s.byte) e) (byte_means size z).0, g))

pub size_given_back : SizeGivenBack
size_given_back size byte e = let b = byte_given size byte e in size_meant byte size b.0 b.1

pub none_means_it : NoneMeans
none_means_it size =
    by_answer (λ (s : SizeByte). s.answer.refusal ≡ NO_SIZE_BYTE → (byte : ℕ) → byte < 256 → means byte size ≡ false) size
    (λ g e. absurd (omega (arith, e))) (λ g z e. none_means size (eqb-true (byte_of size) 0 z)) (λ g z e. absurd (omega (arith, e)))

-- ---- how many sizes have a byte

-- by the size moved, which computes
abbrev counted : ℕ → Bool
counted size = max_good size && not (eqb (moved size) 0)

as_found : (size : ℕ) {outcome : Bool} → max_good size ≡ true → eqb (byte_of size) 0 ≡ outcome → eqb (moved size) 0 ≡ outcome
as_found size g z = ap (λ (byte : ℕ). eqb byte 0) (sym (found_is_moved size g)) ∙ z

has_byte_lem : (size : ℕ) → has_byte size ≡ counted size
has_byte_lem size =
    by_answer (λ (s : SizeByte). eqb s.answer.refusal 0 ≡ counted size) size (λ g. rw g)
    (λ g z. rw (g, as_found size g z)) (λ g z. rw (g, as_found size g z))

computed : sum_below (λ size. cond (counted size) 1 0) 1025 ≡ 57
unfolding count_leading_zeros
computed = refl

pub fifty_seven : FiftySeven
fifty_seven =
    record {
      count =
          same_sums (λ size. cond (has_byte size) 1 0) (λ size. cond (counted size) 1 0) (λ size. ap (λ (t : Bool). cond t 1 0) (has_byte_lem size)) 1025
          ∙ computed;
      within = λ size h. let m = leb-true size 1024 (right (leb 8 size) (leb size 1024) (left (max_good size) _ (sym (has_byte_lem size) ∙ h))) in omega (arith, m);
    }
