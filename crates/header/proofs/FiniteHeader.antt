-- A test at every data header, and at what stands in a list, which antt computes, and the law that it gives at each.
-- Assumes nothing.
use mathlib.Core.Path.{◌≡◌, refl}
use mathlib.Core.Bool.{Bool, true, ◌&&◌}
use mathlib.Core.List.{List, [], ◌∷◌}
use Prim.Native.Nat.{ℕ}
use borrow.Author.Tests.{eqb-true}
use lib.Dec.{eqb}
use Rattle.bools.proofs.Cases.{never, split}
use Rattle.bools.proofs.Tests.{both, left, right, or_right}
use Rattle.bools.proofs.Finite.{Finite, halves, pairs, covered, bools}
use Rattle.header.specs.Rules.{one_of, same_header, one_of_headers}
use Rattle.header.specs.declared.Follows.{Follows}
use Rattle.header.specs.declared.Follows.TheVariants.{Stay, ChangeDirection, EndBracket}
use Rattle.header.specs.declared.ChainBegin.{ChainBegin}
use Rattle.header.specs.declared.ChainBegin.TheVariants.{Continued, First, FirstWithBracket}
use Rattle.header.specs.declared.ChainEnd.{ChainEnd}
use Rattle.header.specs.declared.ChainEnd.TheVariants.{Continues, Last}
use Rattle.header.specs.declared.DataHeader.{DataHeader}
use Rattle.header.specs.declared.HeaderBytes.{HeaderBytes}

-- ---- the fields of a data header

pub at_follows : (f : Follows → Bool) → f Stay && (f ChangeDirection && f EndBracket) ≡ true → (w : Follows) → f w ≡ true
at_follows f t Stay = search halves
at_follows f t ChangeDirection = search halves
at_follows f t EndBracket = search halves

abbrev pub follows : Finite Follows
follows = record { all = λ f. f Stay && (f ChangeDirection && f EndBracket); at = at_follows }

pub at_begin : (f : ChainBegin → Bool) → f Continued && (f First && f FirstWithBracket) ≡ true → (b : ChainBegin) → f b ≡ true
at_begin f t Continued = search halves
at_begin f t First = search halves
at_begin f t FirstWithBracket = search halves

abbrev pub begins : Finite ChainBegin
begins = record { all = λ f. f Continued && (f First && f FirstWithBracket); at = at_begin }

abbrev pub all_ends : (ChainEnd → Bool) → Bool
all_ends f = f Continues && (pairs follows bools).all (λ p. f (Last p.0 p.1))

pub at_end : (f : ChainEnd → Bool) → all_ends f ≡ true → (e : ChainEnd) → f e ≡ true
at_end f t Continues = left (f Continues) _ t
at_end f t (Last w c) = (pairs follows bools).at (λ p. f (Last p.0 p.1)) (right (f Continues) _ t) (w, c)

abbrev pub ends : Finite ChainEnd
ends = record { all = all_ends; at = at_end }

abbrev pub data_headers : Finite DataHeader
data_headers =
    covered (pairs begins (pairs ends bools)) (λ p. record { begins = p.0; ends = p.1.0; pacing = p.1.1 })
    (λ d. (d.begins, (d.ends, d.pacing))) (λ d. refl)

-- ---- what stands in a list

abbrev pub each : {A : Type 0} → (A → Bool) → List A → Bool
each f [] = true
each f (a ∷ rest) = f a && each f rest

-- what holds at each number of a list
abbrev pub All : (ℕ → Type 0) → List ℕ → Type 0
All P [] = Unit {0}
All P (n ∷ ns) = P n × All P ns

pub at_member : (P : ℕ → Type 0) (x : ℕ) (ns : List ℕ) → All P ns → one_of x ns ≡ true → P x
at_member P x [] t e = never e
at_member P x (n ∷ []) t e = rw (eqb-true x n e) t.0
at_member P x (n ∷ m ∷ ns) t e =
    split (eqb x n) (λ y. rw (eqb-true x n y) t.0) (λ y. at_member P x (m ∷ ns) t.1 (or_right (eqb x n) (one_of x (m ∷ ns)) e y))

passed : (f : ℕ → Bool) (ns : List ℕ) → each f ns ≡ true → All (λ n. f n ≡ true) ns
passed f [] t = tt
passed f (n ∷ ns) t = let p = both (f n) (each f ns) t in (p.0, passed f ns p.1)

pub at_one : (f : ℕ → Bool) (x : ℕ) (ns : List ℕ) → each f ns ≡ true → one_of x ns ≡ true → f x ≡ true
at_one f x ns t e = at_member (λ n. f n ≡ true) x ns (passed f ns t) e

pub same_header_lem : (h k : HeaderBytes) → same_header h k ≡ true → h ≡ k
same_header_lem h k e =
    let p = both (eqb h.b0 k.b0) (eqb h.b1 k.b1 && eqb h.b2 k.b2) e in
    let q = both (eqb h.b1 k.b1) (eqb h.b2 k.b2) p.1 in
    let e0 = eqb-true h.b0 k.b0 p.0 in
    let e1 = eqb-true h.b1 k.b1 q.0 in
    let e2 = eqb-true h.b2 k.b2 q.1 in
    λ i. record { b0 = e0 i; b1 = e1 i; b2 = e2 i }

pub at_header : (f : HeaderBytes → Bool) (h : HeaderBytes) (ks : List HeaderBytes) → each f ks ≡ true → one_of_headers h ks ≡ true → f h ≡ true
at_header f h [] t e = never e
at_header f h (k ∷ ks) t e =
    let p = both (f k) (each f ks) t in
    split (same_header h k) (λ y. rw (same_header_lem h k y) p.0) (λ y. at_header f h ks p.1 (or_right (same_header h k) (one_of_headers h ks) e y))
