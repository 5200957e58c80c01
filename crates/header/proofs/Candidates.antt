-- A good header is one of 249 candidates: byte 0 of H1's list with byte 1 of H3's and byte 2 of H5's, or one of H2's list.
-- So a test that antt computes at each of them gives a law of every good header.
-- Assumes nothing.
use mathlib.Core.Path.{◌≡◌, refl}
use mathlib.Core.Bool.{Bool, true, ◌&&◌, ◌||◌}
use mathlib.Core.List.{List, [], ◌∷◌}
use Prim.Native.Nat.{ℕ}
use lib.Dec.{leb}
use Rattle.header.specs.Rules.{bytes, one_of, one_of_headers, is_fixed, is_data, fixed_headers, data_h3, data_h5, keeps_h1, keeps_h2, keeps_h3, keeps_h4, keeps_h5, keeps_h6, header_good}
use Rattle.header.specs.declared.HeaderBytes.{HeaderBytes}
use Rattle.bools.proofs.Cases.{split}
use Rattle.bools.proofs.Tests.{both, or_right, follows_from}
use Rattle.bools.proofs.Finite.{halves}
use Rattle.header.proofs.FiniteHeader.{each, at_one, at_header}

-- the lists of H1, H3 and H5
abbrev pub heads : List ℕ
heads = 0x00 ∷ 0x01 ∷ 0x02 ∷ 0x03 ∷ 0x0B ∷ 0x4B ∷ 0x83 ∷ 0x87 ∷ 0xCB ∷ 0xCF ∷ []

abbrev answers : List ℕ
answers = 0x90 ∷ 0x91 ∷ 0x20 ∷ 0x21 ∷ []

abbrev pub brackets : List ℕ
brackets = 0x00 ∷ 0x01 ∷ 0x20 ∷ 0x80 ∷ 0x81 ∷ 0xA0 ∷ []

abbrev pub all_candidates : (HeaderBytes → Bool) → Bool
all_candidates f = each (λ x. each (λ y. each (λ z. f (bytes x y z)) brackets) answers) heads && each f fixed_headers

-- byte 0 of H1's list is data or fixed
data_or_fixed : (x : ℕ) → one_of x heads ≡ true → leb x 0x03 || one_of x (0x0B ∷ 0x4B ∷ 0x83 ∷ 0x87 ∷ 0xCB ∷ 0xCF ∷ []) ≡ true
data_or_fixed x e =
    at_one (λ x. leb x 0x03 || one_of x (0x0B ∷ 0x4B ∷ 0x83 ∷ 0x87 ∷ 0xCB ∷ 0xCF ∷ [])) x heads refl e

pub good_at : (f : HeaderBytes → Bool) → all_candidates f ≡ true → (h : HeaderBytes) → header_good h ≡ true → f h ≡ true
unfolding header_good
good_at f t h g =
    let k1 = both (keeps_h1 h) (keeps_h2 h && (keeps_h3 h && (keeps_h4 h && (keeps_h5 h && keeps_h6 h)))) g in
    let k2 = both (keeps_h2 h) (keeps_h3 h && (keeps_h4 h && (keeps_h5 h && keeps_h6 h))) k1.1 in
    let k3 = both (keeps_h3 h) (keeps_h4 h && (keeps_h5 h && keeps_h6 h)) k2.1 in
    let k4 = both (keeps_h4 h) (keeps_h5 h && keeps_h6 h) k3.1 in
    let k5 = both (keeps_h5 h) (keeps_h6 h) k4.1 in
    split (is_data h)
    (λ d.
    at_one (λ z. f (bytes h.b0 h.b1 z)) h.b2 brackets
    (at_one (λ y. each (λ z. f (bytes h.b0 y z)) brackets) h.b1 answers
    (at_one (λ x. each (λ y. each (λ z. f (bytes x y z)) brackets) answers) h.b0 heads (search halves) k1.0)
    (follows_from (is_data h) (data_h3 h.b1) k3.0 d)) (follows_from (is_data h) (data_h5 h.b2) k5.0 d))
    (λ d.
    at_header f h fixed_headers (search halves)
    (follows_from (is_fixed h) (one_of_headers h fixed_headers) k2.0 (or_right (is_data h) (is_fixed h) (data_or_fixed h.b0 k1.0) d)))
