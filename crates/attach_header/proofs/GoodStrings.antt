-- Strings that a header may hold have no padding, and an LU network name at most 17 bytes.
-- Assumes nothing.
use mathlib.Core.Path.{◌≡◌, refl, sym, ap, subst, ◌∙◌}
use mathlib.Core.Bool.{Bool, true, false, ◌&&◌}
use mathlib.Core.List.{List, [], ◌∷◌, ◌++◌}
use Prim.Native.Nat.{ℕ, ◌+◌, ◌≤◌}
use native.Mathlib.Omega.{arith}
use lib.Dec.{leb, eqb}
use lib.ListN.{length, get_or, take, drop, length-append, length-take, length-drop, take-append-drop}
use borrow.Author.Tests.{leb-true, eqb-true, eqb-false, ne_eqb}
use Rattle.cells.specs.Found.{index_of}
use Rattle.bools.proofs.Tests.{both, left, right}
use Rattle.bools.proofs.Cases.{split, never}
use Rattle.attach_header.specs.Characters.{SPACE, PERIOD, belongs, every, is_empty, unpadded, is_letter, first_good, program_good, data_good, part_good, lu_name_good}

-- ---- no padding

space_belongs : (g : Bool) → belongs g SPACE ≡ false
space_belongs true = refl
space_belongs false = refl

not_space : (g : Bool) (b : ℕ) → belongs g b ≡ true → eqb b SPACE ≡ false
not_space g b e = split (eqb b SPACE) (λ t. never (sym (space_belongs g) ∙ ap (belongs g) (sym (eqb-true b SPACE t)) ∙ e)) (λ t. t)

and_false : (a : Bool) → a && false ≡ false
and_false true = refl
and_false false = refl

pub unpadded_every : (g : Bool) (x : List ℕ) → every (belongs g) x ≡ true → unpadded x ≡ x
unfolding every unpadded
unpadded_every g [] e = refl
unpadded_every g (b ∷ bs) e =
    let p = both (belongs g b) (every (belongs g) bs) e in
    rw (not_space g b p.0, and_false (is_empty (unpadded bs)), unpadded_every g bs p.1)

-- what ends in a string without padding has none
pub unpadded_end : (x y : List ℕ) → unpadded y ≡ y → is_empty y ≡ false → unpadded (x ++ y) ≡ x ++ y
unfolding unpadded
unpadded_end [] y e n = e
unpadded_end (b ∷ x) y e n =
    let l = length-append x y in
    let z : is_empty (x ++ y) ≡ false = ne_eqb (length (x ++ y)) 0 (λ t. eqb-false (length y) 0 n (omega (arith, l, t))) in
    rw (unpadded_end x y e n, z)

pub data_unpadded : (x : List ℕ) → data_good x ≡ true → unpadded x ≡ x
unfolding data_good
data_unpadded x e = unpadded_every true x (right (leb (length x) 10) (every (belongs true) x) e)

first_not_space : (b : ℕ) → first_good b ≡ true → eqb b SPACE ≡ false
first_not_space b e = split (eqb b SPACE) (λ t. never (ap first_good (sym (eqb-true b SPACE t)) ∙ e)) (λ t. t)

pub program_unpadded : (x : List ℕ) → program_good x ≡ true → unpadded x ≡ x
unfolding program_good unpadded
program_unpadded [] e = refl
program_unpadded (b ∷ bs) e =
    let p = both (leb 1 (length (b ∷ bs)) && (leb (length (b ∷ bs)) 64 && first_good b)) (every (belongs true) bs) e in
    let f = right (leb (length (b ∷ bs)) 64) (first_good b) (right (leb 1 (length (b ∷ bs))) (leb (length (b ∷ bs)) 64 && first_good b) p.0) in
    rw (first_not_space b f, and_false (is_empty (unpadded bs)), unpadded_every true bs p.1)

pub program_length : (x : List ℕ) → program_good x ≡ true → (1 ≤ length x) × (length x ≤ 64)
unfolding program_good
program_length x e =
    let a = left (leb 1 (length x) && (leb (length x) 64 && first_good (get_or x 0 0))) (every (belongs true) (drop 1 x)) e in
    let b = both (leb 1 (length x)) (leb (length x) 64 && first_good (get_or x 0 0)) a in
    (leb-true 1 (length x) b.0, leb-true (length x) 64 (left (leb (length x) 64) (first_good (get_or x 0 0)) b.1))

-- ---- LU network names

pub record PartOf (x : List ℕ) : Type 0 where
  pub some : 1 ≤ length x
  pub short : length x ≤ 8
  pub unpads : unpadded x ≡ x

part_of : (x : List ℕ) → part_good x ≡ true → PartOf x
unfolding part_good
part_of x e =
    let a = both (leb 1 (length x) && (leb (length x) 8 && is_letter (get_or x 0 0))) (every (belongs false) x) e in
    let b = both (leb 1 (length x)) (leb (length x) 8 && is_letter (get_or x 0 0)) a.0 in
    record {
      some = leb-true 1 (length x) b.0;
      short = leb-true (length x) 8 (left (leb (length x) 8) (is_letter (get_or x 0 0)) b.1);
      unpads = unpadded_every false x a.1;
    }

-- one part, or two with a period between them
parts : (x : List ℕ) → lu_name_good x ≡ true → (X : Type 0) → (PartOf x → X)
    → (PartOf (take (index_of PERIOD x) x) → PartOf (drop (index_of PERIOD x + 1) x) → X) → X
unfolding lu_name_good
parts x e X f g =
    let p = index_of PERIOD x in
    split (eqb p (length x)) (λ t. f (part_of x (rw t at e)))
    (λ t. let b = both (part_good (take p x)) (part_good (drop (p + 1) x)) (rw t at e) in g (part_of (take p x) b.0) (part_of (drop (p + 1) x) b.1))

pub lu_length : (x : List ℕ) → lu_name_good x ≡ true → (1 ≤ length x) × (length x ≤ 17)
lu_length x e =
    parts x e ((1 ≤ length x) × (length x ≤ 17)) (λ p. (p.some, let t = p.short in omega (arith, t)))
    (λ a b.
    let t = length-take (index_of PERIOD x) x in
    let d = length-drop (index_of PERIOD x + 1) x in
    let u = a.short in
    let v = b.short in
    let w = b.some in
    (omega (arith, d, w), omega (arith, t, d, u, v)))

pub lu_unpadded : (x : List ℕ) → lu_name_good x ≡ true → unpadded x ≡ x
lu_unpadded x e =
    parts x e (unpadded x ≡ x) (λ p. p.unpads)
    (λ a b.
    let k = index_of PERIOD x + 1 in
    let y = drop k x in
    let s = b.some in
    let n : is_empty y ≡ false = ne_eqb (length y) 0 (λ t. absurd (omega (arith, t, s))) in
    subst (λ (l : List ℕ). unpadded l ≡ l) (take-append-drop k x) (unpadded_end (take k x) y b.unpads n))
