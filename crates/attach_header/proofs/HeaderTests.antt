-- What the tests of a header tell, where all hold.
-- Assumes nothing.
use mathlib.Core.Path.{◌≡◌}
use mathlib.Core.Bool.{true, ◌&&◌}
use mathlib.Core.List.{List}
use Prim.Native.Nat.{ℕ, ◌≤◌}
use lib.Dec.{leb}
use lib.ListN.{length}
use borrow.Author.Tests.{leb-true}
use Rattle.bools.proofs.Tests.{both}
use Rattle.attach_header.specs.Characters.{unpadded, program_good}
use Rattle.attach_header.specs.Read.{fixed_good, lengths_good, name_good, security_good, identifier_good, header_good, program_in, security_in, work_in}

pub record Good (h : List ℕ) : Type 0 where
  pub fixed : fixed_good h ≡ true
  pub lengths : lengths_good h ≡ true
  pub name : name_good (program_in h).field ≡ true
  pub security : security_good (security_in h).field ≡ true
  pub identifier : identifier_good (work_in h).field ≡ true

pub good : (h : List ℕ) → header_good h ≡ true → Good h
unfolding header_good
good h e =
    let name = name_good (program_in h).field in
    let security = security_good (security_in h).field in
    let a = both (fixed_good h && lengths_good h && name && security) (identifier_good (work_in h).field) e in
    let b = both (fixed_good h && lengths_good h && name) security a.0 in
    let c = both (fixed_good h && lengths_good h) name b.0 in
    let d = both (fixed_good h) (lengths_good h) c.0 in
    record { fixed = d.0; lengths = d.1; name = c.1; security = b.1; identifier = a.1 }

pub name_good_lem : (x : List ℕ) → name_good x ≡ true → (length x ≤ 64) × (program_good (unpadded x) ≡ true)
unfolding name_good
name_good_lem x e = let b = both (leb (length x) 64) (program_good (unpadded x)) e in (leb-true (length x) 64 b.0, b.1)
