-- What the tests of a logical-unit-of-work identifier tell.
-- Assumes nothing.
use mathlib.Core.Path.{◌≡◌}
use mathlib.Core.Bool.{true, false, ◌&&◌}
use mathlib.Core.List.{List, [], ◌∷◌}
use Prim.Native.Nat.{ℕ, ◌≤◌}
use lib.Dec.{leb, eqb}
use native.Mathlib.Omega.{arith}
use lib.ListN.{length, replicate}
use Rattle.cells.specs.Cells.{front}
use borrow.Author.Tests.{leb-true, eqb-true}
use Rattle.bools.proofs.Tests.{both, or_right}
use Rattle.attach_header.specs.Characters.{is_empty, unpadded, lu_name_good}
use Rattle.attach_header.specs.Fields.{string_of}
use Rattle.attach_header.specs.Read.{opened, identifier_good}
use Rattle.attach_header.specs.Places.{work_of}
use Rattle.attach_header.specs.declared.SymbolString.{SymbolString}
use Rattle.attach_header.specs.declared.work.Work.{Work}

pub record Identifier (w : List ℕ) : Type 0 where
  pub whole : (opened w).whole ≡ true
  pub short : length (opened w).field ≤ 17
  pub numbers : length (opened w).rest ≡ 8
  pub name : lu_name_good (unpadded (opened w).field) ≡ true

pub identifier : (w : List ℕ) → identifier_good w ≡ true → is_empty w ≡ false → Identifier w
unfolding identifier_good
identifier w e n =
    let short = leb (length (opened w).field) 17 in
    let numbers = eqb (length (opened w).rest) 8 in
    let name = lu_name_good (unpadded (opened w).field) in
    let a = both ((opened w).whole && short && numbers) name (or_right (is_empty w) ((opened w).whole && short && numbers && name) e n) in
    let b = both ((opened w).whole && short) numbers a.0 in
    let c = both (opened w).whole short b.0 in
    record {
      whole = c.0;
      short = leb-true (length (opened w).field) 17 c.1;
      numbers = eqb-true (length (opened w).rest) 8 b.1;
      name = a.1;
    }

-- none
pub no_work : (s : List ℕ) {r : SymbolString} → length s ≡ 0 → r ≡ string_of (unpadded s)
    → ◌≡◌ {A = Work} (record { lu = r; instance = replicate 6 0; sequence = replicate 2 0 }) (work_of s)
unfolding work_of opened front
no_work [] l e = rw e
no_work (x ∷ s) l e = absurd (omega arith)
