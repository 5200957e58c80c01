-- What the tests of bytes 0 to j tell.
-- Assumes nothing.
use mathlib.Core.Path.{◌≡◌}
use mathlib.Core.Bool.{true, false, ◌&&◌}
use mathlib.Core.List.{List}
use Prim.Native.Nat.{ℕ, ◌%◌, ◌≤◌, ◌<◌}
use native.Mathlib.Omega.{arith}
use lib.Dec.{leb, eqb}
use lib.ListN.{length}
use borrow.Author.Tests.{leb-true}
use Rattle.bools.proofs.Cases.{split}
use Rattle.bools.proofs.Tests.{both, right}
use Rattle.attach_header.specs.Fields.{resource_good, sync_good}
use Rattle.attach_header.specs.Read.{byte, LEAST_FIXED, variable_at, sync_of, fixed_good}

-- each test, where all hold
pub record Fixed (h : List ℕ) : Type 0 where
  pub least : LEAST_FIXED ≤ byte 5 h
  pub fits : variable_at h ≤ length h
  pub resource : resource_good (byte 6 h) ≡ true
  pub sync : sync_good (sync_of h) ≡ true

pub fixed : (h : List ℕ) → fixed_good h ≡ true → Fixed h
unfolding fixed_good
fixed h e =
    let command = eqb (byte 0 h) (length h) && eqb (byte 1 h % 128) 0x05 && eqb (byte 2 h) 0x02 && eqb (byte 3 h) 0xFF in
    let two = leb LEAST_FIXED (byte 5 h) && leb (variable_at h) (length h) in
    let f = right command (two && resource_good (byte 6 h) && sync_good (sync_of h)) e in
    let s = both (two && resource_good (byte 6 h)) (sync_good (sync_of h)) f in
    let r = both two (resource_good (byte 6 h)) s.0 in
    let t = both (leb LEAST_FIXED (byte 5 h)) (leb (variable_at h) (length h)) r.0 in
    record { least = leb-true LEAST_FIXED (byte 5 h) t.0; fits = leb-true (variable_at h) (length h) t.1; resource = r.1; sync = s.1 }

pub too_short : (h : List ℕ) → length h < 9 → fixed_good h ≡ false
too_short h l =
    split (fixed_good h) (λ e. let f = fixed h e in absurd (omega (arith, f.least, f.fits, l))) (λ e. e)
