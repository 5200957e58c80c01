-- What was asked of a unit, told from what was read of it.
-- Assumes nothing.
use Prim.Native.Nat.{ℕ}
use mathlib.Core.Path.{◌≡◌, ap}
use mathlib.Core.Bool.{true, false}
use mathlib.Core.List.{List}
use lib.Dec.{leb}
use lib.ListN.{length}
use Rattle.std.specs.Prelude.{Ok, Err}
use Rattle.header.specs.Rules.{lowest_broken, header_good}
use Rattle.unit.specs.Unit.{RU_START, number_in, header_in, heading_of, read_unit}
use Rattle.unit.specs.declared.Heading.{Heading}
use Rattle.header.specs.declared.Rule.{Rule}
use Rattle.header.specs.declared.Header.{Header}
use Rattle.unit.specs.declared.Unreadable.TheVariants.{TooShort, Breaks}
use Rattle.unit.proofs.ReadByHeader.{good_of, short_of, broken_of}
use Rattle.end.specs.ReceiveUnit.{header_received}

pub record ReadGood (u : List ℕ) (h : Heading Header) : Type 0 where
  pub long : leb RU_START (length u) ≡ true
  pub good : header_good (header_in u) ≡ true
  pub header_is : h.header ≡ header_received u
  pub number_is : h.number ≡ number_in u

pub read_good : (u : List ℕ) (h : Heading Header) → Ok h ≡ read_unit u → ReadGood u h
unfolding read_unit heading_of
read_good u h e =
    let t = good_of (leb RU_START (length u)) (header_good (header_in u)) h (heading_of u) (lowest_broken (header_in u)) e in
    record { long = t.0; good = t.1; header_is = ap (λ (x : Heading Header). x.header) t.2; number_is = ap (λ (x : Heading Header). x.number) t.2 }

pub read_short : (u : List ℕ) → Err TooShort ≡ read_unit u → leb RU_START (length u) ≡ false
unfolding read_unit
read_short u e = short_of (leb RU_START (length u)) (header_good (header_in u)) (heading_of u) (lowest_broken (header_in u)) e

pub read_broken : (u : List ℕ) (named : Rule) → Err (Breaks named) ≡ read_unit u
    → (leb RU_START (length u) ≡ true) × (header_good (header_in u) ≡ false) × (named ≡ lowest_broken (header_in u))
unfolding read_unit
read_broken u named e = broken_of (leb RU_START (length u)) (header_good (header_in u)) (heading_of u) named (lowest_broken (header_in u)) e
