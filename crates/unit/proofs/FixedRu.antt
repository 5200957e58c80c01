-- The fixed RUs, by the kinds of headers that want them.
-- Assumes nothing.
use Rattle.std.proofs.Common.{◌≡◌, ℕ, List, refl}
use Rattle.cells.specs.Equal.{same_bytes}
use Rattle.unit.specs.Ru.{fixed_ru, ru_good}
use Rattle.header.specs.declared.DataHeader.{DataHeader}
use Rattle.header.specs.declared.Header.{Header}
use Rattle.header.specs.declared.Header.TheVariants.{Data, Bid, ErrorDescription}
use Rattle.header.specs.declared.Header.TheVariants.{PositiveBidResponse, NegativeBidResponse, Confirmation, NegativeConfirmation, PacingResponse}

-- all but Data want the fixed one
pub wants_fixed : (max : ℕ) (f : Header) (ru : List ℕ) → ((d : DataHeader) → f ≡ Data d → ⊥) → same_bytes ru (fixed_ru f) ≡ ru_good max f ru
unfolding ru_good
wants_fixed max (Data d) ru k = absurd (k d refl)
wants_fixed max (Bid p) ru k = refl
wants_fixed max (ErrorDescription p) ru k = refl
wants_fixed max PositiveBidResponse ru k = refl
wants_fixed max NegativeBidResponse ru k = refl
wants_fixed max Confirmation ru k = refl
wants_fixed max NegativeConfirmation ru k = refl
wants_fixed max PacingResponse ru k = refl
