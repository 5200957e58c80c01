-- The RUs: those that are fixed, and what a data RU may be.
-- Assumes nothing.
use Rattle.std.specs.Prelude.{ℕ, Bool, ◌&&◌, ◌||◌, List, [], ◌∷◌, length, nat_le}
use Rattle.cells.specs.Equal.{same_bytes}
use Rattle.header.specs.Header.{confirms, follows_of, turns, ends_bracket}
use Rattle.header.specs.declared.ChainEnd.{ChainEnd}
use Rattle.header.specs.declared.DataHeader.{DataHeader}
use Rattle.header.specs.declared.Header.{Header}
use Rattle.header.specs.declared.Header.TheVariants.{Data, Bid, ErrorDescription}
use Rattle.header.specs.declared.Header.TheVariants.{PositiveBidResponse, NegativeBidResponse, Confirmation, NegativeConfirmation, PacingResponse}

-- a bid is LUSTAT 04 00 06 00 00
abbrev pub bid_ru : List ℕ
bid_ru = 0x04 ∷ 0x00 ∷ 0x06 ∷ 0x00 ∷ 0x00 ∷ []

-- an error header is an FM header 7: 07 07 08 89 00 00 00
abbrev pub error_ru : List ℕ
error_ru = 0x07 ∷ 0x07 ∷ 0x08 ∷ 0x89 ∷ 0x00 ∷ 0x00 ∷ 0x00 ∷ []

-- a grant 04
abbrev pub positive_ru : List ℕ
positive_ru = 0x04 ∷ []

-- a bid refusal 08 13 00 00 04
abbrev pub negative_ru : List ℕ
negative_ru = 0x08 ∷ 0x13 ∷ 0x00 ∷ 0x00 ∷ 0x04 ∷ []

-- a negative confirmation 08 46 00 00, the sense data that announce an error header
abbrev pub negative_confirmation_ru : List ℕ
negative_confirmation_ru = 0x08 ∷ 0x46 ∷ 0x00 ∷ 0x00 ∷ []

-- the RU of a header that is always the same; confirmation and pacing answer have none, and neither has data of no byte
abbrev pub fixed_ru : Header → List ℕ
fixed_ru (Data d) = []
fixed_ru (Bid p) = bid_ru
fixed_ru (ErrorDescription p) = error_ru
fixed_ru PositiveBidResponse = positive_ru
fixed_ru NegativeBidResponse = negative_ru
fixed_ru Confirmation = []
fixed_ru NegativeConfirmation = negative_confirmation_ru
fixed_ru PacingResponse = []

-- a last unit with CD, CEB or a confirmation request: the units that leave a mark
abbrev pub marks : ChainEnd → Bool
marks e = confirms e || (turns (follows_of e) || ends_bracket (follows_of e))

-- a data RU is no longer than the session's maximum; it is empty only on a unit that marks
abbrev pub data_ru_good : ℕ → DataHeader → ℕ → Bool
data_ru_good max d n = nat_le n max && (nat_le 1 n || marks d.ends)

-- the RU is as its header wants it
unfoldable pub ru_good : ℕ → Header → List ℕ → Bool
ru_good max (Data d) ru = data_ru_good max d (length ru)
ru_good max (Bid p) ru = same_bytes ru bid_ru
ru_good max (ErrorDescription p) ru = same_bytes ru error_ru
ru_good max PositiveBidResponse ru = same_bytes ru positive_ru
ru_good max NegativeBidResponse ru = same_bytes ru negative_ru
ru_good max Confirmation ru = same_bytes ru []
ru_good max NegativeConfirmation ru = same_bytes ru negative_confirmation_ru
ru_good max PacingResponse ru = same_bytes ru []
