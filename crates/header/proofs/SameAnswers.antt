-- The bits of a header, tested in document 000's order, give the answer of the rules H1 to H6: each rule asked of bits is the paper's list
-- of bytes, which antt computes at all 256 of them, and so is each kind's answer.
-- Assumes nothing.
use mathlib.Core.Path.{◌≡◌, refl}
use mathlib.Core.Bool.{Bool, true, false, not, cond, ◌&&◌, ◌||◌}
use mathlib.Core.List.{[], ◌∷◌}
use Prim.Native.Nat.{ℕ, ◌+◌, ◌<◌}
use lib.Dec.{eqb}
use Rattle.std.specs.Prelude.{Result, Ok, Err}
use Rattle.bools.proofs.Cases.{split}
use Rattle.bools.proofs.Finite.{Finite, pairs, bools}
use Rattle.header.specs.Weights.{DR1, DR2, EXCEPTION, PACING, BB, on, bit}
use Rattle.header.specs.Rules.{bytes, keeps_h1, requests_confirmation, data_h3, data_h4, data_h5, data_h6, keeps, lowest_broken, header_good}
use Rattle.header.specs.Header.{begin_of, follow_of, end_of, data_fields, fields_of, read_header}
use Rattle.header.specs.Indicators.{byte0, byte1, byte2}
use Rattle.header.specs.HeaderSteps.{bits_h1, bits_h3, bits_h5, form_is, bracket_is, fixed_read, first_broken, data_read, kind_read, read_bits}
use Rattle.header.specs.ManualOrder.{SameAnswers}
use Rattle.header.specs.declared.DataHeader.{DataHeader}
use Rattle.header.specs.declared.Header.{Header}
use Rattle.header.specs.declared.Header.TheVariants.{Data, Bid, ErrorDescription}
use Rattle.header.specs.declared.Header.TheVariants.{PositiveBidResponse, NegativeBidResponse, Confirmation, NegativeConfirmation, PacingResponse}
use Rattle.header.specs.declared.Rule.{Rule}
use Rattle.header.specs.declared.Rule.TheVariants.{H1, H2, H3, H4, H5, H6}
use Rattle.header.proofs.FiniteHeader.{All, at_member}
use Rattle.header.proofs.Candidates.{heads}
use Rattle.header.proofs.EveryByte.{at_byte, at_byte_and}

-- ---- the rules, of bits

h1_bits : (x : ℕ) → x < 256 → bits_h1 (byte0 x) ≡ keeps_h1 (bytes x 0 0)
h1_bits = at_byte (λ x. bits_h1 (byte0 x)) (λ x. keeps_h1 (bytes x 0 0)) refl

h3_bits : (y : ℕ) → y < 256 → bits_h3 (byte1 y) ≡ data_h3 y
h3_bits = at_byte (λ y. bits_h3 (byte1 y)) data_h3 refl

h5_bits : (z : ℕ) → z < 256 → bits_h5 (byte2 z) ≡ data_h5 z
h5_bits = at_byte (λ z. bits_h5 (byte2 z)) data_h5 refl

-- where H3 is kept, DR2 alone tells whether confirmation is requested
dr2_bit : (y : ℕ) → y < 256 → data_h3 y && on DR2 y ≡ requests_confirmation y
dr2_bit = at_byte (λ y. data_h3 y && on DR2 y) requests_confirmation refl

-- ---- data: H3 to H6

four : (k3 k4 k5 k6 : Bool) (d : DataHeader)
    → first_broken k3 k4 k5 k6 d
    ≡ cond (k3 && (k4 && (k5 && k6))) (Ok (Data d)) (Err (cond (not k3) H3 (cond (not k4) H4 (cond (not k5) H5 H6))))
four false k4 k5 k6 d = refl
four true false k5 k6 d = refl
four true true false k6 d = refl
four true true true false d = refl
four true true true true d = refl

-- what H3 to H6 say of data
abbrev by_rules : ℕ → ℕ → ℕ → Result Header Rule
by_rules x y z =
    cond (data_h3 y && (data_h4 x y && (data_h5 z && data_h6 x z))) (Ok (Data (data_fields (bytes x y z))))
    (Err (cond (not (data_h3 y)) H3 (cond (not (data_h4 x y)) H4 (cond (not (data_h5 z)) H5 H6))))

-- the reader's answer where byte 1 says this of DR2, and of H3
abbrev answered : ℕ → ℕ → ℕ → Bool → Bool → Result Header Rule
answered x y z h3 dr2 =
    first_broken h3 (not dr2 || (byte0 x).last) (data_h5 z) (data_h6 x z)
    (record {
      begins = begin_of (byte0 x).first (byte2 z).bb;
      ends = end_of (byte0 x).last (follow_of (byte2 z).cd (byte2 z).ceb) dr2;
      pacing = (byte1 y).pacing;
    })

-- DR2 counts only where H3 is kept
dr2_counts : (x y z : ℕ) (h3 dr2 : Bool) → answered x y z h3 dr2 ≡ answered x y z h3 (h3 && dr2)
dr2_counts x y z true dr2 = refl
dr2_counts x y z false dr2 = refl

data_lowest : (x y z : ℕ) → y < 256 → z < 256 → data_read (byte0 x) (byte1 y) (byte2 z) ≡ by_rules x y z
data_lowest x y z hy hz =
    rw (h3_bits y hy, h5_bits z hz, dr2_counts x y z (data_h3 y) (on DR2 y), dr2_bit y hy)
    (four (data_h3 y) (data_h4 x y) (data_h5 z) (data_h6 x z) (data_fields (bytes x y z)))

-- ---- the fixed kinds: H2

abbrev forms : Finite (Bool × (Bool × Bool))
forms = pairs bools (pairs bools bools)

-- byte 1 of each form of response: with either pacing bit, or with it off
abbrev form_byte : Bool → Bool → Bool → ℕ
form_byte dr1 dr2 exception = bit dr1 DR1 + bit dr2 DR2 + bit exception EXCEPTION

either : (dr1 dr2 exception : Bool) (y : ℕ) → y < 256
    → form_is (byte1 y) dr1 dr2 exception ≡ eqb y (form_byte dr1 dr2 exception) || eqb y (form_byte dr1 dr2 exception + PACING)
either dr1 dr2 exception =
    at_byte_and forms (λ f y. form_is (byte1 y) f.0 f.1.0 f.1.1)
    (λ f y. eqb y (form_byte f.0 f.1.0 f.1.1) || eqb y (form_byte f.0 f.1.0 f.1.1 + PACING)) refl (dr1, (dr2, exception))

pub unpaced : (dr1 dr2 exception : Bool) (y : ℕ) → y < 256
    → not (on PACING y) && form_is (byte1 y) dr1 dr2 exception ≡ eqb y (form_byte dr1 dr2 exception)
unpaced dr1 dr2 exception =
    at_byte_and forms (λ f y. not (on PACING y) && form_is (byte1 y) f.0 f.1.0 f.1.1)
    (λ f y. eqb y (form_byte f.0 f.1.0 f.1.1)) refl (dr1, (dr2, exception))

-- byte 1 of a confirmation and of a pacing response
positive : (y : ℕ) → y < 256 → form_is (byte1 y) false (not (on PACING y)) false ≡ eqb y 0x20 || eqb y 0x01
positive = at_byte (λ y. form_is (byte1 y) false (not (on PACING y)) false) (λ y. eqb y 0x20 || eqb y 0x01) refl

-- byte 2, with BB or without
pub bracket : (bb : Bool) (z : ℕ) → z < 256 → bracket_is (byte2 z) bb ≡ eqb z (bit bb BB)
bracket = at_byte_and bools (λ bb z. bracket_is (byte2 z) bb) (λ bb z. eqb z (bit bb BB)) refl

-- what H2 says where this is left of its list
abbrev by_h2 : Bool → Header → Result Header Rule
by_h2 k f = cond (k && true) (Ok f) (Err (cond (not k) H2 H6))

-- two rows of it, or one
two_rows : (a b c : Bool) (f : Header) → fixed_read ((a || b) && c) f ≡ by_h2 (a && c || (b && c || false)) f
two_rows true b true f = refl
two_rows true true false f = refl
two_rows true false false f = refl
two_rows false true true f = refl
two_rows false true false f = refl
two_rows false false c f = refl

one_row : (a c : Bool) (f : Header) → fixed_read (a && c) f ≡ by_h2 (a && c || false) f
one_row true true f = refl
one_row true false f = refl
one_row false c f = refl

-- ---- every kind

module _ (y z : ℕ) (hy : y < 256) (hz : z < 256) where
  abbrev ByRules : ℕ → Type 0
  ByRules x = kind_read (bytes x y z) ≡ read_header (bytes x y z)

  data_kinds : (ByRules 0x00) × (ByRules 0x01) × (ByRules 0x02) × ByRules 0x03
  unfolding kind_read read_header fields_of header_good lowest_broken keeps
  data_kinds = (data_lowest 0 y z hy hz, data_lowest 1 y z hy hz, data_lowest 2 y z hy hz, data_lowest 3 y z hy hz)

  error_kind : ByRules 0x0B
  unfolding kind_read read_header fields_of header_good lowest_broken keeps
  error_kind = rw (either true false true y hy, bracket false z hz) (two_rows (eqb y 0x90) (eqb y 0x91) (eqb z 0x00) (ErrorDescription (on PACING y)))

  bid_kind : ByRules 0x4B
  unfolding kind_read read_header fields_of header_good lowest_broken keeps
  bid_kind = rw (either true false false y hy, bracket true z hz) (two_rows (eqb y 0x80) (eqb y 0x81) (eqb z 0x80) (Bid (on PACING y)))

  positive_kind : ByRules 0x83
  unfolding kind_read read_header fields_of header_good lowest_broken keeps
  positive_kind =
      rw (positive y hy, bracket false z hz) (two_rows (eqb y 0x20) (eqb y 0x01) (eqb z 0x00) (cond (on PACING y) PacingResponse Confirmation))

  negative_confirmation_kind : ByRules 0x87
  unfolding kind_read read_header fields_of header_good lowest_broken keeps
  negative_confirmation_kind = rw (unpaced false true true y hy, bracket false z hz) (one_row (eqb y 0x30) (eqb z 0x00) NegativeConfirmation)

  positive_bid_kind : ByRules 0xCB
  unfolding kind_read read_header fields_of header_good lowest_broken keeps
  positive_bid_kind = rw (unpaced true false false y hy, bracket false z hz) (one_row (eqb y 0x80) (eqb z 0x00) PositiveBidResponse)

  negative_bid_kind : ByRules 0xCF
  unfolding kind_read read_header fields_of header_good lowest_broken keeps
  negative_bid_kind = rw (unpaced true false true y hy, bracket false z hz) (one_row (eqb y 0x90) (eqb z 0x00) NegativeBidResponse)

  fixed_kinds : All ByRules (0x0B ∷ 0x4B ∷ 0x83 ∷ 0x87 ∷ 0xCB ∷ 0xCF ∷ [])
  fixed_kinds = (error_kind, (bid_kind, (positive_kind, (negative_confirmation_kind, (positive_bid_kind, (negative_bid_kind, tt))))))

  kinds : (x : ℕ) → keeps_h1 (bytes x y z) ≡ true → ByRules x
  kinds x e = let d = data_kinds in at_member ByRules x heads (d.0, (d.1, (d.2, (d.3, fixed_kinds)))) e

-- ---- any other byte 0: H1

no_kind : (x y z : ℕ) → keeps_h1 (bytes x y z) ≡ false → Err H1 ≡ read_header (bytes x y z)
unfolding read_header header_good lowest_broken keeps
no_kind x y z e = rw e

-- ---- every header

pub same_answers : SameAnswers
unfolding read_bits
same_answers x y z hx hy hz =
    split (keeps_h1 (bytes x y z)) (λ k. rw (h1_bits x hx, k) (kinds y z hy hz x k)) (λ k. rw (h1_bits x hx, k) (no_kind x y z k))
