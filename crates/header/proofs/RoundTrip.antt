-- Every header built is read back as the same fields, and every header accepted is rebuilt as the same bytes.
-- Assumes nothing.
use mathlib.Core.Path.{◌≡◌, refl, sym, ap, ◌∙◌}
use mathlib.Core.Bool.{Bool, true, false, not, cond, ◌||◌}
use Prim.Native.Nat.{ℕ, ◌+◌}
use native.Mathlib.Omega.{arith}
use lib.Dec.{leb}
use Rattle.std.specs.Prelude.{Ok, Err}
use Rattle.header.specs.Weights.{FIRST, LAST, DR1, DR2, EXCEPTION, PACING, BB, CD, CEB, on, bit}
use Rattle.header.specs.Rules.{same_header, requests_confirmation, lowest_broken, header_good}
use Rattle.header.specs.Header.{is_first, begins_bracket, is_last, confirms, follows_of, turns, ends_bracket, data_bytes, header_bytes, begin_of, follow_of, end_of, data_fields, fields_of, read_header}
use Rattle.header.specs.HeaderClaims.{BuiltIsRead, ReadIsBuilt}
use Rattle.header.specs.declared.Follows.{Follows}
use Rattle.header.specs.declared.Follows.TheVariants.{Stay, ChangeDirection, EndBracket}
use Rattle.header.specs.declared.ChainBegin.{ChainBegin}
use Rattle.header.specs.declared.ChainBegin.TheVariants.{Continued, First, FirstWithBracket}
use Rattle.header.specs.declared.ChainEnd.{ChainEnd}
use Rattle.header.specs.declared.ChainEnd.TheVariants.{Continues, Last}
use Rattle.header.specs.declared.DataHeader.{DataHeader}
use Rattle.header.specs.declared.Header.{Header}
use Rattle.header.specs.declared.Header.TheVariants.{Data, Bid, ErrorDescription}
use Rattle.header.specs.declared.Header.TheVariants.{PositiveBidResponse, NegativeBidResponse, Confirmation, NegativeConfirmation, PacingResponse}
use Rattle.header.specs.declared.HeaderBytes.{HeaderBytes}
use Rattle.header.specs.declared.Rule.{Rule}
use Rattle.bools.proofs.Tests.{follows_from}
use Rattle.header.proofs.FiniteHeader.{same_header_lem, data_headers}
use Rattle.header.proofs.Candidates.{all_candidates, good_at}

-- ---- the rules hold of every header built

data_good : data_headers.all (λ d. header_good (data_bytes d)) ≡ true
unfolding header_good
data_good = refl

pub built_good : (f : Header) → header_good (header_bytes f) ≡ true
unfolding header_bytes header_good
built_good (Data d) = data_headers.at (λ d. header_good (data_bytes d)) data_good d
built_good (Bid true) = refl
built_good (Bid false) = refl
built_good (ErrorDescription true) = refl
built_good (ErrorDescription false) = refl
built_good PositiveBidResponse = refl
built_good NegativeBidResponse = refl
built_good Confirmation = refl
built_good NegativeConfirmation = refl
built_good PacingResponse = refl

-- ---- a bit that is built is read

byte_0 : (first last : Bool) → let x = bit first FIRST + bit last LAST in (on FIRST x ≡ first) × (on LAST x ≡ last)
byte_0 true true = (refl, refl)
byte_0 true false = (refl, refl)
byte_0 false true = (refl, refl)
byte_0 false false = (refl, refl)

byte_1 : (confirm pacing : Bool)
    → let y = cond confirm DR2 (DR1 + EXCEPTION) + bit pacing PACING in (requests_confirmation y ≡ confirm) × (on PACING y ≡ pacing)
byte_1 true true = (refl, refl)
byte_1 true false = (refl, refl)
byte_1 false true = (refl, refl)
byte_1 false false = (refl, refl)

byte_2 : (bb cd ceb : Bool) → let z = bit bb BB + bit cd CD + bit ceb CEB in (on BB z ≡ bb) × (on CD z ≡ cd) × (on CEB z ≡ ceb)
byte_2 true true true = (refl, refl, refl)
byte_2 true true false = (refl, refl, refl)
byte_2 true false true = (refl, refl, refl)
byte_2 true false false = (refl, refl, refl)
byte_2 false true true = (refl, refl, refl)
byte_2 false true false = (refl, refl, refl)
byte_2 false false true = (refl, refl, refl)
byte_2 false false false = (refl, refl, refl)

-- and the bits of a field are the field
begin_back : (b : ChainBegin) → begin_of (is_first b) (begins_bracket b) ≡ b
begin_back Continued = refl
begin_back First = refl
begin_back FirstWithBracket = refl

follow_back : (w : Follows) → follow_of (turns w) (ends_bracket w) ≡ w
follow_back Stay = refl
follow_back ChangeDirection = refl
follow_back EndBracket = refl

end_back : (e : ChainEnd) → end_of (is_last e) (follow_of (turns (follows_of e)) (ends_bracket (follows_of e))) (confirms e) ≡ e
end_back Continues = refl
end_back (Last w c) = ap (λ (v : Follows). Last v c) (follow_back w)

data_fields_lem : (d : DataHeader) → data_fields (data_bytes d) ≡ d
data_fields_lem d =
    let h = data_bytes d in
    let w = follows_of d.ends in
    let p0 = byte_0 (is_first d.begins) (is_last d.ends) in
    let p1 = byte_1 (confirms d.ends) d.pacing in
    let p2 = byte_2 (begins_bracket d.begins) (turns w) (ends_bracket w) in
    let b : begin_of (on FIRST h.b0) (on BB h.b2) ≡ d.begins = rw (p0.0, p2.0) (begin_back d.begins) in
    let e : end_of (on LAST h.b0) (follow_of (on CD h.b2) (on CEB h.b2)) (requests_confirmation h.b1) ≡ d.ends =
    rw (p0.1, p2.1, p2.2, p1.0) (end_back d.ends) in
    λ i. record { begins = b i; ends = e i; pacing = p1.1 i }

data_byte_0 : (first last : Bool) → leb (bit first FIRST + bit last LAST) 0x03 ≡ true
data_byte_0 true true = refl
data_byte_0 true false = refl
data_byte_0 false true = refl
data_byte_0 false false = refl

pub built_fields : (f : Header) → fields_of (header_bytes f) ≡ f
unfolding header_bytes fields_of
built_fields (Data d) = rw (data_byte_0 (is_first d.begins) (is_last d.ends)) (ap (λ (k : DataHeader). Data k) (data_fields_lem d))
built_fields (Bid true) = refl
built_fields (Bid false) = refl
built_fields (ErrorDescription true) = refl
built_fields (ErrorDescription false) = refl
built_fields PositiveBidResponse = refl
built_fields NegativeBidResponse = refl
built_fields Confirmation = refl
built_fields NegativeConfirmation = refl
built_fields PacingResponse = refl

pub built_is_read : BuiltIsRead
unfolding read_header
built_is_read f = rw (built_good f, built_fields f)

-- ---- the other way round

rebuilt : HeaderBytes → Bool
rebuilt h = not (header_good h) || same_header (header_bytes (fields_of h)) h

every_rebuilt : all_candidates rebuilt ≡ true
unfolding rebuilt header_good header_bytes fields_of
every_rebuilt = refl

pub read_bytes : (h : HeaderBytes) → header_good h ≡ true → header_bytes (fields_of h) ≡ h
unfolding rebuilt
read_bytes h g =
    same_header_lem (header_bytes (fields_of h)) h
    (follows_from (header_good h) (same_header (header_bytes (fields_of h)) h) (good_at rebuilt every_rebuilt h g) g)

accepted : (ok : Bool) (f g : Header) (r : Rule) → cond ok (Ok g) (Err r) ≡ Ok f → (ok ≡ true) × (g ≡ f)
accepted true f g r e = (refl, cc)
accepted false f g r e = absurd (let z : ◌≡◌ {A = ℕ} 0 1 = cc in omega arith)

pub read_is_built : ReadIsBuilt
unfolding read_header
read_is_built h f e =
    let p = accepted (header_good h) f (fields_of h) (lowest_broken h) e in
    ap header_bytes (sym p.1) ∙ read_bytes h p.0
