-- What a unit is, by its header alone: the sort of a unit, what is counted of it, and its bytes. Every proof above that asks no more goes by the sort, so that
-- a new kind of header is a line of each list here.
-- Assumes nothing.
use Rattle.calls.proofs.CallWords.{ℕ, ◌<◌, ◌+◌, ◌≤◌, eqb, length, Bool, true, false, cond, not, ◌&&◌, ◌||◌, List, [], ◌∷◌, ◌≡◌, refl, sym, ap, ◌∙◌, arith, cases}
use Rattle.calls.proofs.CallWords.{confirms, header_good, DataHeader, Header, bid_ru, fixed_ru, ru_good, unit_of, header_in, Control, bid_answer, ru_received}
use Rattle.calls.proofs.CallWords.{header_received, AllBytes, count, is_pacing_response, is_request, among, requests_among}
use Prim.Native.Nat.{◌/◌, ◌%◌}
use lib.ListN.{drop}
use Rattle.cells.specs.Equal.{same_bytes}
use Rattle.header.specs.Weights.{on, bit, FIRST, LAST, DR1, DR2, EXCEPTION, PACING, BB, CD, CEB}
use Rattle.header.specs.Rules.{bytes, is_data, same_header}
use Rattle.header.specs.Header.{header_bytes, fields_of, data_fields, is_first, begins_bracket, is_last, follows_of, turns, ends_bracket}
use Rattle.unit.specs.Ru.{positive_ru, negative_ru, error_ru, negative_confirmation_ru}
use Rattle.unit.specs.Unit.{RU_START, unit_bytes}
use Rattle.header.specs.declared.HeaderBytes.{HeaderBytes}
use Rattle.header.specs.declared.Header.TheVariants.{Data, Bid, ErrorDescription, PositiveBidResponse, NegativeBidResponse, Confirmation}
use Rattle.header.specs.declared.Header.TheVariants.{NegativeConfirmation, PacingResponse}
use Rattle.header.proofs.RoundTrip.{built_fields, read_bytes}
use Rattle.unit.proofs.UnitLaws.{unit_header, unit_ru}
use Rattle.control.specs.StateTests.{is_reset}
use Rattle.calls.specs.UnitCounts.{data_ru, is_negative_confirmation, is_error_header}
use Rattle.calls.proofs.ByteLists.{are_bytes, cons_bytes}

-- ---- sorts

pub data Sort : Type 0 where
  -- a request that brings bytes
  brings : DataHeader → Sort
  -- a bid: a request that brings none and is answered, with its pacing bit
  asks : Bool → Sort
  -- an error header: a request that brings none and leaves a mark, with its pacing bit
  tells : Bool → Sort
  -- a response that changes the finite part alone
  answers : Sort
  -- a pacing response
  paces : Sort

abbrev pub sort_of : Header → Sort
sort_of (Data d) = brings d
sort_of (Bid p) = asks p
sort_of (ErrorDescription p) = tells p
sort_of PositiveBidResponse = answers
sort_of NegativeBidResponse = answers
sort_of Confirmation = answers
sort_of NegativeConfirmation = answers
sort_of PacingResponse = paces

-- the bytes of data, and of no other sort
abbrev pub data_of : Sort → List ℕ → List ℕ
data_of (brings d) ru = ru
data_of (asks p) ru = []
data_of (tells p) ru = []
data_of answers ru = []
data_of paces ru = []

abbrev pub is_asking : Sort → Bool
is_asking (brings d) = true
is_asking (asks p) = true
is_asking (tells p) = true
is_asking answers = false
is_asking paces = false

abbrev pub is_pacing : Sort → Bool
is_pacing (brings d) = false
is_pacing (asks p) = false
is_pacing (tells p) = false
is_pacing answers = false
is_pacing paces = true

-- the pacing bit of a request
abbrev pub bit_of : Sort → Bool
bit_of (brings d) = d.pacing
bit_of (asks p) = p
bit_of (tells p) = p
bit_of answers = false
bit_of paces = false

-- an error header
abbrev pub is_telling : Sort → Bool
is_telling (brings d) = false
is_telling (asks p) = false
is_telling (tells p) = true
is_telling answers = false
is_telling paces = false

-- the response that announces it
abbrev pub is_denial : Header → Bool
is_denial (Data d) = false
is_denial (Bid p) = false
is_denial (ErrorDescription p) = false
is_denial PositiveBidResponse = false
is_denial NegativeBidResponse = false
is_denial Confirmation = false
is_denial NegativeConfirmation = true
is_denial PacingResponse = false

-- the answer to a bid
pub answer_sort : (c : Control) → sort_of (bid_answer c) ≡ answers
answer_sort c = cases (λ (h : Header). sort_of h ≡ answers) (is_reset c.state) (λ y. refl) (λ n. refl)

-- ---- a unit that a call makes is read as it was made

pub taken_header : (n : ℕ) (h : Header) (ru : List ℕ) → header_received (unit_of n h ru) ≡ h
taken_header n h ru = ap fields_of (unit_header n h ru) ∙ built_fields h

-- ---- the bytes of data on a line

-- in the order of `fields_of`: data, and then by byte 0
by_kind : (a x b c d y e : Bool) (h : HeaderBytes) (p : Bool) (ru : List ℕ)
    → cond a ru []
    ≡ data_of
    (sort_of
    (cond a (Data (data_fields h))
    (cond x (ErrorDescription p)
    (cond b (Bid p)
    (cond c (cond d PacingResponse Confirmation) (cond y NegativeConfirmation (cond e PositiveBidResponse NegativeBidResponse)))))))
    ru
by_kind true x b c d y e h p ru = refl
by_kind false true b c d y e h p ru = refl
by_kind false false true c d y e h p ru = refl
by_kind false false false true true y e h p ru = refl
by_kind false false false true false y e h p ru = refl
by_kind false false false false d true e h p ru = refl
by_kind false false false false d false true h p ru = refl
by_kind false false false false d false false h p ru = refl

pub data_ru_lem : (u : List ℕ) → data_ru u ≡ data_of (sort_of (header_received u)) (ru_received u)
unfolding fields_of
data_ru_lem u =
    let h = header_in u in
    by_kind (is_data h) (eqb h.b0 0x0B) (eqb h.b0 0x4B) (eqb h.b0 0x83) (on 0x01 h.b1) (eqb h.b0 0x87) (eqb h.b0 0xCB) h (on 0x01 h.b1) (ru_received u)

pub data_unit : (n : ℕ) (h : Header) (ru : List ℕ) → data_ru (unit_of n h ru) ≡ data_of (sort_of h) ru
data_unit n h ru = data_ru_lem (unit_of n h ru) ∙ rw (taken_header n h ru, unit_ru n h ru)

-- ---- requests and pacing responses

-- byte 0 of a data header
data_byte : (a b : Bool)
    → let b0 = bit a FIRST + bit b LAST in
    (not (on 0x80 b0) ≡ true) × (eqb b0 0x83 ≡ false) × (eqb b0 0x87 ≡ false) × (eqb b0 0x0B ≡ false)
data_byte true true = (refl, refl, refl, refl)
data_byte true false = (refl, refl, refl, refl)
data_byte false true = (refl, refl, refl, refl)
data_byte false false = (refl, refl, refl, refl)

-- what the bytes of a header say
header_says : (h : Header)
    → let b = header_bytes h in
    (not (on 0x80 b.b0) ≡ is_asking (sort_of h)) × (same_header b (bytes 0x83 0x01 0x00) ≡ is_pacing (sort_of h))
    × (same_header b (bytes 0x87 0x30 0x00) ≡ is_denial h)
    × (same_header b (bytes 0x0B 0x90 0x00) || same_header b (bytes 0x0B 0x91 0x00) ≡ is_telling (sort_of h))
unfolding header_bytes
header_says (Data d) =
    let b = data_byte (is_first d.begins) (is_last d.ends) in
    (b.0, rw b.1, rw b.2, rw b.3)
header_says (Bid p) = (refl, refl, refl, refl)
header_says (ErrorDescription true) = (refl, refl, refl, refl)
header_says (ErrorDescription false) = (refl, refl, refl, refl)
header_says PositiveBidResponse = (refl, refl, refl, refl)
header_says NegativeBidResponse = (refl, refl, refl, refl)
header_says Confirmation = (refl, refl, refl, refl)
header_says NegativeConfirmation = (refl, refl, refl, refl)
header_says PacingResponse = (refl, refl, refl, refl)

pub requests_unit : (n : ℕ) (h : Header) (ru : List ℕ) → requests_among (unit_of n h ru ∷ []) ≡ count (is_asking (sort_of h)) + 0
unfolding among
requests_unit n h ru = ap (λ (x : HeaderBytes). count (not (on 0x80 x.b0)) + 0) (unit_header n h ru) ∙ rw (header_says h).0

pub request_received_lem : (u : List ℕ) → header_good (header_in u) ≡ true → is_request u ≡ is_asking (sort_of (header_received u))
request_received_lem u g = ap (λ (x : HeaderBytes). not (on 0x80 x.b0)) (sym (read_bytes (header_in u) g)) ∙ (header_says (header_received u)).0

pub pacing_taken : (u : List ℕ) → header_good (header_in u) ≡ true → is_pacing_response u ≡ is_pacing (sort_of (header_received u))
pacing_taken u g =
    ap (λ (x : HeaderBytes). same_header x (bytes 0x83 0x01 0x00)) (sym (read_bytes (header_in u) g)) ∙ (header_says (header_received u)).1

-- a unit made, as a request, as a negative confirmation and as an error header
pub unit_says : (n : ℕ) (h : Header) (ru : List ℕ)
    → (is_request (unit_of n h ru) ≡ is_asking (sort_of h)) × (is_negative_confirmation (unit_of n h ru) ≡ is_denial h)
    × (is_error_header (unit_of n h ru) ≡ (is_telling (sort_of h) && same_bytes ru error_ru))
unit_says n h ru =
    let s = header_says h in
    let e = unit_header n h ru in
    let rest = drop RU_START (unit_of n h ru) in (
      ap (λ (x : HeaderBytes). not (on 0x80 x.b0)) e ∙ s.0,
      ap (λ (x : HeaderBytes). same_header x (bytes 0x87 0x30 0x00)) e ∙ s.2,
      ap (λ (x : HeaderBytes). (same_header x (bytes 0x0B 0x90 0x00) || same_header x (bytes 0x0B 0x91 0x00)) && same_bytes rest error_ru) e
          ∙ ap (λ (b : Bool). b && same_bytes rest error_ru) s.3 ∙ ap (λ (r : List ℕ). is_telling (sort_of h) && same_bytes r error_ru) (unit_ru n h ru),
    )

pub denial_received : (u : List ℕ) → header_good (header_in u) ≡ true → is_negative_confirmation u ≡ is_denial (header_received u)
denial_received u g =
    ap (λ (x : HeaderBytes). same_header x (bytes 0x87 0x30 0x00)) (sym (read_bytes (header_in u) g)) ∙ (header_says (header_received u)).2

-- ---- the bytes of a unit, and the RUs that are always the same

bit_most : (b : Bool) (w : ℕ) → bit b w ≤ w
bit_most true w = omega arith
bit_most false w = omega arith

confirm_most : (b : Bool) → cond b DR2 (DR1 + EXCEPTION) ≤ 0x90
confirm_most true = omega arith
confirm_most false = omega arith

header_small : (h : Header) → ((header_bytes h).b0 < 256) × ((header_bytes h).b1 < 256) × ((header_bytes h).b2 < 256)
unfolding header_bytes
header_small (Data d) =
    let a = bit_most (is_first d.begins) FIRST in
    let b = bit_most (is_last d.ends) LAST in
    let c = confirm_most (confirms d.ends) in
    let e = bit_most d.pacing PACING in
    let f = bit_most (begins_bracket d.begins) BB in
    let g = bit_most (turns (follows_of d.ends)) CD in
    let h = bit_most (ends_bracket (follows_of d.ends)) CEB in
    (omega arith, omega arith, omega arith)
header_small (Bid p) = let a = bit_most p PACING in (omega arith, omega arith, omega arith)
header_small (ErrorDescription p) = let a = bit_most p PACING in (omega arith, omega arith, omega arith)
header_small PositiveBidResponse = (omega arith, omega arith, omega arith)
header_small NegativeBidResponse = (omega arith, omega arith, omega arith)
header_small Confirmation = (omega arith, omega arith, omega arith)
header_small NegativeConfirmation = (omega arith, omega arith, omega arith)
header_small PacingResponse = (omega arith, omega arith, omega arith)

-- the bytes of a unit that an end makes
pub unit_bytes_lem : (n : ℕ) (h : Header) (ru : List ℕ) → n < 65536 → AllBytes ru → AllBytes (unit_of n h ru)
unfolding unit_of unit_bytes
unit_bytes_lem n h ru l f =
    let s = header_small h in
    let b0 = (header_bytes h).b0 in
    let b1 = (header_bytes h).b1 in
    let b2 = (header_bytes h).b2 in
    cons_bytes (n / 256) (n % 256 ∷ b0 ∷ b1 ∷ b2 ∷ ru) (omega arith)
    (cons_bytes (n % 256) (b0 ∷ b1 ∷ b2 ∷ ru) (omega arith) (cons_bytes b0 (b1 ∷ b2 ∷ ru) s.0 (cons_bytes b1 (b2 ∷ ru) s.1 (cons_bytes b2 ru s.2 f))))

-- the RU of a header that is always the same; that of a response is good whatever the maximum (22)
pub fixed_ru_lem : (h : Header) → (length (fixed_ru h) ≤ 1024) × AllBytes (fixed_ru h) × ((m : ℕ) → is_asking (sort_of h) ≡ false → ru_good m h (fixed_ru h) ≡ true)
unfolding ru_good same_bytes
fixed_ru_lem (Data d) = (omega arith, are_bytes [] refl, λ m e. cc)
fixed_ru_lem (Bid p) = (omega arith, are_bytes bid_ru refl, λ m e. refl)
fixed_ru_lem (ErrorDescription p) = (omega arith, are_bytes error_ru refl, λ m e. refl)
fixed_ru_lem PositiveBidResponse = (omega arith, are_bytes positive_ru refl, λ m e. refl)
fixed_ru_lem NegativeBidResponse = (omega arith, are_bytes negative_ru refl, λ m e. refl)
fixed_ru_lem Confirmation = (omega arith, are_bytes [] refl, λ m e. refl)
fixed_ru_lem NegativeConfirmation = (omega arith, are_bytes negative_confirmation_ru refl, λ m e. refl)
fixed_ru_lem PacingResponse = (omega arith, are_bytes [] refl, λ m e. refl)
