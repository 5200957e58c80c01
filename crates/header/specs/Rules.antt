-- H1 to H6, as document 01 prints them and document 02's S-9 extends H1 and H2: each of the three bytes of a header.
-- Assumes nothing.
use Rattle.std.specs.Prelude.{ℕ, Bool, false, not, cond, ◌&&◌, ◌||◌, List, [], ◌∷◌, eqb, leb}
use Rattle.header.specs.Weights.{FIRST, LAST, BB, CD, CEB, on}
use Rattle.header.specs.declared.HeaderBytes.{HeaderBytes}
use Rattle.header.specs.declared.Rule.{Rule}
use Rattle.header.specs.declared.Rule.TheVariants.{H1, H2, H3, H4, H5, H6}

abbrev pub bytes : ℕ → ℕ → ℕ → HeaderBytes
bytes x y z = record { b0 = x; b1 = y; b2 = z }

-- x is one of the list
abbrev pub one_of : ℕ → List ℕ → Bool
one_of x [] = false
one_of x (n ∷ []) = eqb x n
one_of x (n ∷ m ∷ ns) = eqb x n || one_of x (m ∷ ns)

-- the three bytes are one of the list
abbrev pub same_header : HeaderBytes → HeaderBytes → Bool
same_header h k = eqb h.b0 k.b0 && (eqb h.b1 k.b1 && eqb h.b2 k.b2)

abbrev pub one_of_headers : HeaderBytes → List HeaderBytes → Bool
one_of_headers h [] = false
one_of_headers h (k ∷ ks) = same_header h k || one_of_headers h ks

-- H1: byte 0 is 00, 01, 02, 03, 0B, 4B, 83, 87, CB or CF
abbrev pub keeps_h1 : HeaderBytes → Bool
keeps_h1 h = one_of h.b0 (0x00 ∷ 0x01 ∷ 0x02 ∷ 0x03 ∷ 0x0B ∷ 0x4B ∷ 0x83 ∷ 0x87 ∷ 0xCB ∷ 0xCF ∷ [])

-- H2, of the last six: an error header is 0B 90 00 or 0B 91 00; a bid 4B 80 80 or 4B 81 80; a grant CB 80 00; a bid refusal CF 90 00;
-- a confirmation 83 20 00; a pacing answer 83 01 00; a negative confirmation 87 30 00
abbrev pub is_fixed : HeaderBytes → Bool
is_fixed h = one_of h.b0 (0x0B ∷ 0x4B ∷ 0x83 ∷ 0x87 ∷ 0xCB ∷ 0xCF ∷ [])

abbrev pub fixed_headers : List HeaderBytes
fixed_headers =
    bytes 0x0B 0x90 0x00
    ∷ bytes 0x0B 0x91 0x00
    ∷ bytes 0x4B 0x80 0x80
    ∷ bytes 0x4B 0x81 0x80
    ∷ bytes 0xCB 0x80 0x00
    ∷ bytes 0xCF 0x90 0x00
    ∷ bytes 0x83 0x20 0x00
    ∷ bytes 0x83 0x01 0x00
    ∷ bytes 0x87 0x30 0x00
    ∷ []

abbrev pub keeps_h2 : HeaderBytes → Bool
keeps_h2 h = not (is_fixed h) || one_of_headers h fixed_headers

-- H3 to H6 are of data, byte 0 at most 03
abbrev pub is_data : HeaderBytes → Bool
is_data h = leb h.b0 0x03

-- H3: byte 1 is 90, 91, 20 or 21; 20 and 21 request confirmation
abbrev pub data_h3 : ℕ → Bool
data_h3 b1 = one_of b1 (0x90 ∷ 0x91 ∷ 0x20 ∷ 0x21 ∷ [])

abbrev pub requests_confirmation : ℕ → Bool
requests_confirmation b1 = one_of b1 (0x20 ∷ 0x21 ∷ [])

abbrev pub keeps_h3 : HeaderBytes → Bool
keeps_h3 h = not (is_data h) || data_h3 h.b1

-- H4: a confirmation is requested only by the last in a chain
abbrev pub data_h4 : ℕ → ℕ → Bool
data_h4 b0 b1 = not (requests_confirmation b1) || on LAST b0

abbrev pub keeps_h4 : HeaderBytes → Bool
keeps_h4 h = not (is_data h) || data_h4 h.b0 h.b1

-- H5: byte 2 is 00, 01, 20, 80, 81 or A0
abbrev pub data_h5 : ℕ → Bool
data_h5 b2 = one_of b2 (0x00 ∷ 0x01 ∷ 0x20 ∷ 0x80 ∷ 0x81 ∷ 0xA0 ∷ [])

abbrev pub keeps_h5 : HeaderBytes → Bool
keeps_h5 h = not (is_data h) || data_h5 h.b2

-- H6: BB stands only on the first in a chain, CD and CEB only on the last
abbrev pub data_h6 : ℕ → ℕ → Bool
data_h6 b0 b2 = (not (on BB b2) || on FIRST b0) && (not (on CD b2 || on CEB b2) || on LAST b0)

abbrev pub keeps_h6 : HeaderBytes → Bool
keeps_h6 h = not (is_data h) || data_h6 h.b0 h.b2

unfoldable pub keeps : Rule → HeaderBytes → Bool
keeps H1 h = keeps_h1 h
keeps H2 h = keeps_h2 h
keeps H3 h = keeps_h3 h
keeps H4 h = keeps_h4 h
keeps H5 h = keeps_h5 h
keeps H6 h = keeps_h6 h

-- the header breaks this rule
abbrev pub breaks : Rule → HeaderBytes → Bool
breaks r h = not (keeps r h)

-- the paper's number of a rule
abbrev pub rule_number : Rule → ℕ
rule_number H1 = 1
rule_number H2 = 2
rule_number H3 = 3
rule_number H4 = 4
rule_number H5 = 5
rule_number H6 = 6

-- the lowest rule that a test finds; where it finds none, H6 stands in
abbrev pub lowest : (Rule → Bool) → Rule
lowest found = cond (found H1) H1 (cond (found H2) H2 (cond (found H3) H3 (cond (found H4) H4 (cond (found H5) H5 H6))))

-- the lowest rule that the header breaks
unfoldable pub lowest_broken : HeaderBytes → Rule
lowest_broken h = lowest (λ r. breaks r h)

-- H1 to H6 hold
unfoldable pub header_good : HeaderBytes → Bool
header_good h = keeps_h1 h && (keeps_h2 h && (keeps_h3 h && (keeps_h4 h && (keeps_h5 h && keeps_h6 h))))
