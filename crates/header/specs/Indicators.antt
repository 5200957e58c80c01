-- The bits of the three bytes of a header, as the reader tests them: each once, by its weight, in document 000's order.
-- Assumes nothing.
use Rattle.std.specs.Prelude.{ℕ, ◌||◌}
use Rattle.header.specs.Weights.{RESPONSE, FLOW_CONTROL, FORMAT, SENSE, FIRST, LAST, DR1, DR2, EXCEPTION, PACING, BB, CD, CEB, on}
use Rattle.header.specs.declared.indicators.Byte0.{Byte0}
use Rattle.header.specs.declared.indicators.Byte1.{Byte1}
use Rattle.header.specs.declared.indicators.Byte2.{Byte2}

-- ---- the weights that document 01 does not name, by document 000: no good header has such a bit on

-- the second bit of the category: with weight 40 session control, without it network control
abbrev pub NETWORK_CONTROL : ℕ
NETWORK_CONTROL = 0x20

-- reserved bits of byte 1
abbrev pub RESERVED_BIT_1 : ℕ
RESERVED_BIT_1 = 0x40

abbrev pub RESERVED_BIT_4 : ℕ
RESERVED_BIT_4 = 0x08

abbrev pub RESERVED_BIT_5 : ℕ
RESERVED_BIT_5 = 0x04

-- reserved in byte 0 and in byte 2
abbrev pub RESERVED_BIT_3 : ℕ
RESERVED_BIT_3 = 0x10

-- of byte 1
abbrev pub QUEUED_RESPONSE : ℕ
QUEUED_RESPONSE = 0x02

-- of byte 2: end bracket, which LU type 6.2 does not use, code selection, enciphered, padded
abbrev pub EB : ℕ
EB = 0x40

abbrev pub CODE_SELECTION : ℕ
CODE_SELECTION = 0x08

abbrev pub ENCIPHERED : ℕ
ENCIPHERED = 0x04

abbrev pub PADDED : ℕ
PADDED = 0x02

-- ---- the bits

abbrev pub byte0 : ℕ → Byte0
byte0 b =
    record {
      response = on RESPONSE b;
      flow = on FLOW_CONTROL b;
      format = on FORMAT b;
      sense = on SENSE b;
      first = on FIRST b;
      last = on LAST b;
      other = on NETWORK_CONTROL b || on RESERVED_BIT_3 b;
    }

abbrev pub byte1 : ℕ → Byte1
byte1 b =
    record {
      dr1 = on DR1 b;
      dr2 = on DR2 b;
      exception = on EXCEPTION b;
      pacing = on PACING b;
      other = on RESERVED_BIT_1 b || (on RESERVED_BIT_4 b || (on RESERVED_BIT_5 b || on QUEUED_RESPONSE b));
    }

abbrev pub byte2 : ℕ → Byte2
byte2 b =
    record {
      bb = on BB b;
      cd = on CD b;
      ceb = on CEB b;
      other = on EB b || (on RESERVED_BIT_3 b || (on CODE_SELECTION b || (on ENCIPHERED b || on PADDED b)));
    }
