-- The bits of a header by weight.
-- Assumes nothing.
use Rattle.std.specs.Prelude.{ℕ, ◌/◌, ◌%◌, Bool, cond, eqb}

-- byte 0: response; category, two bits of weight 60 of which 00 is data and 40 flow control; format; sense included; first and last in chain
abbrev pub RESPONSE : ℕ
RESPONSE = 0x80

abbrev pub FLOW_CONTROL : ℕ
FLOW_CONTROL = 0x40

abbrev pub FORMAT : ℕ
FORMAT = 0x08

abbrev pub SENSE : ℕ
SENSE = 0x04

abbrev pub FIRST : ℕ
FIRST = 0x02

abbrev pub LAST : ℕ
LAST = 0x01

-- byte 1: DR1 and DR2; exception, in a response negative; pacing. A request asks for no confirmation by DR1 with the exception bit, for one by DR2 alone.
abbrev pub DR1 : ℕ
DR1 = 0x80

abbrev pub DR2 : ℕ
DR2 = 0x20

abbrev pub EXCEPTION : ℕ
EXCEPTION = 0x10

abbrev pub PACING : ℕ
PACING = 0x01

-- byte 2: begin bracket, change direction, end bracket
abbrev pub BB : ℕ
BB = 0x80

abbrev pub CD : ℕ
CD = 0x20

abbrev pub CEB : ℕ
CEB = 0x01

-- the bit of this weight is on
abbrev pub on : ℕ → ℕ → Bool
on weight byte = eqb (byte / weight % 2) 1

-- the weight of a bit, or nothing
abbrev pub bit : Bool → ℕ → ℕ
bit b weight = cond b weight 0
