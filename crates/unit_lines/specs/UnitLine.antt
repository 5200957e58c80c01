-- A line of units in lent cells: each unit behind its length in two bytes, high byte first; the oldest stands first.
-- Assumes nothing.
use Rattle.std.specs.Prelude.{ℕ, ◌+◌, ◌*◌, ◌/◌, ◌%◌, ◌≤◌, ◌≡◌, Bool, cond, ◌&&◌, List, [], ◌∷◌, ◌++◌, leb, ltb, length, take, drop, get_or, Option, Some, None}
use Rattle.unit.specs.Unit.{RU_START}
use Rattle.unit.specs.Maximum.{greatest_max}
use Rattle.unit_lines.specs.declared.Line.{Line}

-- the units that a line holds at most
abbrev pub MOST_UNITS : ℕ
MOST_UNITS = 512

-- the bytes of the longest unit: 1,029, with an RU of the greatest maximum
abbrev pub LONGEST_UNIT : ℕ
LONGEST_UNIT = RU_START + greatest_max

-- its cells on a line, behind its length
abbrev pub LONGEST_FRAME : ℕ
LONGEST_FRAME = 2 + LONGEST_UNIT

-- a unit behind its length
abbrev pub framed : List ℕ → List ℕ
framed u = length u / 256 ∷ length u % 256 ∷ u

unfoldable pub frames : List (List ℕ) → List ℕ
frames [] = []
frames (u ∷ us) = framed u ++ frames us

-- no unit is longer than the longest
unfoldable pub NoneLonger : List (List ℕ) → Type 0
NoneLonger [] = Unit {0}
NoneLonger (u ∷ us) = (length u ≤ LONGEST_UNIT) × NoneLonger us

-- the line holds these units, oldest first, in cells that have room for as many as it may hold
pub record Holds (l : Line) (cells : List ℕ) (us : List (List ℕ)) : Type 0 where
  pub units_are : l.units ≡ length us
  pub used_are : l.used ≡ length (frames us)
  pub cells_are : take (length (frames us)) cells ≡ frames us
  pub most : length us ≤ MOST_UNITS
  pub none_longer : NoneLonger us
  pub room : MOST_UNITS * LONGEST_FRAME ≤ length cells

-- ---- any line, also one that does not agree with its cells

-- a unit of n bytes may join
abbrev pub has_room : Line → ℕ → ℕ → Bool
has_room l cells n = ltb l.units MOST_UNITS && (leb n LONGEST_UNIT && leb (l.used + LONGEST_FRAME) cells)

-- past the first unit, by the length that stands before it
abbrev pub past_first : List ℕ → ℕ
past_first cells = 2 + (get_or cells 0 0 * 256 + get_or cells 1 0)

-- a unit that ends there stands on the line
abbrev pub stands : Line → ℕ → ℕ → Bool
stands l cells past = leb 1 l.units && (leb l.used cells && leb past l.used)

-- where the oldest unit ends, if one stands there
unfoldable pub oldest_end : Line → List ℕ → Option ℕ
oldest_end l cells = cond (stands l (length cells) (past_first cells)) (Some (past_first cells)) None

-- the unit stands from cell 2 to there
pub record UnitTo (past : ℕ) (u cells : List ℕ) : Type 0 where
  pub past_is : past ≡ 2 + length u
  pub unit_is : take (length u) (drop 2 cells) ≡ u
