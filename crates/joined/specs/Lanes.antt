-- Units by lane, over any type of lanes: a line for each lane, first in first out.
-- Assumes nothing.
use Rattle.std.specs.Prelude.{List, [], ◌++◌}
use mathlib.Core.HLevel.{Discrete}

-- The units on each lane, oldest first: those that wait for a side, and those that a call makes.
abbrev pub Lines : (L U : Type 0) → Type 0
Lines L U = L → List U

abbrev pub none : {L U : Type 0} → Lines L U
none k = []

-- the units join the lines, each on its lane behind those that wait there
abbrev pub join : {L U : Type 0} → Lines L U → Lines L U → Lines L U
join w more k = w k ++ more k

-- the first if it is so, and else the second
abbrev pub chosen : {P A : Type 0} → Dec P → A → A → A
chosen (yes p) a b = a
chosen (no n) a b = b

module _ {L : Type 0} (same : Discrete L) where
  -- the lines with these units on the lane l, and every other lane as it was
  abbrev pub put : {U : Type 0} → L → List U → Lines L U → Lines L U
  put l us w k = chosen (same k l) us (w k)

  -- units on the lane l, and none on any other
  abbrev pub only : {U : Type 0} → L → List U → Lines L U
  only l us = put l us none
