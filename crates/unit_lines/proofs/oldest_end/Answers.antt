-- `unit_lines::oldest_end` meets its contract. The two bytes of the length are read, and `stands` says whether a unit ends there.
-- Assumes nothing.
use mathlib.Core.Path.{sym, subst, ◌∙◌}
use Rattle.std.proofs.Common.{ℕ, ◌+◌, ◌*◌}
use Rattle.std.specs.Prelude.{Option, MatchOption}
use Rattle.unit_lines.specs.UnitLine.{UnitTo}
use Rattle.unit_lines.proofs.PutAndRemoved.{stands_at, none_at, none_short, unit_ends}
use Rattle.unit_lines.proofs.oldest_end.Goals as goal

pub returns-in_default-clause-is : goal.returns-in_default-clause-is
returns-in_default-clause-is c = none_short c.args.line c.args.cells.now c.in_default.len_below

pub returns-then-stands-clause-is : goal.returns-then-stands-clause-is
returns-then-stands-clause-is c =
    stands_at c.args.line c.args.cells.now _ (rw (c.from-past.ensures, c.from_be_bytes.ensures)) (sym c.stands.ensures ∙ c.if-stands.true)

pub returns-else-stands-clause-is : goal.returns-else-stands-clause-is
returns-else-stands-clause-is c =
    none_at c.args.line c.args.cells.now (2 + c.from-past.result) (rw (c.from-past.ensures, c.from_be_bytes.ensures))
    (sym c.stands.ensures ∙ c.if-stands.false)

pub returns-in_default-clause-unit : goal.returns-in_default-clause-unit
returns-in_default-clause-unit c = λ u us h.
    subst (λ (o : Option ℕ). MatchOption o ⊥ (λ past. UnitTo past u c.args.cells.now)) (sym (returns-in_default-clause-is c))
    (unit_ends c.args.line c.args.cells.now u us h)

pub returns-then-stands-clause-unit : goal.returns-then-stands-clause-unit
returns-then-stands-clause-unit c = λ u us h.
    subst (λ (o : Option ℕ). MatchOption o ⊥ (λ past. UnitTo past u c.args.cells.now)) (sym (returns-then-stands-clause-is c))
    (unit_ends c.args.line c.args.cells.now u us h)

pub returns-else-stands-clause-unit : goal.returns-else-stands-clause-unit
returns-else-stands-clause-unit c = λ u us h.
    subst (λ (o : Option ℕ). MatchOption o ⊥ (λ past. UnitTo past u c.args.cells.now)) (sym (returns-else-stands-clause-is c))
    (unit_ends c.args.line c.args.cells.now u us h)
