-- `lu62::theorems::refused_changes_nothing` meets its contract.
-- Assumes nothing.
use Rattle.lu62.proofs.Untouched.{refused_changes_nothing}
use Rattle.lu62.proofs.theorems.refused_changes_nothing.Goals as goal

pub returns : goal.returns
returns c = refused_changes_nothing
