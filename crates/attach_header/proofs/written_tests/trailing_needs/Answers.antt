-- `attach_header::written_tests::trailing_needs` meets its contract.
-- Assumes nothing.
use mathlib.Core.Path.{sym}
use Prim.Native.Nat.{zero-le}
use native.Mathlib.Omega.{arith}
use Rattle.attach_header.proofs.Needed.{with_work, security_alone, neither}
use Rattle.attach_header.proofs.written_tests.trailing_needs.Goals as goal

pub returns-then-work-ne0 : goal.returns-then-work-ne0
returns-then-work-ne0 c = let a = c.args in (sym (with_work a.security a.work c.if-work-ne0.true), omega arith)

pub returns-then-security-ne0 : goal.returns-then-security-ne0
returns-then-security-ne0 c = let a = c.args in (sym (security_alone a.security a.work c.if-work-ne0.false c.if-security-ne0.true), omega arith)

pub returns : goal.returns
returns c = let a = c.args in (sym (neither a.security a.work c.if-work-ne0.false c.if-security-ne0.false), zero-le)
