-- An accepted opening: what its record keeps in 16 bits fits there.
-- Assumes nothing.
use Prim.Native.Nat.{ℕ, ◌+◌, ◌*◌, ◌≤◌}
use mathlib.Core.Path.{◌≡◌}
use mathlib.Core.Bool.{true, ◌&&◌}
use lib.Dec.{leb}
use borrow.Author.Tests.{leb-true}
use Rattle.answers.proofs.Rows.{yes}
use Rattle.unit.specs.Maximum.{max_good}
use Rattle.session.specs.OpeningQuestions.{opening_questions, opening_refusal}
use Rattle.session.specs.declared.Session.{Session}
use Rattle.bools.proofs.Tests.{both}

pub record Fits (s : Session) (inbox : ℕ) : Type 0 where
  pub outmax : s.outmax ≤ 1024
  pub inmax : s.inmax ≤ 1024
  pub inbox_in : inbox ≤ 65535

max_in : (m : ℕ) → max_good m ≡ true → m ≤ 1024
max_in m h = leb-true m 1024 (both (leb 8 m) (leb m 1024) h).1

pub opening_fits : (s : Session) (send unit inbox : ℕ) → opening_refusal s send unit inbox ≡ 0 → Fits s inbox
unfolding opening_refusal
opening_fits s send unit inbox h =
    let t = yes (opening_questions s send unit inbox) tt h in
    let m = both (max_good s.outmax) (max_good s.inmax) (t 2) in
    let b1 = both (leb s.outmax send) (leb (s.outmax + 5) unit && (leb (s.inwindow * s.inmax) inbox && leb inbox 65535)) (t 3) in
    let b2 = both (leb (s.outmax + 5) unit) (leb (s.inwindow * s.inmax) inbox && leb inbox 65535) b1.1 in
    let b3 = both (leb (s.inwindow * s.inmax) inbox) (leb inbox 65535) b2.1 in
    record { outmax = max_in s.outmax m.0; inmax = max_in s.inmax m.1; inbox_in = leb-true inbox 65535 b3.1 }
