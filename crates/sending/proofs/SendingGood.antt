-- Question 5 of the sending side, as facts: taken apart and put together; and the side after a request.
-- Assumes nothing.
use Prim.Native.Nat.{ℕ, ◌≤◌}
use mathlib.Core.Path.{◌≡◌}
use mathlib.Core.Bool.{true, ◌&&◌}
use borrow.Author.Tests.{leb-true, le-leb}
use lib.Dec.{eqb, leb}
use Rattle.bools.proofs.Tests.{both, join}
use Rattle.logical_record.specs.Positions.{is_position}
use Rattle.logical_record.specs.declared.Position.{Position}
use Rattle.unit.specs.Maximum.{max_good}
use Rattle.unit.proofs.MaximumFacts.{MaxWithin, max_facts, max_good_lem}
use Rattle.pacing.specs.Pacing.{window_good}
use Rattle.pacing.proofs.Windows.{advanced_good}
use Rattle.control.specs.declared.Control.{Control}
use Rattle.control.proofs.Within.{held_fits}
use Rattle.sending.specs.Sending.{held_good, sending_good, request_made}
use Rattle.sending.specs.declared.Sending.{Sending}

-- the side, but for what the finite part has a say in
pub record SendingWithin (s : Sending) : Type 0 where
  pub window : window_good s.window ≡ true
  pub max : MaxWithin s.max
  pub held : s.held ≤ s.max
  pub given : is_position s.given ≡ true

-- what it has a say in: whether bytes may be held, and must be
abbrev pub HeldFits : Control → ℕ → Type 0
HeldFits c held = held_fits c (leb 1 held) (eqb held 0) ≡ true

pub sending_facts : (c : Control) (s : Sending) → sending_good c s ≡ true → SendingWithin s × HeldFits c s.held
unfolding sending_good
sending_facts c s g =
    let w = both (window_good s.window) (max_good s.max && (held_good c s && is_position s.given)) g in
    let m = both (max_good s.max) (held_good c s && is_position s.given) w.1 in
    let h = both (held_good c s) (is_position s.given) m.1 in
    let n = both (leb s.held s.max) (held_fits c (leb 1 s.held) (eqb s.held 0)) h.0 in
    (record { window = w.0; max = max_facts s.max m.0; held = leb-true s.held s.max n.0; given = h.1 }, n.1)

pub sending_good_lem : (c : Control) (s : Sending) → SendingWithin s → HeldFits c s.held → sending_good c s ≡ true
unfolding sending_good
sending_good_lem c s w f =
    join (window_good s.window) _ w.window
    (join (max_good s.max) _ (max_good_lem s.max w.max)
    (join (held_good c s) (is_position s.given) (join (leb s.held s.max) _ (le-leb s.held s.max w.held) f) w.given))

-- once a request is made
pub request_made_lem : (s : Sending) (held : ℕ) (given : Position) → held ≤ s.max → is_position given ≡ true → SendingWithin s
    → SendingWithin (request_made held given s)
unfolding request_made
request_made_lem s held given h p w = record { window = advanced_good s.window w.window; max = w.max; held = h; given = p }
