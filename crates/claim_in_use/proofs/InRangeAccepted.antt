-- Sessions and buffers whose numbers are in range are accepted and joined.
-- Assumes nothing.
use Prim.Native.Nat.{ℕ, zero, suc, ◌+◌, ◌*◌, ◌≤◌}
use mathlib.Core.Path.{◌≡◌, refl, subst, sym}
use mathlib.Core.Bool.{Bool, true, cond, ◌&&◌, ◌||◌}
use native.Mathlib.Omega.{arith}
use borrow.Author.Tests.{le-leb}
use lib.Dec.{eqb, leb}
use lib.ListN.{length}
use Rattle.bools.proofs.Tests.{join}
use Rattle.session.specs.Opening.{opened}
use Rattle.session.specs.OpeningQuestions.{buffers_good, opening_refusal}
use Rattle.session.specs.declared.Session.{Session}
use Rattle.end.specs.declared.Done.{Done}
use Rattle.answers.specs.declared.Answer.{Answer}
use Rattle.joined.specs.Ends.{Buffers, OpeningAccepted, JoinedOpenings}
use Rattle.claim_in_use.specs.OtherWords.{Numbers, speaker, bidder, WindowIs, MaximumIs, Opens, InRange}

role : (r : ℕ) → r ≤ 1 → eqb r 0 || eqb r 1 ≡ true
role zero h = refl
role (suc zero) h = refl
role (suc (suc r)) h = absurd (omega arith)

window : (w : ℕ) → WindowIs w → leb 1 w && leb w 63 ≡ true
window w h = join (leb 1 w) (leb w 63) (le-leb 1 w h.0) (le-leb w 63 h.1)

maximum : (m : ℕ) → MaximumIs m → leb 8 m && leb m 1024 ≡ true
maximum m h = join (leb 8 m) (leb m 1024) (le-leb 8 m h.0) (le-leb m 1024 h.1)

lent : (s : Session) (b : Buffers) → Opens s b → buffers_good s (length b.send) (length b.unit) (length b.inbox) ≡ true
lent s b o =
    join _ _ (le-leb s.outmax (length b.send) o.send)
    (join _ _ (le-leb (s.outmax + 5) (length b.unit) o.unit)
    (join _ _ (le-leb (s.inwindow * s.inmax) (length b.inbox) o.inbox) (le-leb (length b.inbox) 65535 o.least)))

-- the questions of opening, each answered yes
passed : (a b c d : Bool) → a ≡ true → b ≡ true → c ≡ true → d ≡ true → ◌≡◌ {A = ℕ} (cond a (cond b (cond c (cond d 0 4) 3) 2) 1) 0
passed a b c d e f g h = rw (e, f, g, h)

accepted : (q : ℕ) (x y : Done Answer) → q ≡ 0 → x.answer.refusal ≡ 0 → (cond (eqb q 0) x y).answer.refusal ≡ 0
accepted q x y e h = subst (λ (n : ℕ). (cond (eqb n 0) x y).answer.refusal ≡ 0) (sym e) h

pub accepts : (s : Session) (b : Buffers) → Opens s b → OpeningAccepted s b
unfolding opened opening_refusal
accepts s b o =
    accepted _ _ _
    (passed _ _ _ _ (role s.role o.role)
    (join _ _ (window s.outwindow o.window_out) (window s.inwindow o.window_in))
    (join _ _ (maximum s.outmax o.max_out) (maximum s.inmax o.max_in))
    (lent s b o))
    refl

pub openings : (n : Numbers) (b c : Buffers) → InRange n b c → JoinedOpenings (speaker n) (bidder n) b c
openings n b c r =
    record {
      speaker = refl;
      bidder = refl;
      window_out = refl;
      window_back = refl;
      max_out = refl;
      max_back = refl;
      one = accepts (speaker n) b r.one;
      two = accepts (bidder n) c r.two;
    }
