-- The claims of specs/BindClaims.antt.
-- Assumes nothing.
use Prim.Native.Nat.{ℕ, ◌<◌}
use mathlib.Core.Path.{◌≡◌, refl, sym, ap, ap₂, ◌∙◌}
use mathlib.Core.Bool.{Bool, true, false, cond, not, ◌&&◌}
use native.Mathlib.Nat.{mod-eq_of_lt}
use native.Mathlib.Omega.{arith}
use lib.Dec.{eqb, leb}
use borrow.Author.Tests.{eqb-true, eqb-false, le-leb}
use Rattle.bools.proofs.Cases.{split}
use Rattle.bools.proofs.Tests.{left, right}
use Rattle.pacing.specs.Pacing.{size_good}
use Rattle.unit.specs.Maximum.{max_good}
use Rattle.answers.specs.Answers.{refused}
use Rattle.bind.specs.SessionBytes.{window_of, mantissa, exponent, times, means, size_of}
use Rattle.bind.proofs.BindClaims.{size_meant, byte_given}
use Rattle.session.specs.OpeningQuestions.{role_good, opening_refusal}
use Rattle.session.specs.Opening.{opened, zero_end}
use Rattle.session.specs.BindOpening.{meant, opened_by_bytes}
use Rattle.session.specs.BindClaims.{size_byte_good, AsAsked, SameEnd, bytes_of, BytesOfNumbers}
use Rattle.session.specs.declared.Session.{Session}

-- ---- the questions

window_asked : (byte : ℕ) → size_good (window_of byte) ≡ not (eqb (window_of byte) 0)
window_asked byte =
    let l : window_of byte < 64 = omega arith in
    split (eqb (window_of byte) 0) (λ z. rw (eqb-true (window_of byte) 0 z))
    (λ z. let n = eqb-false (window_of byte) 0 z in rw (z, le-leb 1 (window_of byte) (omega (arith, n)), le-leb (window_of byte) 63 (omega (arith, l))))

size_asked : (byte : ℕ) → max_good (size_of byte) ≡ size_byte_good byte
unfolding size_of
size_asked byte =
    split (size_byte_good byte) (λ g. rw (g, right (leb 8 (mantissa byte)) (max_good (times (mantissa byte) (exponent byte))) g)) (λ g. rw g)

refusal_is : (s : Session) (send unit inbox : ℕ) → (opened s send unit inbox).answer.refusal ≡ opening_refusal s send unit inbox
unfolding opened
refusal_is s send unit inbox = split (eqb (opening_refusal s send unit inbox) 0) (λ z. rw z (sym (eqb-true _ _ z))) (λ z. rw z)

pub as_asked : AsAsked
unfolding opened_by_bytes opening_refusal
as_asked b send unit inbox =
    refusal_is (meant b) send unit inbox
    ∙ rw (window_asked b.outwindow, window_asked b.inwindow, size_asked b.outsize, size_asked b.insize)

-- ---- the same end

max_meant : (byte size : ℕ) → means byte size ≡ true → max_good (size_of byte) ≡ max_good size
max_meant byte size m = split (max_good size) (λ g. ap max_good (size_meant byte size m g)) (λ g. ap max_good (size_meant byte size m g) ∙ sym g)

-- a session whose maxima are not good is refused before its buffers are asked for
early : (role windows : Bool) → eqb (cond role (cond windows 3 2) 1) 0 ≡ false
early true true = refl
early true false = refl
early false windows = refl

refused_early : (s : Session) (send unit inbox : ℕ) → max_good s.outmax && max_good s.inmax ≡ false
    → opened s send unit inbox
    ≡ record {
      answer = refused (cond (role_good s.role) (cond (size_good s.outwindow && size_good s.inwindow) 3 2) 1);
      end = zero_end;
    }
unfolding opened opening_refusal
refused_early s send unit inbox g =
    rw (g, early (role_good s.role) (size_good s.outwindow && size_good s.inwindow))

pub same_end : SameEnd
unfolding opened_by_bytes
same_end b s send unit inbox e =
    split (max_good s.outmax && max_good s.inmax)
    (λ g. rw (
      e.role,
      e.outwindow,
      e.inwindow,
      size_meant b.outsize s.outmax e.outmax (left (max_good s.outmax) _ g),
      size_meant b.insize s.inmax e.inmax (right (max_good s.outmax) _ g),
    ))
    (λ g. refused_early (meant b) send unit inbox
    (ap₂ (λ (x y : Bool). x && y) (max_meant b.outsize s.outmax e.outmax) (max_meant b.insize s.inmax e.inmax) ∙ g)
    ∙ rw (e.role, e.outwindow, e.inwindow) (sym (refused_early s send unit inbox g)))

pub bytes_of_numbers : BytesOfNumbers
bytes_of_numbers s x y send unit inbox o i ex ey =
    same_end (bytes_of s x y) s send unit inbox
    (record {
      role = refl;
      outwindow = mod-eq_of_lt o;
      inwindow = mod-eq_of_lt i;
      outmax = (byte_given s.outmax x ex).0;
      inmax = (byte_given s.inmax y ey).0;
    })
