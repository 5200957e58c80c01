-- `attach_header::written_parts::put_trailing` meets its contract.
-- Assumes nothing.
use mathlib.Core.Path.{◌≡◌, subst}
use mathlib.Core.Bool.{true, false, ◌&&◌}
use mathlib.Core.List.{List, [], ◌∷◌, ◌++◌}
use Prim.Native.Nat.{ℕ, ◌+◌, ◌≤◌}
use lib.Dec.{eqb}
use lib.ListN.{length}
use native.Mathlib.Omega.{arith}
use Rattle.digits.proofs.Puts.{Left, left_less, left_none}
use Rattle.digits.specs.PutAt.{put_at}
use Rattle.attach_header.specs.declared.Attach.{Attach}
use Rattle.attach_header.specs.Fields.{text_of, fields_of}
use Rattle.attach_header.specs.Written.{identifier, three_subfields, security, work, trailing, security_needs, work_needs, writable}
use Rattle.attach_header.proofs.Pieces.{last, put_none, in_pieces, next_fits, last_fits}
use Rattle.attach_header.proofs.Writable.{Fits, fits, nothing_trails, something_trails, no_work_behind, work_behind_lem, work_behind, short_parts}
use Rattle.attach_header.proofs.written_parts.put_trailing.Goals as goal

-- what is left once the length byte of the security subfields is put, and once they are
module _ (a : Attach) (at : ℕ) (out : List ℕ) (g : writable a ≡ true)
    (h : at + length (trailing (security (fields_of a)) (work (fields_of a))) ≤ length out)
    {s w : ℕ} (es : s ≡ security_needs a.profile.length a.password.length a.user.length) (ew : w ≡ work_needs a.lu.length)
    (some : eqb s 0 && eqb w 0 ≡ false) {r : ℕ} {now : List ℕ} (e : ◌≡◌ {A = ℕ × List ℕ} (r, now) (put_at (s ∷ []) at out)) where
  abbrev all : List ℕ
  all = trailing (security (fields_of a)) (work (fields_of a))

  abbrev three : List ℕ
  three = three_subfields (text_of a.profile) (text_of a.password) (text_of a.user)

  begun : Left all at out (three ++ work_behind a) r now
  unfolding fields_of
  begun = left_less (s ∷ []) (in_pieces all ((s ∷ []) ++ (three ++ work_behind a)) at out (something_trails a (fits a g) es ew some) h) e

  secured : {r' : ℕ} {now' : List ℕ} → ◌≡◌ {A = ℕ × List ℕ} (r', now') (put_at three r now) → Left all at out (work_behind a) r' now'
  secured d = left_less three begun d

-- and once the length byte of the identifier is due
behind : (a : Attach) → Fits a → {s w : ℕ} → s ≡ security_needs a.profile.length a.password.length a.user.length
    → w ≡ work_needs a.lu.length → (w ≡ 0 → ⊥) → {all : List ℕ} {at : ℕ} {out : List ℕ} {r : ℕ} {now : List ℕ} → Left all at out (work_behind a) r now
    → Left all at out ((w ∷ []) ++ identifier (text_of a.lu) a.instance a.sequence) r now
behind a f es ew z {all} {at} {out} {r} {now} l = subst (λ (x : List ℕ). Left all at out x r now) (work_behind_lem a f es ew z) l

-- or there is none
ended : (a : Attach) → Fits a → {s w : ℕ} → s ≡ security_needs a.profile.length a.password.length a.user.length
    → w ≡ work_needs a.lu.length → w ≡ 0 → {all : List ℕ} {at : ℕ} {out : List ℕ} {r : ℕ} {now : List ℕ} → Left all at out (work_behind a) r now
    → ◌≡◌ {A = ℕ × List ℕ} (r, now) (put_at all at out)
ended a f es ew z {all} {at} {out} {r} {now} l = left_none (subst (λ (x : List ℕ). Left all at out x r now) (no_work_behind a f es ew z) l)

pub returns-then-s-w : goal.returns-then-s-w
returns-then-s-w c =
    let a = c.args in
    let f = fits a.attach c.requires.attach_value.0 in
    let e = nothing_trails a.attach f c.security_needs-s.ensures.0 c.work_needs-w.ensures.0 c.if-s-w.true in
    put_none (trailing (security (fields_of a.attach)) (work (fields_of a.attach))) a.at a.out.now e c.requires.attach_in_bounds

pub overflow_cast-before : goal.overflow_cast-before
overflow_cast-before c =
    let t = short_parts c.args.attach c.requires.attach_value.1 in
    omega (arith, t, c.security_needs-s.ensures.0)

pub put_security-behind-requires : goal.put_security-behind-requires
put_security-behind-requires c =
    let d = c in
    let a = d.args in
    let p = d.requires in
    let f = fits a.attach p.attach_value.0 in
    let l = begun a.attach a.at a.out.now p.attach_value.0 p.attach_in_bounds d.security_needs-s.ensures.0 d.work_needs-w.ensures.0 d.if-s-w.false c.put-security.ensures in
    record { profile_value = (f.profile, f.password, f.user); user_in_bounds = next_fits (three_subfields (text_of a.attach.profile) (text_of a.attach.password) (text_of a.attach.user)) (work_behind a.attach) l }

pub returns-then-w-eq0 : goal.returns-then-w-eq0
returns-then-w-eq0 c =
    let d = c in
    let a = d.args in
    let p = d.requires in
    let n = d.security_needs-s.ensures.0 in
    let m = d.work_needs-w.ensures.0 in
    let l = secured a.attach a.at a.out.now p.attach_value.0 p.attach_in_bounds n m d.if-s-w.false c.put-security.ensures c.put_security-behind.ensures in
    ended a.attach (fits a.attach p.attach_value.0) n m c.if-w-eq0.true l

pub overflow_cast-length : goal.overflow_cast-length
overflow_cast-length c =
    let d = c in
    let t = short_parts d.args.attach d.requires.attach_value.1 in
    omega (arith, t, d.work_needs-w.ensures.0)

pub put_work-requires : goal.put_work-requires
put_work-requires c =
    let d = c in
    let a = d.args in
    let p = d.requires in
    let n = d.security_needs-s.ensures.0 in
    let m = d.work_needs-w.ensures.0 in
    let l = secured a.attach a.at a.out.now p.attach_value.0 p.attach_in_bounds n m d.if-s-w.false c.put-security.ensures c.put_security-behind.ensures in
    let f = fits a.attach p.attach_value.0 in
    let k = left_less (_ ∷ []) (behind a.attach f n m c.if-w-eq0.false l) c.put-work.ensures in
    (f.lu, last_fits (identifier (text_of a.attach.lu) a.attach.instance a.attach.sequence) k)

pub returns : goal.returns
returns c =
    let d = c in
    let a = d.args in
    let p = d.requires in
    let n = d.security_needs-s.ensures.0 in
    let m = d.work_needs-w.ensures.0 in
    let l = secured a.attach a.at a.out.now p.attach_value.0 p.attach_in_bounds n m d.if-s-w.false c.put-security.ensures c.put_security-behind.ensures in
    let f = fits a.attach p.attach_value.0 in
    let k = left_less (_ ∷ []) (behind a.attach f n m c.if-w-eq0.false l) c.put-work.ensures in
    last (identifier (text_of a.attach.lu) a.attach.instance a.attach.sequence) k c.put_work.ensures
