-- Who refuses a confirmation says why, and next: the claim about denials in other words.
-- Assumes nothing.
use Prim.Native.Nat.{ℕ}
use mathlib.Core.Path.{◌≡◌, refl, sym, ap, ◌∙◌, subst}
use mathlib.Core.Bool.{Bool, true, false, not, cond, ◌||◌}
use mathlib.Core.List.{List, [], ◌∷◌, ◌++◌, append-nil}
use lib.Dec.{eqb}
use lib.ListN.{drop, get_or}
use Rattle.bools.proofs.Cases.{split}
use Rattle.bools.proofs.Tests.{both, or_right}
use Rattle.cells.specs.Equal.{same_bytes}
use Rattle.cells.proofs.Equal.{same_equal}
use Rattle.header.specs.Weights.{on}
use Rattle.header.specs.Rules.{bytes, same_header}
use Rattle.header.specs.declared.HeaderBytes.{HeaderBytes}
use Rattle.header.proofs.FiniteHeader.{same_header_lem}
use Rattle.unit.specs.Ru.{error_ru}
use Rattle.unit.specs.Unit.{RU_START, header_in}
use Rattle.control.proofs.States.{state_is, nothing_is}
use Rattle.joined.specs.Joined.{acted, took}
use Rattle.joined.specs.Ends.{normal, expedited}
use Rattle.joined.specs.Histories.{Log}
use Rattle.joined.specs.Denials.{units_made, units_taken, announced_behind, announced, AsAnnounced, Denials}
use Rattle.joined.proofs.Announced.{as_announced_split, announced_split}
use Rattle.calls.specs.UnitCounts.{is_negative_confirmation, is_error_header}
use Rattle.claim_in_use.specs.OtherWords.{story, each, made, request, took_unit, number_of, Denies, IsCause, CauseNext, Causes, OneEnd}
use Rattle.claim_in_use.proofs.Stories.{goes_on}

-- ---- units, oldest first

pub made_are : (es : Log) → each made (story es) ≡ units_made es
unfolding units_made
made_are [] = refl
made_are (acted v r us ∷ es) = goes_on made (acted v r us) es ∙ ap (λ (xs : List (List ℕ)). xs ++ us normal) (made_are es)
made_are (took l u r us ∷ es) = goes_on made (took l u r us) es ∙ ap (λ (xs : List (List ℕ)). xs ++ us normal) (made_are es)

kept_or_not : (b : Bool) (xs : List (List ℕ)) (u : List ℕ) → xs ++ cond b (u ∷ []) [] ≡ cond b (xs ++ (u ∷ [])) xs
kept_or_not true xs u = refl
kept_or_not false xs u = append-nil xs

pub taken_are : (es : Log) → each took_unit (story es) ≡ units_taken es
unfolding units_taken
taken_are [] = refl
taken_are (took expedited u r us ∷ es) = goes_on took_unit (took expedited u r us) es ∙ append-nil (each took_unit (story es)) ∙ taken_are es
taken_are (acted v r us ∷ es) = goes_on took_unit (acted v r us) es ∙ append-nil (each took_unit (story es)) ∙ taken_are es
taken_are (took normal u r us ∷ es) =
    goes_on took_unit (took normal u r us) es
    ∙ ap (λ (xs : List (List ℕ)). xs ++ cond (eqb (number_of r) 0) (u ∷ []) []) (taken_are es)
    ∙ kept_or_not (eqb (number_of r) 0) (units_taken es) u

-- ---- what a unit announces

denial_announces : (x : Bool) (n : List ℕ) → Denies n → announced_behind x n ≡ true
denial_announces x n d =
    ap (λ (h : HeaderBytes). cond (not (on 0x80 h.b0)) false (cond (same_header h (bytes 0x87 0x30 0x00)) true x)) same
  where
    same : header_in n ≡ bytes 0x87 0x30 0x00
    same = rw (d.0, d.1, d.2)

either_way : (b : Bool) → cond b true true ≡ true
either_way true = refl
either_way false = refl

-- no unit between is a request, and so the error header is still to come
still_announced : (us : List (List ℕ)) → each request us ≡ [] → announced true us ≡ true
unfolding announced
still_announced [] e = refl
still_announced (u ∷ us) e = by (on 0x80 (get_or u 2 0)) refl e (λ f. still_announced us f)
  where
    by : (b : Bool) → on 0x80 (get_or u 2 0) ≡ b → cond (not b) (u ∷ []) [] ++ each request us ≡ []
        → (each request us ≡ [] → announced true us ≡ true) → announced (announced_behind true u) us ≡ true
    by true o f h =
        subst (λ (x : Bool). announced x us ≡ true)
        (sym (ap (λ (b : Bool). cond (not b) false (cond (is_negative_confirmation u) true true)) o ∙ either_way (is_negative_confirmation u)))
        (h f)
    by false o f h = cc

-- ---- an error header, by its bytes

cause_is : (r : List ℕ) → is_error_header r ≡ true → IsCause r
cause_is r e =
    let h = header_in r in
    let p = both (same_header h (bytes 0x0B 0x90 0x00) || same_header h (bytes 0x0B 0x91 0x00)) (same_bytes (drop RU_START r) error_ru) e in (
      split (same_header h (bytes 0x0B 0x90 0x00)) (λ y. ap (λ (k : HeaderBytes). k.b0) (same_header_lem h (bytes 0x0B 0x90 0x00) y))
          (λ n. ap (λ (k : HeaderBytes). k.b0) (same_header_lem h (bytes 0x0B 0x91 0x00) (or_right _ (same_header h (bytes 0x0B 0x91 0x00)) p.0 n))),
      same_equal (drop RU_START r) error_ru p.1,
    )

cause_next : (us : List (List ℕ)) → AsAnnounced false us → CauseNext us
unfolding AsAnnounced
cause_next us a before between behind n r e d none q =
    let b = (as_announced_split false before (n ∷ (between ++ (r ∷ behind))) (subst (λ (vs : List (List ℕ)). AsAnnounced false vs) e a)).1 in
    let c = (as_announced_split (announced_behind (announced false before) n) between (r ∷ behind) b.1).1 in
    cause_is r
    (c.0 (ap not q)
    ∙ ap (λ (x : Bool). announced x between) (denial_announces (announced false before) n d)
    ∙ still_announced between none)

-- ---- the claim

announced_at : (before between : List (List ℕ)) (n : List ℕ) → Denies n → each request between ≡ [] → announced false (before ++ (n ∷ between)) ≡ true
unfolding announced
announced_at before between n f none =
    announced_split false before (n ∷ between)
    ∙ ap (λ (x : Bool). announced x between) (denial_announces (announced false before) n f)
    ∙ still_announced between none

pub causes_of : (x y : OneEnd) → Denials x y → Causes x y
causes_of x y d =
    record {
      made_so = subst CauseNext (sym (made_are x.log)) (cause_next (units_made x.log) d.made);
      taken_so = subst CauseNext (sym (taken_are y.log)) (cause_next (units_taken y.log) d.taken);
      waits_for_it = λ before between n e f none.
          let w = d.waits (ap (announced false) (sym (taken_are y.log) ∙ e) ∙ announced_at before between n f none) in
          ((state_is y.end.end.control.state).1 w.0, nothing_is y.end.end.control.mark w.1);
      each_once = made_are x.log ∙ d.conserved ∙ ap (λ (us : List (List ℕ)). us ++ y.waiting normal) (sym (taken_are y.log));
    }
