-- Units in order, and where among them the error header is announced.
-- Assumes nothing.
use Rattle.joined.proofs.JoinedWords.{ℕ, Bool, true, false, cond, ◌&&◌, List, [], ◌∷◌, ◌++◌, append-nil, ◌≡◌, refl, sym, ap, ◌∙◌, Header, unit_of}
use Rattle.joined.proofs.JoinedWords.{sort_of, is_asking}
use Rattle.cells.specs.Equal.{same_bytes}
use Rattle.unit.specs.Ru.{error_ru}
use Rattle.calls.specs.UnitCounts.{is_request, is_error_header}
use Rattle.calls.proofs.UnitsByHeader.{is_telling, is_denial, unit_says}
use Rattle.joined.specs.Denials.{announced_behind, announced, AsAnnounced}

-- ---- one unit more, and a list in two

pub announced_split : (x : Bool) (us vs : List (List ℕ)) → announced x (us ++ vs) ≡ announced (announced x us) vs
unfolding announced
announced_split x [] vs = refl
announced_split x (u ∷ us) vs = announced_split (announced_behind x u) us vs

as_announced_more :
    (x : Bool) (us : List (List ℕ)) (u : List ℕ) → AsAnnounced x us → (is_request u ≡ true → is_error_header u ≡ announced x us)
    → AsAnnounced x (us ++ (u ∷ []))
unfolding announced AsAnnounced
as_announced_more x [] u a f = (f, tt)
as_announced_more x (v ∷ us) u a f = (a.0, as_announced_more (announced_behind x v) us u a.1 f)

pub as_announced_split :
    (x : Bool) (us vs : List (List ℕ)) → AsAnnounced x (us ++ vs) → AsAnnounced x us × AsAnnounced (announced x us) vs
unfolding announced AsAnnounced
as_announced_split x [] vs a = (tt, a)
as_announced_split x (u ∷ us) vs a =
    let q = as_announced_split (announced_behind x u) us vs a.1 in
    ((a.0, q.0), q.1)

-- ---- an end that makes units: they are as announced, and error-due says whether the error header is still to come

pub record Tells (error : Bool) (us : List (List ℕ)) : Type 0 where
  pub made : AsAnnounced false us
  pub due : error ≡ announced false us

pub tells_fresh : Tells false []
unfolding announced AsAnnounced
tells_fresh = record { made = tt; due = refl }

module _ {error : Bool} {us : List (List ℕ)} (t : Tells error us) where
  -- no unit is made
  pub tells_none : Tells error (us ++ [])
  tells_none = rw (append-nil us) t

  -- a unit is made: a request is the error header exactly if that is due
  pub tells_more :
      (n : ℕ) (h : Header) (ru : List ℕ) (error' : Bool)
      → (is_asking (sort_of h) ≡ true → (is_telling (sort_of h) && same_bytes ru error_ru) ≡ error)
      → error' ≡ cond (is_asking (sort_of h)) false (cond (is_denial h) true error)
      → Tells error' (us ++ (unit_of n h ru ∷ []))
  unfolding announced
  tells_more n h ru error' f e =
      let u = unit_of n h ru in
      let s = unit_says n h ru in
      record {
        made = as_announced_more false us u t.made (λ r. s.2 ∙ f (sym s.0 ∙ r) ∙ t.due);
        due =
            e ∙ ap (λ (b : Bool). cond (is_asking (sort_of h)) false (cond (is_denial h) true b)) t.due
            ∙ ap (λ (b : Bool). cond b false (cond (is_denial h) true (announced false us))) (sym s.0)
            ∙ ap (λ (b : Bool). cond (is_request u) false (cond b true (announced false us))) (sym s.1)
            ∙ sym (announced_split false us (u ∷ []));
      }

  -- a unit is made that is neither a request nor a negative confirmation
  pub tells_past : (n : ℕ) (h : Header) (ru : List ℕ) → is_asking (sort_of h) ≡ false → is_denial h ≡ false → Tells error (us ++ (unit_of n h ru ∷ []))
  tells_past n h ru p q = tells_more n h ru error (λ r. cc) (rw (p, q))
