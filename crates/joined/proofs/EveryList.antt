-- What every call keeps holds after every list of calls, whatever the lanes.
-- Assumes nothing.
use Rattle.joined.proofs.JoinedWords.{cond, Discrete, List, [], ◌∷◌, append-nil, ◌≡◌, refl, sym, subst, fun_ext, Acted, Took, At, Call, act, first}
use Rattle.joined.proofs.JoinedWords.{second, Both, Local, Event, took, take_oldest, apply, step, run, acted, Lines, join, put}
use Rattle.joined.specs.Lanes.{none}
use Rattle.joined.specs.Joined.{take, Side}

-- A fact of one way: the sender and its log, the lines, the lines back, the receiver and its log.
-- It names the parts and no side: a goal then shows no record that is written out, inside which `simp` cannot rewrite.
abbrev pub Fact : (L S C R U : Type 0) → Type 1
Fact L S C R U = S → List (Event L C R U) → Lines L U → Lines L U → S → List (Event L C R U) → Type 0

join_none : {L U : Type 0} (w : Lines L U) → join w none ≡ w
join_none w = fun_ext (λ k. append-nil (w k))

module _ {L : Type 0} (same : Discrete L) {S C R U : Type 0} (acts : S → C → Acted L S R U) (takes : L → S → U → Took L S R U) where
  -- any fact of the two sides
  pub run_keeps :
      (P : Both L S C R U → Type 0)
      → ((s : Both L S C R U) (c : At L C) → P s → P (step same acts takes s c))
      → (s : Both L S C R U) (l : List (At L C))
      → P s
      → P (run same acts takes s l)
  run_keeps P keeps s [] h = h
  run_keeps P keeps s (c ∷ l) h = run_keeps P keeps (step same acts takes s c) l (keeps s c h)

  abbrev pub Way : Fact L S C R U → Side L S C R U → Side L S C R U → Type 0
  Way D x y = D x.end x.log y.waiting x.waiting y.end y.log

  abbrev pub Ways : (D E : Fact L S C R U) → Both L S C R U → Type 0
  Ways D E s = Way D s.one s.two × Way E s.two s.one

  -- A call at the end e, which is the sender of D's way and the receiver of E's: it is looked at once, and not once for each end.
  abbrev pub AfterAct : (D E : Fact L S C R U) (xs : List (Event L C R U)) (line back : Lines L U) (f : S) (ys : List (Event L C R U))
      → C → Acted L S R U → Type 0
  AfterAct D E xs line back f ys c m =
      D m.end (acted c m.answer m.sent ∷ xs) (join line m.sent) back f ys
      × E f ys back (join line m.sent) m.end (acted c m.answer m.sent ∷ xs)

  -- a take on the lane l, on whose line u waits before us
  abbrev pub AfterTake :
      (D E : Fact L S C R U) (xs : List (Event L C R U)) (line back : Lines L U) (f : S) (ys : List (Event L C R U))
      → L
      → U
      → List U
      → Took L S R U
      → Type 0
  AfterTake D E xs line back f ys l u us t =
      D t.end (took l u t.answer t.sent ∷ xs) (join line t.sent) (put same l (cond t.removed us (u ∷ us)) back) f ys
      × E f ys (put same l (cond t.removed us (u ∷ us)) back) (join line t.sent) t.end (took l u t.answer t.sent ∷ xs)

  pub record Keeps (D E : Fact L S C R U) : Type 0 where
    pub act_keeps :
        (e : S) (xs : List (Event L C R U)) (line back : Lines L U) (f : S) (ys : List (Event L C R U)) (c : C)
        → D e xs line back f ys
        → E f ys back line e xs
        → AfterAct D E xs line back f ys c (acts e c)
    pub take_keeps :
        (e : S) (xs : List (Event L C R U)) (line back : Lines L U) (f : S) (ys : List (Event L C R U)) (l : L) (u : U) (us : List U)
        → back l ≡ u ∷ us
        → D e xs line back f ys
        → E f ys back line e xs
        → AfterTake D E xs line back f ys l u us (takes l e u)

  module _ (D E : Fact L S C R U) where
    -- what the call leaves keeps the two facts
    abbrev Kept : (line : Lines L U) (f : S) (ys : List (Event L C R U)) → Local L S C R U → Type 0
    Kept line f ys r =
        D r.side.end r.side.log (join line r.sent) r.side.waiting f ys
        × E f ys r.side.waiting (join line r.sent) r.side.end r.side.log

    take_kept :
        Keeps D E
        → (e : S) (xs : List (Event L C R U)) (line back : Lines L U) (f : S) (ys : List (Event L C R U)) (l : L) (us : List U)
        → back l ≡ us
        → D e xs line back f ys
        → E f ys back line e xs
        → Kept line f ys (take_oldest same acts takes e xs back l us)
    take_kept k e xs line back f ys l [] p d h =
        subst (λ w. D e xs w back f ys × E f ys back w e xs) (sym (join_none line)) (d, h)
    take_kept k e xs line back f ys l (u ∷ us) p d h = k.take_keeps e xs line back f ys l u us p d h

    kept :
        Keeps D E
        → (e : S) (xs : List (Event L C R U)) (line back : Lines L U) (f : S) (ys : List (Event L C R U)) (c : Call L C)
        → D e xs line back f ys
        → E f ys back line e xs
        → Kept line f ys (apply same acts takes e xs back c)
    kept k e xs line back f ys (act c) d h = k.act_keeps e xs line back f ys c d h
    kept k e xs line back f ys (take l) d h = take_kept k e xs line back f ys l (back l) refl d h

  -- what each call at an end keeps, both ways, holds after every list
  pub run_ways :
      (D E : Fact L S C R U)
      → Keeps D E
      → Keeps E D
      → (s : Both L S C R U) (l : List (At L C))
      → Ways D E s
      → Ways D E (run same acts takes s l)
  run_ways D E k j = run_keeps (Ways D E) step_keeps
    where
      step_keeps : (s : Both L S C R U) (c : At L C) → Ways D E s → Ways D E (step same acts takes s c)
      step_keeps s (first c) h =
          kept D E k s.one.end s.one.log s.two.waiting s.one.waiting s.two.end s.two.log c h.0 h.1
      step_keeps s (second c) h =
          let q = kept E D j s.two.end s.two.log s.one.waiting s.two.waiting s.one.end s.one.log c h.1 h.0 in
          (q.1, q.0)
