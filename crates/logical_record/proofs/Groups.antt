-- Groups of a list: of one list after another, and their items.
-- Assumes nothing.
use mathlib.Core.Path.{◌≡◌, refl, sym, ◌∙◌}
use mathlib.Core.Bool.{Bool, true, false, cond, true≢false}
use mathlib.Core.List.{List, [], ◌∷◌, ◌++◌, append-nil, append_assoc}
use Rattle.logical_record.specs.Groups.{known, groups_from, left_from, joined}

-- one item, which ends a group or not
append_one :
    {A : Type 0} (t : Bool) (groups : List A → List (List A)) (g l₁ l₂ : List A) (xs₁ xs₂ ys₁ ys₂ : List (List A))
    → ys₁ ≡ xs₁ ++ groups l₁
    → ys₂ ≡ xs₂ ++ groups l₂
    → cond t (g ∷ ys₁) ys₂ ≡ cond t (g ∷ xs₁) xs₂ ++ groups (cond t l₁ l₂)
append_one true groups g l₁ l₂ xs₁ xs₂ ys₁ ys₂ e₁ e₂ = rw e₁
append_one false groups g l₁ l₂ xs₁ xs₂ ys₁ ys₂ e₁ e₂ = e₂

pub groups_append :
    {A S : Type 0} (next : S → A → S) (ends : S → Bool) (s : S) (met a b : List A)
    → groups_from next ends s met (a ++ b)
    ≡ groups_from next ends s met a ++ groups_from next ends (known next s a) (left_from next ends s met a) b
unfolding groups_from left_from
groups_append next ends s met [] b = refl
groups_append next ends s met (x ∷ a) b =
    append_one (ends (next s x)) (λ left. groups_from next ends (known next (next s x) a) left b) (met ++ (x ∷ []))
    (left_from next ends (next s x) [] a) (left_from next ends (next s x) (met ++ (x ∷ [])) a)
    (groups_from next ends (next s x) [] a) (groups_from next ends (next s x) (met ++ (x ∷ [])) a)
    (groups_from next ends (next s x) [] (a ++ b)) (groups_from next ends (next s x) (met ++ (x ∷ [])) (a ++ b))
    (groups_append next ends (next s x) [] a b) (groups_append next ends (next s x) (met ++ (x ∷ [])) a b)

items_one :
    {A : Type 0} (t : Bool) (met xs l₁ l₂ : List A) (x : A) (gs₁ gs₂ : List (List A))
    → joined gs₁ ++ l₁ ≡ xs
    → joined gs₂ ++ l₂ ≡ (met ++ (x ∷ [])) ++ xs
    → joined (cond t ((met ++ (x ∷ [])) ∷ gs₁) gs₂) ++ cond t l₁ l₂ ≡ met ++ (x ∷ xs)
items_one true met xs l₁ l₂ x gs₁ gs₂ e₁ e₂ = simp (append_assoc, e₁)
items_one false met xs l₁ l₂ x gs₁ gs₂ e₁ e₂ = e₂ ∙ append_assoc met (x ∷ []) xs

-- every item stands in one of the groups, or behind them
pub groups_items :
    {A S : Type 0} (next : S → A → S) (ends : S → Bool) (s : S) (met xs : List A)
    → joined (groups_from next ends s met xs) ++ left_from next ends s met xs ≡ met ++ xs
unfolding groups_from left_from
groups_items next ends s met [] = sym (append-nil met)
groups_items next ends s met (x ∷ xs) =
    items_one (ends (next s x)) met xs (left_from next ends (next s x) [] xs) (left_from next ends (next s x) (met ++ (x ∷ [])) xs) x
    (groups_from next ends (next s x) [] xs) (groups_from next ends (next s x) (met ++ (x ∷ [])) xs)
    (groups_items next ends (next s x) [] xs) (groups_items next ends (next s x) (met ++ (x ∷ [])) xs)

left_one : {A : Type 0} (t : Bool) (l₁ l₂ : List A) → l₁ ≡ [] → (t ≡ false → l₂ ≡ []) → cond t l₁ l₂ ≡ []
left_one true l₁ l₂ f g = f
left_one false l₁ l₂ f g = g refl

-- items of which the last ends a group leave none over
pub left_none :
    {A S : Type 0} (next : S → A → S) (ends : S → Bool) (s : S) (met xs : List A)
    → (ends s ≡ true → met ≡ [])
    → ends (known next s xs) ≡ true
    → left_from next ends s met xs ≡ []
unfolding left_from
left_none next ends s met [] f e = f e
left_none next ends s met (x ∷ xs) f e =
    left_one (ends (next s x)) (left_from next ends (next s x) [] xs) (left_from next ends (next s x) (met ++ (x ∷ [])) xs)
    (left_none next ends (next s x) [] xs (λ _. refl) e)
    (λ n. left_none next ends (next s x) (met ++ (x ∷ [])) xs (λ y. absurd (true≢false (sym y ∙ n))) e)
