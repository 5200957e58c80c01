-- A list cut into groups: bytes into records, records into tables.
-- Assumes nothing.
use Rattle.std.specs.Prelude.{Bool, cond, List, [], ◌∷◌, ◌++◌}

-- what is known after these items, if `next` takes it one item further
abbrev pub known : {A S : Type 0} → (S → A → S) → S → List A → S
known next s [] = s
known next s (x ∷ xs) = known next (next s x) xs

-- the groups that end in the items ahead: a group ends where `ends` says so of what is known; `met` has been met of the current group
unfoldable pub groups_from : {A S : Type 0} → (S → A → S) → (S → Bool) → S → List A → List A → List (List A)
groups_from next ends s met [] = []
groups_from next ends s met (x ∷ xs) =
    cond (ends (next s x))
    ((met ++ (x ∷ [])) ∷ groups_from next ends (next s x) [] xs)
    (groups_from next ends (next s x) (met ++ (x ∷ [])) xs)

-- the items that are in none of these groups
unfoldable pub left_from : {A S : Type 0} → (S → A → S) → (S → Bool) → S → List A → List A → List A
left_from next ends s met [] = met
left_from next ends s met (x ∷ xs) =
    cond (ends (next s x))
    (left_from next ends (next s x) [] xs)
    (left_from next ends (next s x) (met ++ (x ∷ [])) xs)

-- the items of groups, one group after another
abbrev pub joined : {A : Type 0} → List (List A) → List A
joined [] = []
joined (g ∷ gs) = g ++ joined gs
