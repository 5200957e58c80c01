-- The whole tables of a stream: of one list of records after another, that each is a table, and that each table is found.
-- Assumes nothing.
use mathlib.Core.Path.{◌≡◌, refl, ◌∙◌}
use mathlib.Core.Bool.{Bool, true, false, not, cond, ◌&&◌}
use mathlib.Core.List.{List, [], ◌∷◌, ◌++◌, append_assoc}
use Prim.Native.Nat.{ℕ}
use Rattle.logical_record.specs.Groups.{known, groups_from, joined}
use Rattle.logical_record.specs.Records.{is_record, are_records, whole_records, part_more, is_table, are_tables, last_more, tables_from, whole_tables, parts_left}
use Rattle.logical_record.proofs.Groups.{groups_append, groups_items, left_none}
use Rattle.logical_record.proofs.WholeRecords.{whole_records_are, whole_records_joined}
use Rattle.bools.proofs.Tests.{both, join, not_true}

-- ---- one list after another

-- what the record before says does not count
tables_any : (bit : Bool) (met rs : List (List ℕ)) → groups_from last_more not bit met rs ≡ tables_from met rs
unfolding groups_from
tables_any bit met [] = refl
tables_any bit met (r ∷ rs) = refl

-- the tables of a stream stay as they are when more records come
pub tables_append : (a b : List (List ℕ)) → tables_from [] (a ++ b) ≡ tables_from [] a ++ tables_from (parts_left a) b
tables_append a b = groups_append last_more not false [] a b ∙ rw (tables_any (known last_more false a) (parts_left a) b)

pub whole_tables_parts : (bs : List ℕ) → joined (whole_tables bs) ++ parts_left (whole_records bs) ≡ whole_records bs
whole_tables_parts bs = groups_items last_more not false [] (whole_records bs)

-- ---- each is a table

-- parts that all say that another follows
abbrev all_more : List (List ℕ) → Bool
all_more [] = true
all_more (r ∷ rs) = (is_record r && part_more r) && all_more rs

all_more_lem : (met : List (List ℕ)) (r : List ℕ) → all_more met ≡ true → is_record r ≡ true → part_more r ≡ true → all_more (met ++ (r ∷ [])) ≡ true
all_more_lem [] r a i m = rw (i, m)
all_more_lem (s ∷ met) r a i m = let t = both (is_record s && part_more s) (all_more met) a in rw (t.0, all_more_lem met r t.1 i m)

table_ends : (met : List (List ℕ)) (r : List ℕ) → all_more met ≡ true → is_record r ≡ true → part_more r ≡ false → is_table (met ++ (r ∷ [])) ≡ true
table_ends [] r a i m = rw (i, m)
table_ends (s ∷ []) r a i m = let t = both (is_record s && part_more s) true a in rw (t.0, i, m)
table_ends (s ∷ q ∷ met) r a i m =
    let t = both (is_record s && part_more s) (all_more (q ∷ met)) a in
    rw (t.0, table_ends (q ∷ met) r t.1 i m)

tables_one :
    (t : Bool) (met : List (List ℕ)) (r : List ℕ) (ts₁ ts₂ : List (List (List ℕ)))
    → part_more r ≡ t
    → all_more met ≡ true
    → is_record r ≡ true
    → are_tables ts₁ ≡ true
    → (all_more (met ++ (r ∷ [])) ≡ true → are_tables ts₂ ≡ true)
    → are_tables (cond (not t) ((met ++ (r ∷ [])) ∷ ts₁) ts₂) ≡ true
tables_one true met r ts₁ ts₂ e a i f g = g (all_more_lem met r a i e)
tables_one false met r ts₁ ts₂ e a i f g = rw (table_ends met r a i e, f)

tables_are : (bit : Bool) (met rs : List (List ℕ)) → all_more met ≡ true → are_records rs ≡ true → are_tables (groups_from last_more not bit met rs) ≡ true
unfolding groups_from
tables_are bit met [] a h = refl
tables_are bit met (r ∷ rs) a h =
    let t = both (is_record r) (are_records rs) h in
    tables_one (part_more r) met r
    (groups_from last_more not (part_more r) [] rs) (groups_from last_more not (part_more r) (met ++ (r ∷ [])) rs) refl a t.0
    (tables_are (part_more r) [] rs refl t.1) (λ b. tables_are (part_more r) (met ++ (r ∷ [])) rs b t.1)

pub whole_tables_are : (bs : List ℕ) → are_tables (whole_tables bs) ≡ true
whole_tables_are bs = tables_are false [] (whole_records bs) refl (whole_records_are bs)

-- ---- and each table is found

-- its last part ends it
table_alone : (bit : Bool) (met t : List (List ℕ)) → is_table t ≡ true → groups_from last_more not bit met t ≡ (met ++ t) ∷ []
unfolding groups_from
table_alone bit met [] h = cc
table_alone bit met (r ∷ []) h = rw (not_true (part_more r) (both (is_record r) (not (part_more r)) h).1)
table_alone bit met (r ∷ s ∷ rs) h =
    let t = both (is_record r && part_more r) (is_table (s ∷ rs)) h in
    rw (both (is_record r) (part_more r) t.0).1
    (table_alone true (met ++ (r ∷ [])) (s ∷ rs) t.1 ∙ rw (append_assoc met (r ∷ []) (s ∷ rs)))

last_off : (bit : Bool) (t : List (List ℕ)) → is_table t ≡ true → not (known last_more bit t) ≡ true
last_off bit [] h = cc
last_off bit (r ∷ []) h = (both (is_record r) (not (part_more r)) h).1
last_off bit (r ∷ s ∷ rs) h = last_off (part_more r) (s ∷ rs) (both (is_record r && part_more r) (is_table (s ∷ rs)) h).1

table_first : (t rs : List (List ℕ)) → is_table t ≡ true → tables_from [] (t ++ rs) ≡ t ∷ tables_from [] rs
table_first t rs h =
    tables_append t rs
    ∙ rw (table_alone false [] t h, left_none last_more not false [] t (λ _. refl) (last_off false t h))

tables_joined : (ts : List (List (List ℕ))) → are_tables ts ≡ true → tables_from [] (joined ts) ≡ ts
unfolding groups_from
tables_joined [] h = refl
tables_joined (t ∷ ts) h =
    let b = both (is_table t) (are_tables ts) h in
    table_first t (joined ts) b.0 ∙ rw (tables_joined ts b.1)

records_append : (rs qs : List (List ℕ)) → are_records rs ≡ true → are_records qs ≡ true → are_records (rs ++ qs) ≡ true
records_append [] qs h k = k
records_append (r ∷ rs) qs h k = let t = both (is_record r) (are_records rs) h in rw (t.0, records_append rs qs t.1 k)

table_records : (t : List (List ℕ)) → is_table t ≡ true → are_records t ≡ true
table_records [] h = refl
table_records (r ∷ []) h = rw (both (is_record r) (not (part_more r)) h).0
table_records (r ∷ s ∷ rs) h =
    let t = both (is_record r && part_more r) (is_table (s ∷ rs)) h in
    join (is_record r) (are_records (s ∷ rs)) (both (is_record r) (part_more r) t.0).0 (table_records (s ∷ rs) t.1)

tables_records : (ts : List (List (List ℕ))) → are_tables ts ≡ true → are_records (joined ts) ≡ true
tables_records [] h = refl
tables_records (t ∷ ts) h =
    let b = both (is_table t) (are_tables ts) h in
    records_append t (joined ts) (table_records t b.0) (tables_records ts b.1)

pub whole_tables_joined : (ts : List (List (List ℕ))) → are_tables ts ≡ true → whole_tables (joined (joined ts)) ≡ ts
whole_tables_joined ts h = rw (whole_records_joined (joined ts) (tables_records ts h)) (tables_joined ts h)
