-- Each code and each part of an image, written and read, is what it was; and the other way round.
-- Assumes nothing.
use mathlib.Core.Path.{◌≡◌, refl, sym, ap, ◌∙◌}
use mathlib.Core.Bool.{Bool, true, false}
use mathlib.Core.List.{List, [], ◌∷◌}
use Prim.Native.Nat.{ℕ, zero, suc, ◌+◌, ◌*◌, ◌/◌, ◌%◌, ◌<◌, ◌≤◌}
use native.Mathlib.Nat.{div-add-mod', div-eq_of_lt, mod-eq_of_lt, mul-add-div_right, mul-add-mod_self_right, add-zero}
use native.Mathlib.Omega.{arith}
use lib.Dec.{eqb, leb}
use borrow.Author.Tests.{leb-true, lt-leb, eqb-true, ne_eqb}
use Rattle.unit.specs.Unit.{number_of}
use Rattle.header.specs.declared.Follows.{Follows}
use Rattle.header.specs.declared.Follows.TheVariants.{Stay, ChangeDirection, EndBracket}
use Rattle.logical_record.specs.declared.Position.{Position}
use Rattle.logical_record.specs.declared.Position.TheVariants.{Between, AfterFirst, Remaining}
use Rattle.control.specs.StateTests.{role_number, state_number, mark_number}
use Rattle.control.specs.declared.Role.{Role}
use Rattle.control.specs.declared.Role.TheVariants.{FirstSpeaker, Bidder}
use Rattle.control.specs.declared.State.{State}
use Rattle.control.specs.declared.State.TheVariants.{Reset, Send, Receive, ConfirmOwed, ConfirmAwaited, DeferTurn, DeferEnd}
use Rattle.control.specs.declared.WhatReceived.{WhatReceived}
use Rattle.control.specs.declared.WhatReceived.TheVariants as mark
use Rattle.control.specs.StateTests.{role_of}
use Rattle.image.specs.Codes.{state_of, follows_number, follows_of, mark_of}
use Rattle.image.specs.ImageParts.{flag_byte, number_bytes, place_kind, place_value, place_bytes, place_of, place_fits, first_byte}

past : {A : Type 0} (n k : ℕ) → leb n k ≡ true → k < n → A
past n k h g = absurd (let l : n ≤ k = leb-true n k h in omega arith)

-- ---- written, and read back

pub role_back : (r : Role) → role_of (role_number r) ≡ r
role_back FirstSpeaker = refl
role_back Bidder = refl

pub state_back : (s : State) → state_of (state_number s) ≡ s
state_back Reset = refl
state_back Send = refl
state_back Receive = refl
state_back ConfirmOwed = refl
state_back ConfirmAwaited = refl
state_back DeferTurn = refl
state_back DeferEnd = refl

pub follows_back : (f : Follows) → follows_of (follows_number f) ≡ f
follows_back Stay = refl
follows_back ChangeDirection = refl
follows_back EndBracket = refl

pub mark_back : (m : WhatReceived) → mark_of (mark_number m) ≡ m
mark_back mark.Nothing = refl
mark_back mark.Turn = refl
mark_back mark.End = refl
mark_back mark.Confirm = refl
mark_back mark.ConfirmTurn = refl
mark_back mark.ConfirmEnd = refl
mark_back mark.Error = refl

pub flag_back : (on : Bool) → leb 1 (flag_byte on) ≡ on
flag_back true = refl
flag_back false = refl

pub number_back : (n : ℕ) → number_of (n / 256) (n % 256) ≡ n
number_back n = div-add-mod' n 256

pub place_back : (p : Position) → first_byte p < 256 → place_of (place_kind p) (place_value p % 256) (place_value p / 256) ≡ p
place_back (Between true) h = refl
place_back (Between false) h = refl
place_back (AfterFirst b) h = ap AfterFirst (mod-eq_of_lt h)
place_back (Remaining true n) h = rw (number_back n)
place_back (Remaining false n) h = rw (number_back n)

-- ---- each byte written is good

pub role_good : (r : Role) → leb (role_number r) 1 ≡ true
role_good FirstSpeaker = refl
role_good Bidder = refl

pub state_good : (s : State) → leb (state_number s) 6 ≡ true
state_good Reset = refl
state_good Send = refl
state_good Receive = refl
state_good ConfirmOwed = refl
state_good ConfirmAwaited = refl
state_good DeferTurn = refl
state_good DeferEnd = refl

pub follows_good : (f : Follows) → leb (follows_number f) 2 ≡ true
follows_good Stay = refl
follows_good ChangeDirection = refl
follows_good EndBracket = refl

pub mark_good : (m : WhatReceived) → leb (mark_number m) 6 ≡ true
mark_good mark.Nothing = refl
mark_good mark.Turn = refl
mark_good mark.End = refl
mark_good mark.Confirm = refl
mark_good mark.ConfirmTurn = refl
mark_good mark.ConfirmEnd = refl
mark_good mark.Error = refl

pub flag_good_lem : (on : Bool) → leb (flag_byte on) 1 ≡ true
flag_good_lem true = refl
flag_good_lem false = refl

pub place_good_lem : (p : Position) → first_byte p < 256 → place_fits (place_kind p) (place_value p % 256) (place_value p / 256) ≡ true
place_good_lem (Between true) h = refl
place_good_lem (Between false) h = refl
place_good_lem (AfterFirst b) h = rw (div-eq_of_lt h)
place_good_lem (Remaining true n) h = refl
place_good_lem (Remaining false n) h = refl

-- ---- read, and written again

pub role_there : (n : ℕ) → leb n 1 ≡ true → role_number (role_of n) ≡ n
role_there zero h = refl
role_there (suc zero) h = refl
role_there (suc (suc n)) h = past (suc (suc n)) 1 h (omega arith)

pub state_there : (n : ℕ) → leb n 6 ≡ true → state_number (state_of n) ≡ n
state_there zero h = refl
state_there (suc zero) h = refl
state_there (suc (suc zero)) h = refl
state_there (suc (suc (suc zero))) h = refl
state_there (suc (suc (suc (suc zero)))) h = refl
state_there (suc (suc (suc (suc (suc zero))))) h = refl
state_there (suc (suc (suc (suc (suc (suc zero)))))) h = refl
state_there (suc (suc (suc (suc (suc (suc (suc n))))))) h = past (suc (suc (suc (suc (suc (suc (suc n))))))) 6 h (omega arith)

pub follows_there : (n : ℕ) → leb n 2 ≡ true → follows_number (follows_of n) ≡ n
follows_there zero h = refl
follows_there (suc zero) h = refl
follows_there (suc (suc zero)) h = refl
follows_there (suc (suc (suc n))) h = past (suc (suc (suc n))) 2 h (omega arith)

pub mark_there : (n : ℕ) → leb n 6 ≡ true → mark_number (mark_of n) ≡ n
mark_there zero h = refl
mark_there (suc zero) h = refl
mark_there (suc (suc zero)) h = refl
mark_there (suc (suc (suc zero))) h = refl
mark_there (suc (suc (suc (suc zero)))) h = refl
mark_there (suc (suc (suc (suc (suc zero))))) h = refl
mark_there (suc (suc (suc (suc (suc (suc zero)))))) h = refl
mark_there (suc (suc (suc (suc (suc (suc (suc n))))))) h = past (suc (suc (suc (suc (suc (suc (suc n))))))) 6 h (omega arith)

pub flag_there : (n : ℕ) → leb n 1 ≡ true → flag_byte (leb 1 n) ≡ n
flag_there zero h = refl
flag_there (suc zero) h = refl
flag_there (suc (suc n)) h = past (suc (suc n)) 1 h (omega arith)

pub number_there : (low high : ℕ) → low < 256 → number_bytes (number_of high low) ≡ low ∷ high ∷ []
number_there low high h =
    let d : (high * 256 + low) / 256 ≡ high = mul-add-div_right (omega arith) high low ∙ ap (λ (k : ℕ). high + k) (div-eq_of_lt h) ∙ add-zero high in
    let m : (high * 256 + low) % 256 ≡ low = mul-add-mod_self_right high 256 low ∙ mod-eq_of_lt h in
    rw (d, m)

-- a place between records has the number 0, whatever its kind
none_there : (kind low high : ℕ) → eqb (number_of high low) 0 ≡ true → ◌≡◌ {A = List ℕ} (kind ∷ 0 ∷ 0 ∷ []) (kind ∷ low ∷ high ∷ [])
none_there kind zero zero e = refl
none_there kind zero (suc high) e = let z : number_of (suc high) 0 ≡ 0 = eqb-true _ 0 e in absurd (omega arith)
none_there kind (suc low) high e = let z : number_of high (suc low) ≡ 0 = eqb-true _ 0 e in absurd (omega arith)

pub place_there : (kind low high : ℕ) → low < 256 → place_fits kind low high ≡ true → place_bytes (place_of kind low high) ≡ kind ∷ low ∷ high ∷ []
place_there zero low high h e = none_there 0 low high e
place_there (suc zero) low high h e = none_there 1 low high e
place_there (suc (suc zero)) low high h e = ap (λ (l : List ℕ). 2 ∷ l) (number_there low high h)
place_there (suc (suc (suc zero))) low high h e = ap (λ (l : List ℕ). 3 ∷ l) (number_there low high h)
place_there (suc (suc (suc (suc zero)))) low high h e = rw (eqb-true high 0 e, div-eq_of_lt h, mod-eq_of_lt h)
place_there (suc (suc (suc (suc (suc n))))) low high h e =
    let k : ℕ = suc (suc (suc (suc (suc n)))) in
    let f : place_fits k low high ≡ leb k 3 = rw (lt-leb k 1 (omega arith), ne_eqb k 4 (λ z. omega arith)) in
    past k 3 (sym f ∙ e) (omega arith)
