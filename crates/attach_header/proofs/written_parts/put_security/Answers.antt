-- `attach_header::written_parts::put_security` meets its contract.
-- Assumes nothing.
use mathlib.Core.List.{◌++◌}
use mathlib.Core.List.{List}
use Prim.Native.Nat.{ℕ, ◌+◌, ◌≤◌}
use lib.ListN.{length}
use Rattle.digits.proofs.Puts.{Left, left_all, left_less}
use Rattle.attach_header.specs.declared.SymbolString.{SymbolString}
use Rattle.attach_header.specs.Fields.{text_of}
use Rattle.attach_header.specs.Read.{PROFILE, PASSWORD, USER}
use Rattle.attach_header.specs.Written.{subfield, three_subfields}
use Rattle.attach_header.proofs.Pieces.{last, next_fits, last_fits}
use Rattle.attach_header.proofs.written_parts.put_security.Goals as goal

-- all three, in pieces
all_three : (profile password user : SymbolString) (at : ℕ) (out : List ℕ)
    → at + length (three_subfields (text_of profile) (text_of password) (text_of user)) ≤ length out
    → Left (three_subfields (text_of profile) (text_of password) (text_of user)) at out
    (subfield PROFILE (text_of profile) ++ (subfield PASSWORD (text_of password) ++ subfield USER (text_of user))) at out
unfolding three_subfields
all_three profile password user at out h = left_all h

pub put_subfield-second-requires : goal.put_subfield-second-requires
put_subfield-second-requires c =
    let a = c.args in
    let p = c.requires in
    let two = subfield PASSWORD (text_of a.password) ++ subfield USER (text_of a.user) in
    (p.profile_value.0, next_fits (subfield PROFILE (text_of a.profile)) two (all_three a.profile a.password a.user a.at a.out.now p.user_in_bounds))

pub put_subfield-third-requires : goal.put_subfield-third-requires
put_subfield-third-requires c =
    let a = c.args in
    let p = c.requires in
    let one = left_less (subfield PROFILE (text_of a.profile)) (all_three a.profile a.password a.user a.at a.out.now p.user_in_bounds) c.put_subfield-second.ensures in
    (p.profile_value.1, next_fits (subfield PASSWORD (text_of a.password)) (subfield USER (text_of a.user)) one)

pub put_subfield-requires : goal.put_subfield-requires
put_subfield-requires c =
    let d = c in
    let a = d.args in
    let p = d.requires in
    let one = left_less (subfield PROFILE (text_of a.profile)) (all_three a.profile a.password a.user a.at a.out.now p.user_in_bounds) d.put_subfield-second.ensures in
    let two = left_less (subfield PASSWORD (text_of a.password)) one c.put_subfield-third.ensures in
    (p.profile_value.2, last_fits (subfield USER (text_of a.user)) two)

pub returns : goal.returns
returns c =
    let d = c in
    let a = d.args in
    let p = d.requires in
    let one = left_less (subfield PROFILE (text_of a.profile)) (all_three a.profile a.password a.user a.at a.out.now p.user_in_bounds) d.put_subfield-second.ensures in
    let two = left_less (subfield PASSWORD (text_of a.password)) one c.put_subfield-third.ensures in
    last (subfield USER (text_of a.user)) two c.put_subfield.ensures
