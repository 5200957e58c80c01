-- `attach_header::reading::find_places` meets its contract.
-- Assumes nothing.
use mathlib.Core.Path.{◌≡◌, ap, ◌∙◌}
use mathlib.Core.List.{List}
use Prim.Native.Nat.{ℕ}
use native.Mathlib.Omega.{arith}
use Rattle.attach_header.specs.Read.{variable_at}
use Rattle.attach_header.specs.declared.parts.Part.{Part}
use Rattle.attach_header.specs.declared.reading.Places.{Places}
use Rattle.attach_header.specs.Places.{part_at, places_of}
use Rattle.attach_header.proofs.FixedPart.{fixed}
use Rattle.attach_header.proofs.reading.find_places.Goals as goal

pub bounds-h-5 : goal.bounds-h-5
bounds-h-5 c =
    let f = fixed c.args.h.now c.requires in
    omega (arith, f.least, f.fits)

pub part_at-program-requires : goal.part_at-program-requires
part_at-program-requires c = (fixed c.args.h.now c.requires).fits

-- each part begins where the one before it ends
in_turn : (h : List ℕ) {a b c : Part} → a ≡ part_at (variable_at h) h → b ≡ part_at a.end h → c ≡ part_at b.end h
    → ◌≡◌ {A = Places} (record { program = a; security = b; work = c }) (places_of h)
unfolding places_of
in_turn h d e f =
    let after : Part → Part = λ p. part_at p.end h in
    rw (d, e ∙ ap after d, f ∙ ap after (e ∙ ap after d))

pub returns : goal.returns
returns c = record {
  value = in_turn c.args.h.now c.part_at-program.ensures.value c.part_at-security.ensures.value c.part_at-work.ensures.value;
  start_le_end = c.part_at-program.ensures.start_le_end;
  start_le_end_2 = c.part_at-security.ensures.start_le_end;
  start_le_end_3 = c.part_at-work.ensures.start_le_end;
}
