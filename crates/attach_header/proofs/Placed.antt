-- The fields of the variable part where the code finds them.
-- Assumes nothing.
use mathlib.Core.Path.{◌≡◌, sym, ap, subst, ◌∙◌}
use mathlib.Core.Bool.{true}
use mathlib.Core.List.{List}
use Prim.Native.Nat.{ℕ, ◌-◌}
use lib.ListN.{length, take, drop}
use Rattle.attach_header.specs.Read.{opened, variable_at, fixed_good, program_in, security_in, work_in}
use Rattle.attach_header.specs.Places.{part_at, places_of}
use Rattle.attach_header.specs.declared.parts.Part.{Part}
use Rattle.attach_header.specs.declared.reading.Places.{Places}
use Rattle.attach_header.proofs.FoundParts.{found, rest_length}
use Rattle.attach_header.proofs.FixedPart.{fixed}

abbrev pub here : List ℕ → Part → List ℕ
here h p = take (p.end - p.start) (drop p.start h)

pub record Placed (h : List ℕ) (q : Places) : Type 0 where
  pub program_whole : q.program.whole ≡ (program_in h).whole
  pub program : here h q.program ≡ (program_in h).field
  pub security_whole : q.security.whole ≡ (security_in h).whole
  pub security : here h q.security ≡ (security_in h).field
  pub work_whole : q.work.whole ≡ (work_in h).whole
  pub work : here h q.work ≡ (work_in h).field
  pub rest : length h - q.work.end ≡ length (work_in h).rest

placed_at : (h : List ℕ) → fixed_good h ≡ true → Placed h (places_of h)
unfolding places_of
placed_at h g =
    let p : Part = part_at (variable_at h) h in
    let s : Part = part_at p.end h in
    let a = found (variable_at h) h (fixed h g).fits in
    let b = found p.end h a.within in
    let c = found s.end h b.within in
    let e = b.rest ∙ ap (λ (x : List ℕ). (opened x).rest) a.rest in
    record {
      program_whole = a.whole;
      program = a.field;
      security_whole = b.whole ∙ ap (λ (x : List ℕ). (opened x).whole) a.rest;
      security = b.field ∙ ap (λ (x : List ℕ). (opened x).field) a.rest;
      work_whole = c.whole ∙ ap (λ (x : List ℕ). (opened x).whole) e;
      work = c.field ∙ ap (λ (x : List ℕ). (opened x).field) e;
      rest = sym (rest_length c) ∙ ap (λ (x : List ℕ). length (opened x).rest) e;
    }

pub placed : {h : List ℕ} {q : Places} → fixed_good h ≡ true → q ≡ places_of h → Placed h q
placed {h} g e = subst (Placed h) (sym e) (placed_at h g)
