-- Where the fields of a header stand, as the code finds them.
-- Assumes nothing.
use Rattle.std.specs.Prelude.{ℕ, ◌+◌, ◌-◌, true, false, cond, List, leb, length, get_or, take, drop, replicate}
use Rattle.cells.specs.Cells.{front}
use Rattle.attach_header.specs.Characters.{unpadded}
use Rattle.attach_header.specs.Fields.{string_of}
use Rattle.attach_header.specs.Read.{Counted, opened, variable_at, PROFILE, PASSWORD, USER, data_of}
use Rattle.attach_header.specs.declared.parts.Part.{Part}
use Rattle.attach_header.specs.declared.reading.Places.{Places}
use Rattle.attach_header.specs.declared.subfields.Security.{Security}
use Rattle.attach_header.specs.declared.work.Work.{Work}

-- the field whose length byte stands at `at`
unfoldable pub part_at : ℕ → List ℕ → Part
part_at at s =
    cond (leb (length s) at) (record { whole = true; start = at; end = at })
    (cond (leb (get_or s at 0) (length s - (at + 1))) (record { whole = true; start = at + 1; end = at + 1 + get_or s at 0 })
    (record { whole = false; start = at + 1; end = length s }))

-- the fields behind the fixed part
unfoldable pub places_of : List ℕ → Places
places_of h =
    let program : Part = part_at (variable_at h) h in
    let security : Part = part_at program.end h in
    record { program = program; security = security; work = part_at security.end h }

-- the security subfields, as a program keeps them
unfoldable pub security_of : List ℕ → Security
security_of s = record { profile = string_of (data_of PROFILE s); password = string_of (data_of PASSWORD s); user = string_of (data_of USER s) }

-- the identifier behind its length byte, as a program keeps it
unfoldable pub work_of : List ℕ → Work
work_of w =
    let o : Counted = opened w in
    record { lu = string_of (unpadded o.field); instance = front (take 6 o.rest) (replicate 6 0); sequence = front (drop 6 o.rest) (replicate 2 0) }
